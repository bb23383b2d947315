-- How figures add up: what a tally adds in two steps it adds in one, in either order; over a list of them, in any order and in any parts.
-- That a sum keeps the limits of number 15. Rests on what a counted pair rests on.
use Rattle.std.specs.Prelude.{◌≡◌, refl, true, ◌&&◌, leb, eqb, get_or, replicate}
use Rattle.std.proofs.Common.{sym, ap, ap₂, ◌∙◌, subst, arith, add-mul, add_comm, add_assoc, leb-true, eqb-true}
use mathlib.Core.List.{List, [], ◌∷◌, Permᴰ}
use Prim.Native.Nat.{ℕ, ◌+◌, ◌-◌, ◌*◌, ◌/◌, ◌^◌, ◌≤◌, ◌<◌}
use Rattle.std.proofs.Math.ListN.{length}
use Rattle.std.proofs.lemmas.List.{length-replicate, get_or-replicate}
use Rattle.laws.specs.Choose.{worked, unserved, passed, both_true, both_same}
use Rattle.laws.specs.Every.{most_all}
use Rattle.laws.specs.FillLaws.{fill_same}
use Rattle.domain.specs.Domain.{depth_ok, side_ok, ctu_ok}
use Rattle.domain.specs.Facts.{Depth, depth_of}
use Rattle.order.specs.Order.{picture_ok}
use Rattle.order.specs.Good.{Good}
use Rattle.plan.specs.declared.tiling.Frame.{Frame}
use Rattle.plan.specs.tiling.Tiling.{picture_of}
use Rattle.plan.specs.tiling.Tests.{picture_good}
use Rattle.errors.specs.declared.Report.{Report}
use Rattle.errors.specs.Errors.{Tally, tallied, tally_of, raised, fresh_report, plane_area, top_of, samples_so_far}
use Rattle.errors.specs.Errors.{keeps_limits, same_settings, join_no, join_reports}
use Rattle.errors.specs.Served.{Figured, Limitable}
use Rattle.errors.specs.Limits.{raised_at, length_raised, same_figures, limits_small, limits_each}

-- a tally and another
abbrev pub both_tallies : Tally → Tally → Tally
both_tallies t u =
    record {
      pairs = t.pairs + u.pairs;
      blocks = λ m. t.blocks m + u.blocks m;
      samples = λ m. t.samples m + u.samples m;
      squares = λ m. t.squares m + u.squares m;
    }

-- a report made of three lists of figures
made : Report → ℕ → List ℕ → List ℕ → List ℕ → Report
made r pairs blocks samples squares =
    record { bits = r.bits; frame = r.frame; pairs = pairs; blocks = blocks; samples = samples; squares = squares }

made_same : (r : Report) {p q : ℕ} {a b c d e f : List ℕ} → p ≡ q → a ≡ b → c ≡ d → e ≡ f → made r p a c e ≡ made r q b d f
unfolding made
made_same r h x y z = λ i. record { bits = r.bits; frame = r.frame; pairs = h i; blocks = x i; samples = y i; squares = z i }

raised_same : (f g : ℕ → ℕ) (l : List ℕ) → ((m : ℕ) → m < 35 → f m ≡ g m) → raised f l ≡ raised g l
raised_same f g l h = fill_same _ _ 35 l (λ m n. ap (λ (v : ℕ). get_or l m 0 + v) (h m n))

raised_twice : (f g : ℕ → ℕ) (l : List ℕ) → length l ≡ 35 → raised g (raised f l) ≡ raised (λ m. f m + g m) l
raised_twice f g l long =
    let once = length_raised f l ∙ long in
    same_figures _ _ (length_raised g (raised f l) ∙ once) (length_raised (λ m. f m + g m) l ∙ long)
    (λ m h. omega (arith, raised_at g (raised f l) once m h, raised_at f l long m h, raised_at (λ m. f m + g m) l long m h))

pub tallied_figured : (r : Report) (t : Tally) → Figured r → Figured (tallied r t)
tallied_figured r t long = (
  length_raised t.blocks r.blocks ∙ long.0,
  (length_raised t.samples r.samples ∙ long.1.0, length_raised t.squares r.squares ∙ long.1.1),
)

-- the same at every mode
pub tallied_same : (r : Report) (t u : Tally) → t.pairs ≡ u.pairs → ((m : ℕ) → m < 35
    → (t.blocks m ≡ u.blocks m) × ((t.samples m ≡ u.samples m) × (t.squares m ≡ u.squares m))) → tallied r t ≡ tallied r u
unfolding made
tallied_same r t u e h =
    made_same r (ap (λ (n : ℕ). r.pairs + n) e) (raised_same _ _ r.blocks (λ m l. (h m l).0))
    (raised_same _ _ r.samples (λ m l. (h m l).1.0)) (raised_same _ _ r.squares (λ m l. (h m l).1.1))

-- in two steps as in one, and in either order
pub tallied_twice : (r : Report) (t u : Tally) → Figured r → tallied (tallied r t) u ≡ tallied r (both_tallies t u)
unfolding made
tallied_twice r t u long =
    made_same r (add_assoc r.pairs t.pairs u.pairs) (raised_twice _ _ r.blocks long.0)
    (raised_twice _ _ r.samples long.1.0) (raised_twice _ _ r.squares long.1.1)

pub tallied_order : (r : Report) (t u : Tally) → Figured r → tallied (tallied r t) u ≡ tallied (tallied r u) t
tallied_order r t u long =
    tallied_twice r t u long
    ∙ tallied_same r (both_tallies t u) (both_tallies u t) (add_comm t.pairs u.pairs)
    (λ m l. (add_comm (t.blocks m) (u.blocks m), (add_comm (t.samples m) (u.samples m), add_comm (t.squares m) (u.squares m))))
    ∙ sym (tallied_twice r u t long)

-- one after the other
unfoldable pub tallied_all : Report → List Tally → Report
tallied_all r [] = r
tallied_all r (t ∷ ts) = tallied_all (tallied r t) ts

pub all_figured : (r : Report) (ts : List Tally) → Figured r → Figured (tallied_all r ts)
unfolding tallied_all
all_figured r [] long = long
all_figured r (t ∷ ts) long = all_figured (tallied r t) ts (tallied_figured r t long)

-- in any order
pub any_order : (r : Report) {ts us : List Tally} → Figured r → Permᴰ ts us → tallied_all r ts ≡ tallied_all r us
unfolding tallied_all
any_order r long Permᴰ.nil = refl
any_order r long (Permᴰ.cons {b = u} {l₁ = ts} e p) =
    ap (λ (t : Tally). tallied_all (tallied r t) ts) e ∙ any_order (tallied r u) (tallied_figured r u long) p
any_order r long (Permᴰ.swap {a = t} {b = u} {l = ts} e q) =
    ap (λ (x : Report). tallied_all x ts) (tallied_order r t u long)
    ∙ ap₂ (λ (x y : Tally). tallied_all (tallied (tallied r x) y) ts) q e
any_order r long (Permᴰ.trans p q) = any_order r long p ∙ any_order r long q

-- a report of a list, put to another: what was counted apart is counted together
pub fresh_figured : (bits : ℕ) (frame : Frame) → Figured (fresh_report bits frame)
fresh_figured bits frame = (length-replicate {A = ℕ} 35 0, (length-replicate {A = ℕ} 35 0, length-replicate {A = ℕ} 35 0))

fresh_adds : (bits : ℕ) (frame : Frame) (r : Report) → Figured r → tallied r (tally_of (fresh_report bits frame)) ≡ r
unfolding made
fresh_adds bits frame r long =
    made_same r (omega arith) (none r.blocks long.0) (none r.samples long.1.0) (none r.squares long.1.1)
  where
    none : (l : List ℕ) → length l ≡ 35 → raised (λ m. get_or (replicate 35 0) m 0) l ≡ l
    none l e =
        same_figures _ l (length_raised (λ m. get_or (replicate 35 0) m 0) l ∙ e) e
        (λ m h. omega (arith, raised_at (λ m. get_or (replicate 35 0) m 0) l e m h, get_or-replicate {A = ℕ} 35 m 0 0 h))

-- what a report was raised by, put to another
carried : (r s : Report) (t : Tally) → Figured r → Figured s → tallied r (tally_of (tallied s t)) ≡ tallied (tallied r (tally_of s)) t
carried r s t long along =
    tallied_same r (tally_of (tallied s t)) (both_tallies (tally_of s) t) refl
    (λ m h. (
      raised_at t.blocks s.blocks along.0 m h,
      (raised_at t.samples s.samples along.1.0 m h, raised_at t.squares s.squares along.1.1 m h),
    ))
    ∙ sym (tallied_twice r (tally_of s) t long)

put_together : (r s : Report) (ts : List Tally) → Figured r → Figured s → tallied r (tally_of (tallied_all s ts))
    ≡ tallied_all (tallied r (tally_of s)) ts
unfolding tallied_all
put_together r s [] long along = refl
put_together r s (t ∷ ts) long along =
    put_together r (tallied s t) ts long (tallied_figured s t along) ∙ ap (λ (x : Report). tallied_all x ts) (carried r s t long along)

pub counted_apart : (bits : ℕ) (frame : Frame) (r : Report) (ts : List Tally) → Figured r
    → tallied r (tally_of (tallied_all (fresh_report bits frame) ts)) ≡ tallied_all r ts
counted_apart bits frame r ts long =
    put_together r (fresh_report bits frame) ts long (fresh_figured bits frame)
    ∙ ap (λ (x : Report). tallied_all x ts) (fresh_adds bits frame r long)

-- a tally that has no more, of any mode, than its pairs can give
abbrev pub Modest : Report → Tally → Type 0
Modest r t = (m : ℕ) → (t.blocks m ≤ t.pairs * plane_area r / 16)
    × ((t.samples m ≤ t.pairs * plane_area r) × (t.squares m ≤ t.pairs * plane_area r * (top_of r * top_of r)))

module _ (r : Report) (t : Tally) (limits : keeps_limits r ≡ true) (modest : Modest r t) where
  all_samples : (r.pairs + t.pairs) * plane_area r ≡ samples_so_far r + t.pairs * plane_area r
  all_samples = add-mul r.pairs t.pairs (plane_area r)

  all_squares : (r.pairs + t.pairs) * plane_area r * (top_of r * top_of r)
      ≡ samples_so_far r * (top_of r * top_of r) + t.pairs * plane_area r * (top_of r * top_of r)
  all_squares =
      ap (λ (v : ℕ). v * (top_of r * top_of r)) all_samples ∙ add-mul (samples_so_far r) (t.pairs * plane_area r) (top_of r * top_of r)

  -- the sums are within the limits of all pairs
  sum_within : (m : ℕ) → (get_or r.blocks m 0 + t.blocks m ≤ (r.pairs + t.pairs) * plane_area r / 16)
      × ((get_or r.samples m 0 + t.samples m ≤ (r.pairs + t.pairs) * plane_area r)
      × (get_or r.squares m 0 + t.squares m ≤ (r.pairs + t.pairs) * plane_area r * (top_of r * top_of r)))
  sum_within m =
      let l = limits_each r limits m in
      let k = modest m in
      (omega (arith, l.0, k.0, all_samples), (omega (arith, l.1.0, k.1.0, all_samples), omega (arith, l.1.1, k.1.1, all_squares)))

  -- so the sum keeps them
  pub limits_kept : Figured r → keeps_limits (tallied r t) ≡ true
  unfolding keeps_limits
  limits_kept long =
      both_same
      (both_same
      (most_all _ _ (λ m h. let n = small t.blocks r.blocks long.0 m h in
      omega (arith, raised_at t.blocks r.blocks long.0 m n, (sum_within m).0)))
      (most_all _ _ (λ m h. let n = small t.samples r.samples long.1.0 m h in
      omega (arith, raised_at t.samples r.samples long.1.0 m n, (sum_within m).1.0))))
      (most_all _ _ (λ m h. let n = small t.squares r.squares long.1.1 m h in
      omega (arith, raised_at t.squares r.squares long.1.1 m n, (sum_within m).1.1)))
    where
      small : (f : ℕ → ℕ) (l : List ℕ) → length l ≡ 35 → (m : ℕ) → m < length (raised f l) → m < 35
      small f l e m h = omega (arith, h, length_raised f l, e)

  -- and fits in 64 bits where the pairs are no more than 65,536
  pub sum_fits : Depth r.bits → Good (picture_of r.frame) → r.pairs + t.pairs ≤ 65536
      → (m : ℕ) → (get_or r.blocks m 0 + t.blocks m < 18446744073709551616)
      × ((get_or r.samples m 0 + t.samples m < 18446744073709551616) × (get_or r.squares m 0 + t.squares m < 18446744073709551616))
  sum_fits d g few m =
      let s = limits_small {r = record {
        bits = r.bits;
        frame = r.frame;
        pairs = r.pairs + t.pairs;
        blocks = r.blocks;
        samples = r.samples;
        squares = r.squares;
      }} (record { depth = d; picture = g; few = few }) in
      let w = sum_within m in
      (omega (arith, w.0, s.0), (omega (arith, w.1.0, s.0), omega (arith, w.1.1, s.1.1)))

-- two reports whose sum is not refused
pub record Joinable (r s : Report) : Type 0 where
  pub depth : Depth r.bits
  pub picture : Good (picture_of r.frame)
  pub bits_same : s.bits ≡ r.bits
  pub width_same : s.frame.width ≡ r.frame.width
  pub height_same : s.frame.height ≡ r.frame.height
  pub ctu_same : s.frame.ctu ≡ r.frame.ctu
  pub few : r.pairs + s.pairs ≤ 65536
  pub first_keeps : keeps_limits r ≡ true
  pub second_keeps : keeps_limits s ≡ true

pub settings_same : (r s : Report) → same_settings r s ≡ true → (s.bits ≡ r.bits)
    × ((s.frame.width ≡ r.frame.width) × ((s.frame.height ≡ r.frame.height) × (s.frame.ctu ≡ r.frame.ctu)))
settings_same r s e =
    let w = eqb s.frame.width r.frame.width in
    let h = eqb s.frame.height r.frame.height in
    let p = both_true (eqb s.bits r.bits && w && h) (eqb s.frame.ctu r.frame.ctu) e in
    let q = both_true (eqb s.bits r.bits && w) h p.0 in
    let u = both_true (eqb s.bits r.bits) w q.0 in
    (eqb-true _ _ u.0, (eqb-true _ _ u.1, (eqb-true _ _ q.1, eqb-true _ _ p.1)))

-- what the first's settings are, the second's are
pub same_limitable : (r s : Report) → same_settings r s ≡ true → Depth r.bits → picture_ok (picture_of r.frame) ≡ true → s.pairs ≤ 65536
    → Limitable s
same_limitable r s e d g few =
    let q = settings_same r s e in
    record {
      depth = subst Depth (sym q.0) d;
      picture = picture_good s.frame
          (both_same (both_same (ap side_ok q.1.0) (ap side_ok q.1.1.0)) (ap ctu_ok q.1.1.1) ∙ g);
      few = few;
    }

pub joinable : (r s : Report) → join_no r s ≡ 0 → Joinable r s
unfolding join_no
joinable r s e =
    let a = passed (depth_ok r.bits) _ 1 (omega arith) e in
    let b = passed (picture_ok (picture_of r.frame) && same_settings r s) _ 4 (omega arith) a.1 in
    let p = both_true (picture_ok (picture_of r.frame)) (same_settings r s) b.0 in
    let same = settings_same r s p.1 in
    let c = passed (leb (r.pairs + s.pairs) 65536 && (keeps_limits r && keeps_limits s)) 0 15 (omega arith) b.1 in
    let d = both_true (leb (r.pairs + s.pairs) 65536) (keeps_limits r && keeps_limits s) c.0 in
    let k = both_true (keeps_limits r) (keeps_limits s) d.1 in
    record {
      depth = depth_of r.bits a.0;
      picture = picture_good r.frame p.0;
      bits_same = same.0;
      width_same = same.1.0;
      height_same = same.1.1.0;
      ctu_same = same.1.1.1;
      few = leb-true (r.pairs + s.pairs) 65536 d.0;
      first_keeps = k.0;
      second_keeps = k.1;
    }

pub join_modest : (r s : Report) → Joinable r s → Modest r (tally_of s)
join_modest r s j m =
    let l = limits_each s j.second_keeps m in
    let e : plane_area s ≡ plane_area r = ap₂ (λ (x y : ℕ). x * y) j.height_same j.width_same in
    let t : top_of s ≡ top_of r = ap (λ (k : ℕ). 2 ^ k - 1) j.bits_same in
    let n = ap (λ (v : ℕ). s.pairs * v) e in
    let q = ap₂ (λ (x y : ℕ). x * (y * y)) n t in
    (omega (arith, l.0, n), (omega (arith, l.1.0, n), omega (arith, l.1.1, q)))

pub join_fits : (r s : Report) → join_no r s ≡ 0 → (m : ℕ) → (get_or r.blocks m 0 + get_or s.blocks m 0 < 18446744073709551616)
    × ((get_or r.samples m 0 + get_or s.samples m 0 < 18446744073709551616)
    × (get_or r.squares m 0 + get_or s.squares m 0 < 18446744073709551616))
join_fits r s e m =
    let j = joinable r s e in
    sum_fits r (tally_of s) j.first_keeps (join_modest r s j) j.depth j.picture j.few m

-- the sum, list by list
pub added_same : (r s : Report) {a b c : List ℕ} → a ≡ raised (λ m. get_or s.blocks m 0) r.blocks
    → b ≡ raised (λ m. get_or s.samples m 0) r.samples → c ≡ raised (λ m. get_or s.squares m 0) r.squares
    → record { bits = r.bits; frame = r.frame; pairs = r.pairs + s.pairs; blocks = a; samples = b; squares = c } ≡ tallied r (tally_of s)
unfolding made
added_same r s x y z = made_same r refl x y z

-- the two ways of a sum
pub joined_not : (r s : Report) {k : ℕ} → k ≡ join_no r s → (k ≡ 0 → ⊥) → record { no = k; next = r } ≡ join_reports r s
unfolding join_reports
joined_not r s e d = ap₂ (λ (n : ℕ) (x : Report). record { no = n; next = x }) e (unserved (join_no r s) _ r (λ z. d (e ∙ z)))

pub joined_so : (r s : Report) → join_no r s ≡ 0 → {x : Report} → x ≡ tallied r (tally_of s) → record { no = 0; next = x } ≡ join_reports r s
unfolding join_reports
joined_so r s e q = ap₂ (λ (n : ℕ) (y : Report). record { no = n; next = y }) (sym e) (q ∙ worked (join_no r s) _ r e)
