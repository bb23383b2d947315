-- The page Errors, proved. Rests on the sums over a good plan (errors/proofs/ByMode) and on how figures add up (errors/specs/Added).
use Rattle.std.specs.Prelude.{◌≡◌, refl, Bool, true, ℕ, ◌+◌, ◌*◌, length, get_or, replicate}
use Rattle.std.proofs.Math.Path.{sym, ap}
use Rattle.std.proofs.Common.{◌∙◌, subst, arith, eq-eqb, lt-ltb}
use mathlib.Core.List.{List, [], ◌∷◌, Permᴰ}
use contract.Monad.{fact_mono}
use Rattle.laws.specs.Choose.{worked, unserved, both_same}
use Rattle.laws.specs.Sum.{total, total_same, total_plus}
use Rattle.plan.specs.Answers.{Verdict}
use Rattle.plan.specs.declared.tiling.Frame.{Frame}
use Rattle.plan.specs.tiling.Plan.{Plan, listed}
use Rattle.plan.specs.tiling.PlanCheck.{plan_verdict}
use Rattle.plan.specs.tiling.Sums.{picture_total}
use Rattle.plan.specs.RecordPlan.{records_of}
use Rattle.octets.specs.Bytes.{samples_of}
use Rattle.errors.specs.declared.Report.{Report}
use Rattle.errors.specs.Answers.{Counted, Joined, counted_of}
use Rattle.errors.specs.Errors.{Tally, error_at, pair_tally, tally_of, tallied, raised, keeps_limits}
use Rattle.errors.specs.Errors.{room_for_pair, planes_fit, pair_verdict, settle_full, counted_by, join_no, join_reports, pair_no}
use Rattle.errors.proofs.ByMode.{blocks_whole, samples_whole, picture_whole}
use Rattle.errors.specs.Served.{Figured, Countable, countable, settled_zero}
use Rattle.errors.specs.Limits.{raised_at}
use Rattle.errors.specs.Added.{tallied_figured, fresh_figured, tallied_order, tallied_all, any_order, counted_apart, joinable}
use Rattle.errors.proofs.Limits.{pair_keeps}
use Rattle.promises.specs.errors.Errors.{Pair, plan_lent, adds, all_modes, WholePair, Gives, Counting, CountedAll, no_pair, one-pair}
use Rattle.promises.specs.errors.Errors.{sum_over, Answer, ErrorsPromise}

-- an answer by a verdict
module _ (r : Report) (w : Verdict) (t : Tally) (v : Counted) (p : v ≡ counted_by r w t) where
  no_is : v.no ≡ w.no
  unfolding counted_by
  no_is = ap (λ (u : Counted). u.no) p

  kept : (v.no ≡ 0 → ⊥) → v.next ≡ r
  unfolding counted_by
  kept h = ap (λ (u : Counted). u.next) p ∙ sym (unserved w.no (tallied r t) r (λ z. h (no_is ∙ z)))

  added : v.no ≡ 0 → v.next ≡ tallied r t
  unfolding counted_by
  added z = ap (λ (u : Counted). u.next) p ∙ sym (worked w.no (tallied r t) r (sym no_is ∙ z))

-- raised figures add up
raised_whole : (more : ℕ → ℕ) (l : List ℕ) → length l ≡ 35 → all_modes (raised more l) ≡ all_modes l + total more 35
raised_whole more l e =
    total_same _ (λ m. get_or l m 0 + more m) 35 (λ m h. raised_at more l e m h) ∙ total_plus (λ m. get_or l m 0) more 35

whole_of : (r : Report) (fit : Bool) (a b : List ℕ) (plan : Plan) → Figured r → Countable r fit a b plan
    → WholePair r (tallied r (pair_tally r.frame a b plan)) a b plan.count
whole_of r fit a b plan long c =
    let g = c.accepted in record {
      pairs = refl;
      blocks_add = raised_whole _ r.blocks long.0
          ∙ ap (λ (n : ℕ). all_modes r.blocks + n) (blocks_whole g.picture plan.block plan.count g.plan_good g.modes);
      samples_add = raised_whole _ r.samples long.1.0
          ∙ ap (λ (n : ℕ). all_modes r.samples + n) (samples_whole g.picture plan.block plan.count g.plan_good g.modes);
      squares_add = raised_whole _ r.squares long.1.1
          ∙ ap (λ (n : ℕ). all_modes r.squares + n)
          (picture_whole g.picture plan.block plan.count g.plan_good g.modes (error_at a b r.frame.width));
    }

abbrev verdict : Report → Pair → Verdict
verdict r p = pair_verdict r (planes_fit r (length p.a.now) (length p.b.now)) p.a.now p.b.now (plan_lent p)

-- a pair that a report of the same settings counted is counted by another that has room
settled_so : (early : ℕ) (found : Verdict) (x y : Bool) → (settle_full early found x).no ≡ 0 → y ≡ true → (settle_full early found y).no ≡ 0
unfolding settle_full
settled_so early found x y e q =
    let z = settled_zero early found x e in rw (eq-eqb early 0 z.0, eq-eqb found.no 0 z.1.0, q) refl

count_too : (r : Report) (t : Tally) (p : Pair) → (verdict (tallied r t) p).no ≡ 0 → room_for_pair r ≡ true → (verdict r p).no ≡ 0
unfolding pair_no
count_too r t p e room = settled_so _ (plan_verdict r.frame (plan_lent p)) (room_for_pair (tallied r t)) (room_for_pair r) e room

count_after : (r : Report) (t : Tally) (p : Pair) → (verdict r p).no ≡ 0 → room_for_pair (tallied r t) ≡ true → (verdict (tallied r t) p).no ≡ 0
unfolding pair_no
count_after r t p e room = settled_so _ (plan_verdict r.frame (plan_lent p)) (room_for_pair r) (room_for_pair (tallied r t)) e room

module _ (r : Report) (p q : Pair) (long : Figured r) (e : (verdict r p).no ≡ 0)
    (f : (verdict (tallied r (adds r.frame p)) q).no ≡ 0) where
  room : room_for_pair r ≡ true
  room = (settled_zero _ (plan_verdict r.frame (plan_lent p)) (room_for_pair r) e).1.1

  second : (verdict r q).no ≡ 0
  second = count_too r (adds r.frame p) q f room

  room_after : room_for_pair (tallied r (adds r.frame q)) ≡ true
  room_after =
      let c = countable (tallied r (adds r.frame p)) _ q.a.now q.b.now (plan_lent q) f in
      both_same (lt-ltb (r.pairs + 1) 65536 c.few) (pair_keeps (countable r _ q.a.now q.b.now (plan_lent q) second) long)

  first_after : (verdict (tallied r (adds r.frame q)) p).no ≡ 0
  first_after = count_after r (adds r.frame q) p e room_after

joined : (r s : Report) (v : Joined) → v ≡ join_reports r s → v.no ≡ 0 → v.next ≡ tallied r (tally_of s)
unfolding join_reports
joined r s v p z = ap (λ (u : Joined). u.next) p ∙ sym (worked (join_no r s) _ r (sym (ap (λ (u : Joined). u.no) p) ∙ z))

joined_no : (r s : Report) (v : Joined) → v ≡ join_reports r s → v.no ≡ 0 → join_no r s ≡ 0
unfolding join_reports
joined_no r s v p z = sym (ap (λ (u : Joined). u.no) p) ∙ z

same_frame : (r s : Report) → join_no r s ≡ 0 → r.frame ≡ s.frame
same_frame r s e = let j = joinable r s e in
    λ i. record { width = sym j.width_same i; height = sym j.height_same i; ctu = sym j.ctu_same i }

-- what each door gives, by the equation of its contract
gives : (r : Report) (fit : Bool) (a b : List ℕ) (plan : Plan) (v : Counted)
    → v ≡ counted_by r (pair_verdict r fit a b plan) (pair_tally r.frame a b plan) → Gives r a b plan v
gives r fit a b plan v p =
    let w = pair_verdict r fit a b plan in
    let t = pair_tally r.frame a b plan in
    record {
      refused = kept r w t v p;
      counted = added r w t v p;
      whole = λ long z.
          subst (λ (s : Report). WholePair r s a b plan.count) (sym (added r w t v p z))
          (whole_of r fit a b plan long (countable r fit a b plan (sym (no_is r w t v p) ∙ z)));
      within = λ long z.
          ap keeps_limits (added r w t v p z) ∙ pair_keeps (countable r fit a b plan (sym (no_is r w t v p) ∙ z)) long;
    }

-- all pairs, from any report on
record From (r : Report) (frame : Frame) (ps : List Counting) (s : Report) : Type 0 where
  pairs_are : s.pairs ≡ r.pairs + length ps
  blocks_from : all_modes s.blocks ≡ all_modes r.blocks + sum_over (λ p. p.plan.count) ps
  samples_from : all_modes s.samples ≡ all_modes r.samples + length ps * (frame.height * frame.width)
  squares_from : all_modes s.squares
      ≡ all_modes r.squares + sum_over (λ p. picture_total (error_at p.a p.b frame.width) frame) ps

from_any : {r s : Report} {ps : List Counting} (frame : Frame) → r.frame ≡ frame → Figured r → CountedAll r ps s → From r frame ps s
unfolding sum_over
from_any frame e long (no_pair r) =
    record {
      pairs_are = omega arith;
      blocks_from = omega arith;
      samples_from = omega arith;
      squares_from = omega arith;
    }
from_any frame e long (one-pair r s p ps v g z c) =
    let n = g.counted z in
    let w = g.whole long z in
    let still = tallied_figured r (pair_tally r.frame p.a p.b p.plan) long in
    let rest = from_any frame (ap (λ (x : Report). x.frame) n ∙ e) (subst Figured (sym n) still) c in
    record {
      pairs_are = omega (arith, rest.pairs_are, w.pairs);
      blocks_from = omega (arith, rest.blocks_from, w.blocks_add);
      samples_from = omega (arith, rest.samples_from, w.samples_add, ap (λ (f : Frame). f.height * f.width) e);
      squares_from = omega (
        arith,
        rest.squares_from,
        w.squares_add,
        ap (λ (f : Frame). picture_total (error_at p.a p.b f.width) f) e,
      );
    }

-- what the pairs add, one after the other
unfoldable tallies : Frame → List Counting → List Tally
tallies f [] = []
tallies f (p ∷ ps) = pair_tally f p.a p.b p.plan ∷ tallies f ps

tallies_too : (f : Frame) {ps qs : List Counting} → Permᴰ ps qs → Permᴰ (tallies f ps) (tallies f qs)
unfolding tallies
tallies_too f Permᴰ.nil = Permᴰ.nil
tallies_too f (Permᴰ.cons e p) = Permᴰ.cons (ap (λ (x : Counting). pair_tally f x.a x.b x.plan) e) (tallies_too f p)
tallies_too f (Permᴰ.swap e q) =
    Permᴰ.swap (ap (λ (x : Counting). pair_tally f x.a x.b x.plan) e)
    (ap (λ (x : Counting). pair_tally f x.a x.b x.plan) q)
tallies_too f (Permᴰ.trans p q) = Permᴰ.trans (tallies_too f p) (tallies_too f q)

all_tallied : {r s : Report} {ps : List Counting} → CountedAll r ps s → s ≡ tallied_all r (tallies r.frame ps)
unfolding tallied_all tallies
all_tallied (no_pair r) = refl
all_tallied (one-pair r s p ps v g z c) =
    all_tallied c ∙ ap (λ (x : Report). tallied_all x (tallies x.frame ps)) (g.counted z)

all_frame : {r s : Report} {ps : List Counting} → CountedAll r ps s → s.frame ≡ r.frame
all_frame (no_pair r) = refl
all_frame (one-pair r s p ps v g z c) = all_frame c ∙ ap (λ (x : Report). x.frame) (g.counted z)

-- a fresh report has no figures
none_yet : all_modes (replicate 35 0) ≡ 0
unfolding total
none_yet = refl

-- the sum that an answer tells of
abbrev sum_in : Counted → Joined
sum_in c = record { no = c.no; next = c.next }

abbrev sum_of : Answer → Joined
sum_of v = sum_in (counted_of v)

pub errors_settled : ErrorsPromise
errors_settled = record {
  by_numbers = λ κ r p v c. gives r _ p.a.now p.b.now (plan_lent p) (counted_of v) c;
  by_bytes = λ κ r a b plan v c. gives r _ (samples_of a.now) (samples_of b.now) (records_of plan.now) (counted_of v) c;
  by_records = λ {𝓤 = 𝓤} 𝓛 mem run κs r a b plan v e. fact_mono 𝓤 _ _ (λ p. gives r _ a.now b.now (listed plan.now) (counted_of v) p);
  all_pairs = λ bits frame ps s c.
      let f = from_any frame refl (fresh_figured bits frame) c in record {
        pairs = omega (arith, f.pairs_are);
        blocks_are = omega (arith, f.blocks_from, none_yet);
        samples_are = omega (arith, f.samples_from, none_yet);
        squares_are = omega (arith, f.squares_from, none_yet);
      };
  order = λ κ λ' μ ν r p q v w x y long cv cw cx cy zv zw.
      let t = adds r.frame p in
      let u = adds r.frame q in
      let ev = sym (no_is r (verdict r p) t (counted_of v) cv) ∙ zv in
      let nv = added r (verdict r p) t (counted_of v) cv zv in
      let cw' = cw ∙ ap (λ (s : Report). counted_by s (verdict s q) (adds s.frame q)) nv in
      let ew = sym (no_is (tallied r t) (verdict (tallied r t) q) u (counted_of w) cw') ∙ zw in
      let zx = no_is r (verdict r q) u (counted_of x) cx ∙ second r p q long ev ew in
      let nx = added r (verdict r q) u (counted_of x) cx zx in
      let cy' = cy ∙ ap (λ (s : Report). counted_by s (verdict s p) (adds s.frame p)) nx in
      let zy = no_is (tallied r u) (verdict (tallied r u) p) t (counted_of y) cy' ∙ first_after r p q long ev ew in (
        zx,
        (
          zy,
          added (tallied r u) (verdict (tallied r u) p) t (counted_of y) cy' zy ∙ tallied_order r u t long
              ∙ sym (added (tallied r t) (verdict (tallied r t) q) u (counted_of w) cw' zw),
        ),
      );
  any_order = λ r s t ps qs long p c d.
      all_tallied c ∙ any_order r long (tallies_too r.frame p) ∙ sym (all_tallied d);
  together = λ bits frame ps r s t v long c d j z.
      let e = same_frame r s (joined_no r s (sum_of v) (ap sum_in j) z) ∙ all_frame c in
      joined r s (sum_of v) (ap sum_in j) z ∙ ap (λ (x : Report). tallied r (tally_of x)) (all_tallied c)
      ∙ counted_apart bits frame r (tallies frame ps) long
      ∙ ap (λ (f : Frame). tallied_all r (tallies f ps)) (sym e) ∙ sym (all_tallied d);
}
