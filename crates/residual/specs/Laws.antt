-- Residuals one after the other, and how the tests are taken apart. Assumes nothing.
use Rattle.std.specs.Prelude.{◌≡◌, ℕ, zero, suc, ◌+◌, ◌*◌, ◌<◌, ◌≤◌, Bool, true, false, ◌&&◌, leb, List, [], ◌∷◌, length, get_or, take, replicate, ℤ, pos, ◌≢◌, bit_or, nat_le, slice_index_or, unsigned_abs, refl}
use Rattle.std.proofs.Common.{ap, ◌∙◌, ⊎_elim, not-suc-le-zero, eq-or-lt_of_le, le_of_suc-le-suc, add-one, arith, leb-true}
use Rattle.std.specs.Int.Bits.{or_add_and}
use Rattle.std.proofs.lemmas.Nat.{and_le_l, and_le_r}
use Rattle.std.proofs.lemmas.List.{length-replicate, length-take-le, get_or-take}
use Rattle.laws.specs.Fill.{fill, run}
use Rattle.laws.specs.FillLaws.{fill_at, fill_run}
use Rattle.laws.specs.Choose.{Check, ◌unless◌, first_fail, passed, both_true}
use Rattle.domain.specs.Domain.{depth_ok, size_ok}
use Rattle.domain.specs.Facts.{Depth, Size, depth_of, size_of}
use Rattle.samples.specs.deltas.Deltas.{residual_ok}
use Rattle.residual.specs.Residual.{all_in_range, block_checks, residual_no, reconstruct_no}

-- nothing laid over nothing
pub both_none : (a b : ℕ) → bit_or a b ≡ 0 → (a ≡ 0) × (b ≡ 0)
both_none a b e = let s = or_add_and a b in let l = and_le_l a b in let r = and_le_r a b in (omega arith, omega arith)

-- residuals one by one
pub none_in : (rs : List ℤ) → true ≡ all_in_range rs 0
unfolding all_in_range
none_in rs = refl

pub one_more : (rs : List ℤ) (i : ℕ) {a b : Bool} → a ≡ all_in_range rs i → b ≡ residual_ok (slice_index_or rs i (pos 0)) → (a && b)
    ≡ all_in_range rs (i + 1)
unfolding all_in_range
one_more rs i p q = rw (add-one, p, q)

pub each_small : (rs : List ℤ) (k : ℕ) → all_in_range rs k ≡ true → (i : ℕ) → i < k → unsigned_abs (slice_index_or rs i (pos 0)) ≤ 65535
unfolding all_in_range
each_small rs zero e i h = absurd (not-suc-le-zero h)
each_small rs (suc k) e i h =
    let o = both_true (all_in_range rs k) (residual_ok (slice_index_or rs k (pos 0))) e in
    ⊎_elim (λ q. rw q (leb-true (unsigned_abs (slice_index_or rs k (pos 0))) 65535 o.1)) (λ l. each_small rs k o.0 i l)
    (eq-or-lt_of_le (le_of_suc-le-suc h))

-- the first k, lent as a list of their own
in_taken : (rs : List ℤ) (k j : ℕ) → j ≤ k → all_in_range (take k rs) j ≡ all_in_range rs j
unfolding all_in_range
in_taken rs k zero h = refl
in_taken rs k (suc j) h =
    let e = get_or-take k rs j (pos 0) (omega arith) in
    rw (in_taken rs k j (omega arith), e)

pub first_in_range : (rs : List ℤ) (k : ℕ) → k ≤ length rs → all_in_range (take k rs) (length (take k rs)) ≡ all_in_range rs k
first_in_range rs k h = rw (length-take-le k rs h) (in_taken rs k k (omega arith))

-- three buffers hold so many runs of 16
pub record RunsFit (runs a b c : ℕ) : Type 0 where
  pub few : runs ≤ 64
  pub first : runs * 16 ≤ a
  pub second : runs * 16 ≤ b
  pub third : runs * 16 ≤ c

-- a call that is not refused
pub size_fits : (n a b c : ℕ) → residual_no n a b c ≡ 0 → Size n
unfolding residual_no
size_fits n a b c e = size_of n (passed (size_ok n) _ 2 (omega arith) e).0

pub runs_fit : (n a b c : ℕ) → residual_no n a b c ≡ 0 → (runs : ℕ) → runs * 16 ≡ n * n → runs ≤ 64 → RunsFit runs a b c
unfolding residual_no
runs_fit n a b c e runs q h =
    let k = n * n in
    let long = (passed (nat_le k a && nat_le k b && nat_le k c) 0 5 (omega arith) (passed (size_ok n) _ 2 (omega arith) e).1).0 in
    let two = both_true (nat_le k a && nat_le k b) (nat_le k c) long in
    let one = both_true (nat_le k a) (nat_le k b) two.0 in
    let x = leb-true k a one.0 in
    let y = leb-true k b one.1 in
    let z = leb-true k c two.1 in
    record { few = h; first = omega arith; second = omega arith; third = omega arith }

-- the checks of the buffers, and those after them
abbrev both : Bool → Bool → List Check → ℕ
both s l more = first_fail ((2 unless s) ∷ (5 unless l) ∷ more)

stops : (s l : Bool) (more : List Check) → (both s l [] ≢ 0) → both s l [] ≡ both s l more
stops true true more h = absurd (h refl)
stops true false more h = refl
stops false l more h = refl

goes : (s l : Bool) (more : List Check) → both s l [] ≡ 0 → first_fail more ≡ both s l more
goes true true more e = refl
goes true false more e = absurd (omega arith)
goes false l more e = absurd (omega arith)

module _ (n a b c : ℕ) (more : List Check) where
  pub first_stops : (residual_no n a b c ≢ 0) → residual_no n a b c ≡ first_fail (block_checks n a b c more)
  unfolding residual_no
  first_stops h = stops (size_ok n) (nat_le (n * n) a && nat_le (n * n) b && nat_le (n * n) c) more h

  pub first_goes : residual_no n a b c ≡ 0 → first_fail more ≡ first_fail (block_checks n a b c more)
  unfolding residual_no
  first_goes e = goes (size_ok n) (nat_le (n * n) a && nat_le (n * n) b && nat_le (n * n) c) more e

-- a reconstruction that is not refused
pub record ReconstructReady (bits n pred : ℕ) (rs : List ℤ) (out : ℕ) : Type 0 where
  pub depth : Depth bits
  pub buffers : residual_no n pred (length rs) out ≡ 0
  pub small : (i : ℕ) → i < n * n → unsigned_abs (slice_index_or rs i (pos 0)) ≤ 65535

pub sound : (bits n pred : ℕ) (rs : List ℤ) (out : ℕ) → reconstruct_no bits n pred rs out ≡ 0 → ReconstructReady bits n pred rs out
unfolding reconstruct_no residual_no
sound bits n pred rs out e =
    let long = nat_le (n * n) pred && nat_le (n * n) (length rs) && leb (n * n) out in
    let d = passed (depth_ok bits) _ 1 (omega arith) e in
    let s = passed (size_ok n) _ 2 (omega arith) d.1 in
    let l = passed long _ 5 (omega arith) s.1 in
    let all = (passed (all_in_range rs (n * n)) 0 8 (omega arith) l.1).0 in
    record { depth = depth_of bits d.0; buffers = rw (s.0, l.0); small = each_small rs (n * n) all }

-- a run of 16 entries, worked out in an array t of its own and stored, carries a fill on
pub by_run : {A : Type 0} (F : ℕ → A) (z : A) (d : List A) (r : ℕ) {t e f : List A}
    → t ≡ fill (λ (j : ℕ). F (r * 16 + j)) 16 (replicate 16 z) → e ≡ fill F (r * 16) d → f ≡ run (λ (j : ℕ). get_or t j z) (r * 16) 16 e
    → f ≡ fill F ((r + 1) * 16) d
by_run F z d r p q s =
    s
    ∙ rw (p, q)
    (fill_run F _ (r * 16) 16 d (λ j l. fill_at (λ (i : ℕ). F (r * 16 + i)) 16 (replicate 16 z) j z l (rw length-replicate l)))
    ∙ ap (λ (m : ℕ). fill F m d) (let e : r * 16 + 16 ≡ (r + 1) * 16 = omega arith in e)
