-- What joins the lines of all blocks, and what the walk gives them. Rests on the laws of places.
use Rattle.std.specs.Prelude.{◌≡◌, refl, List, [], ◌++◌, ℕ, zero, suc, ◌+◌, ◌-◌, ◌*◌, ◌≤◌, ◌<◌, length, set, take, replicate, ℤ}
use Rattle.std.proofs.Common.{sym, ap, ap₂, ◌∙◌, subst, mul-le-mul, add-one, arith, take_at}
use Rattle.std.proofs.lemmas.List.{length-replicate, replicate-append-replicate, set-append_left}
use Rattle.laws.specs.Fill.{fill}
use Rattle.laws.specs.FillLaws.{length_fill}
use Rattle.plan.specs.declared.tiling.Block.{Block}
use Rattle.plan.specs.tiling.Tiling.{place}
use Rattle.plan.specs.tiling.Plan.{Plan}
use Rattle.walk.specs.Answers.{Stepped}
use Rattle.walk.specs.block.Walked.{World}
use Rattle.walk.specs.calls.Door.{walk_verdict, walk_after}
use Rattle.walk.specs.Door.{stepped_by}
use Rattle.walk.specs.Lent.{scratch_tables}
use Rattle.walk.specs.calls.Places.{place_in}
use Rattle.report.specs.sums.Sums.{absolutes}
use Rattle.report.specs.text.Text.{laid, block_line}
use Rattle.report.specs.text.Laid.{Laid, then, said}
use Rattle.report.specs.Told.{Job, none_done, lines}

-- a plan whose blocks have their residuals among so many, and of which the text has room
pub record Listed (plan : Plan) (residuals : ℕ) : Type 0 where
  pub few : plan.count ≤ 512
  pub sides : (k : ℕ) → k < plan.count → (plan.block k).side ≤ 32
  pub all : place plan.block plan.count ≤ residuals

-- lines of blocks
pub lines_none : (plan : ℕ → Block) (v : List ℤ) → [] ≡ lines plan v 0
unfolding lines
lines_none plan v = refl

pub lines_more : (plan : ℕ → Block) (v : List ℤ) (k : ℕ) {sum : ℕ} {x y : List ℕ} → x ≡ lines plan v k
    → sum ≡ absolutes v (place plan k) ((plan k).side * (plan k).side) → y ≡ x ++ block_line (plan k) sum → y ≡ lines plan v (k + 1)
unfolding lines
lines_more plan v k before s this = rw add-one (this ∙ ap₂ (λ (c : List ℕ) (n : ℕ). c ++ block_line (plan k) n) before s)

-- the lines in a buffer: those of no block
pub laid_none : (plan : ℕ → Block) (v : List ℤ) (d : List ℕ) → Laid 0 (lines plan v 0) d d 0 0
unfolding lines laid
laid_none plan v d = record { over = refl; ends = refl; short = omega arith }

-- and a block more: b is block k, and its residuals begin at `at`
module _ (plan : Plan) (v : List ℤ) (ok : Listed plan (length v)) (k at : ℕ) (b : Block) (l : k < plan.count)
    (e : at ≡ place plan.block k) (q : b ≡ plan.block k) where
  pub square : b.side * b.side ≤ 1024
  square = let h : b.side ≤ 32 = subst (λ (u : Block). u.side ≤ 32) (sym q) (ok.sides k l) in let m = mul-le-mul h h in omega (arith, m)

  pub among : at + b.side * b.side ≤ length v
  among = omega (arith, place_in plan.block k plan.count at b l e q, ok.all)

  pub next_line : {p r sum : ℕ} {d x y : List ℕ} → Laid 0 (lines plan.block v k) d x p (105 * k) → sum
      ≡ absolutes v at (b.side * b.side)
      → Laid p (block_line b sum) x y r 105 → 105 * k ≤ length d → Laid 0 (lines plan.block v (k + 1)) d y r (105 * (k + 1))
  next_line {p} {r} {sum} {d} {x} {y} before s this h =
      let t : block_line b sum ≡ block_line (plan.block k)
      (absolutes v (place plan.block k) ((plan.block k).side * (plan.block k).side)) =
      ap (block_line b) (s ∙ ap (λ (i : ℕ). absolutes v i (b.side * b.side)) e)
      ∙ ap (λ (u : Block). block_line u (absolutes v (place plan.block k) (u.side * u.side))) q in
      said _ _ (then before this (omega arith))
      (ap (λ (u : List ℕ). lines plan.block v k ++ u) t ∙ lines_more plan.block v k refl refl refl)
      (omega arith)

-- what the walk gives: its number, the block of a refusal, and the residuals
pub record WholeWalk (j : Job) (w x : World) (r : Stepped) : Type 0 where
  pub gives : r ≡ stepped_by (walk_verdict j.still j.plan scratch_tables 0 j.source w) j.plan none_done j.plan.count
  pub leaves : x ≡ walk_after j.still j.plan scratch_tables 0 j.plan.count j.source w

-- the first k of n entries, in a buffer of m
fill_front : {A : Type 0} (f : ℕ → A) (k : ℕ) (d r : List A) → k ≤ length d → fill f k (d ++ r) ≡ fill f k d ++ r
unfolding fill
fill_front f zero d r h = refl
fill_front {A} f (suc k) d r h =
    ap (λ (x : List A). set x k (f k)) (fill_front f k d r (omega arith))
    ∙ set-append_left (fill f k d) r k (f k) (omega (arith, length_fill f k d))

pub take_fill : {A : Type 0} (f : ℕ → A) (k n m : ℕ) (z : A) → k ≤ n → n ≤ m → take n (fill f k (replicate m z)) ≡ fill f k (replicate n z)
take_fill {A} f k n m z h l =
    let e : n + (m - n) ≡ m = omega arith in
    ap (λ (i : ℕ). take n (fill f k (replicate i z))) (sym e)
    ∙ ap (λ (d : List A). take n (fill f k d)) (sym (replicate-append-replicate n (m - n) z))
    ∙ ap (take n) (fill_front f k (replicate n z) (replicate (m - n) z) (omega (arith, length-replicate n z)))
    ∙ take_at (fill f k (replicate n z)) (replicate (m - n) z) n (length_fill f k (replicate n z) ∙ length-replicate n z)
