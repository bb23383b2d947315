-- A block starts at the next uncovered cell, said as document 01 says it: of the uncovered cells of the picture it has the lowest
-- number. Assumes nothing.
use Rattle.std.proofs.Common.{subst, ⊎_elim, eq-or-lt_of_le, le_of_suc-le-suc, arith}
use Rattle.std.specs.Prelude.{◌↔◌, ℕ, zero, suc, ◌+◌, ◌≤◌, ◌<◌}
use Rattle.std.proofs.Math.Decide.{dec_lt}
use Rattle.plan.specs.declared.tiling.Frame.{Frame}
use Rattle.plan.specs.declared.tiling.Block.{Block}
use Rattle.plan.specs.tiling.Tiling.{In, cell_at, Of, Covered, Next}

-- whether a sample is covered can be told
of_or_not : (b : Block) (r c : ℕ) → Dec (Of b r c)
of_or_not b r c = go (dec_lt r b.row) (dec_lt r (b.row + b.side)) (dec_lt c b.col) (dec_lt c (b.col + b.side))
  where
    go : Dec (r < b.row) → Dec (r < b.row + b.side) → Dec (c < b.col) → Dec (c < b.col + b.side) → Dec (Of b r c)
    go (no t) (yes u) (no v) (yes w) = yes (record { top = omega arith; bottom = u; left = omega arith; right = w })
    go (yes t) _ _ _ = no (λ o. omega (arith, o.top))
    go (no t) (no u) _ _ = no (λ o. u o.bottom)
    go (no t) (yes u) (yes v) _ = no (λ o. omega (arith, o.left))
    go (no t) (yes u) (no v) (no w) = no (λ o. w o.right)

covered_or_not : (plan : ℕ → Block) (k r c : ℕ) → Dec (Covered plan k r c)
covered_or_not plan zero r c = no (λ s. omega (arith, s.1))
covered_or_not plan (suc k) r c = go (covered_or_not plan k r c) (of_or_not (plan k) r c)
  where
    go : Dec (Covered plan k r c) → Dec (Of (plan k) r c) → Dec (Covered plan (suc k) r c)
    go (yes s) _ = yes (s.0, omega (arith, s.1), s.2)
    go (no n) (yes o) = yes (k, omega arith, o)
    go (no n) (no o) =
        no (λ s. ⊎_elim (λ e. o (subst (λ (i : ℕ). Of (plan i) r c) e s.2)) (λ l. n (s.0, l, s.2))
        (eq-or-lt_of_le (le_of_suc-le-suc s.1)))

-- its first sample is uncovered, and no uncovered sample of the picture has a lower number
abbrev pub Least : Frame → (ℕ → Block) → ℕ → Type 0
Least f plan k =
    (Covered plan k (plan k).row (plan k).col → ⊥)
    × ((r c : ℕ) → In f r c → (Covered plan k r c → ⊥) → cell_at f (plan k).row (plan k).col ≤ cell_at f r c)

pub next_least : (f : Frame) (plan : ℕ → Block) (k : ℕ) → Next f plan k ↔ Least f plan k
next_least f plan k = (to, from)
  where
    to : Next f plan k → Least f plan k
    to x = (x.free, λ r c i n. go r c i n (dec_lt (cell_at f r c) (cell_at f (plan k).row (plan k).col)))
      where
        go : (r c : ℕ) → In f r c → (Covered plan k r c → ⊥) → Dec (cell_at f r c < cell_at f (plan k).row (plan k).col)
            → cell_at f (plan k).row (plan k).col ≤ cell_at f r c
        go r c i n (yes l) = absurd (n (x.least r c i l))
        go r c i n (no l) = omega arith

    from : Least f plan k → Next f plan k
    from x = record { free = x.0; least = λ r c i l. go r c i l (covered_or_not plan k r c) }
      where
        go : (r c : ℕ) → In f r c → cell_at f r c < cell_at f (plan k).row (plan k).col → Dec (Covered plan k r c) → Covered plan k r c
        go r c i l (yes s) = s
        go r c i l (no n) = absurd (omega (arith, x.1 r c i n))
