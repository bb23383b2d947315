-- One plan in its forms: lists of numbers, records and bytes that agree block by block are one plan. Past its end every form reads the
-- same. Assumes nothing.
use Rattle.std.specs.Prelude.{◌≡◌, refl, List, [], ◌∷◌, ℕ, zero, suc, ◌*◌, ◌/◌, ◌%◌, ◌≤◌, ◌<◌, length, get_or}
use Rattle.std.proofs.Common.{sym, ◌∙◌, arith, eq-eqb, lt-ltb, le-ltb}
use Rattle.std.proofs.Math.Decide.{dec_lt}
use Rattle.laws.specs.Choose.{both_same}
use Rattle.plan.specs.declared.tiling.Block.{Block}
use Rattle.plan.specs.records.Records.{record_of, record_at}
use Rattle.plan.specs.tiling.Plan.{Plan, plan_of, listed, no_block}
use Rattle.plan.specs.RecordPlan.{records_of}

past : {A : Type 0} (l : List A) (k : ℕ) (z : A) → length l ≤ k → get_or l k z ≡ z
past [] k z h = refl
past (x ∷ l) zero z h = absurd (omega arith)
past (x ∷ l) (suc k) z h = past l k z (omega arith)

-- part by part
plans : {a b : Plan} → a.whole ≡ b.whole → a.count ≡ b.count → ((k : ℕ) → a.block k ≡ b.block k) → a ≡ b
plans w c h = λ i. record { whole = w i; count = c i; block = λ k. h k i }

pub numbers_listed : (rows cols sides modes : List ℕ) (l : List Block)
    → length rows ≡ length l → length cols ≡ length l → length sides ≡ length l → length modes ≡ length l
    → ((k : ℕ) → k < length l → (plan_of rows cols sides modes).block k ≡ (listed l).block k) → plan_of rows cols sides modes ≡ listed l
numbers_listed rows cols sides modes l a b c d h =
    plans (both_same (both_same (eq-eqb _ _ (b ∙ sym a)) (eq-eqb _ _ (c ∙ sym a))) (eq-eqb _ _ (d ∙ sym a))) a
    (λ k. go k (dec_lt k (length l)))
  where
    go : (k : ℕ) → Dec (k < length l) → (plan_of rows cols sides modes).block k ≡ (listed l).block k
    go k (yes m) = h k m
    go k (no m) =
        let row = past rows k 0 (omega arith) in
        let col = past cols k 0 (omega arith) in
        let side = past sides k 0 (omega arith) in
        let mode = past modes k 0 (omega arith) in
        (λ i. record { row = row i; col = col i; side = side i; mode = mode i }) ∙ sym (past l k no_block (omega arith))

pub bytes_listed : (b : List ℕ) (l : List Block) → length b ≡ 6 * length l
    → ((k : ℕ) → k < length l → record_of b (6 * k) ≡ (listed l).block k) → records_of b ≡ listed l
unfolding record_at
bytes_listed b l e h = plans (eq-eqb (length b % 6) 0 (omega (arith, e))) (omega (arith, e)) (λ k. go k (dec_lt k (length l)))
  where
    go : (k : ℕ) → Dec (k < length l) → record_at b k ≡ (listed l).block k
    go k (yes m) = rw (lt-ltb k (length b / 6) (omega (arith, e))) (h k m)
    go k (no m) = rw (le-ltb k (length b / 6) (omega (arith, e))) (sym (past l k no_block (omega arith)))
