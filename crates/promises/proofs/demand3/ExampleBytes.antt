-- A replay on bytes that is served: Example's walk over numbers, its plan and its residuals spelt in bytes, replayed over zeros block by
-- block. So demand 3 on bytes speaks of something.
use Rattle.std.specs.Prelude.{ℕ, zero, suc, ◌*◌, ◌≤◌, ◌<◌, ◌≡◌, refl, List, [], ◌∷◌, ℤ, get_or, replicate}
use Rattle.std.proofs.Common.{sym, ap, ◌∙◌, arith}
use Rattle.octets.specs.Bytes.{samples_of, residuals_of}
use Rattle.plan.specs.declared.tiling.Block.{Block}
use Rattle.plan.specs.records.Records.{record_of}
use Rattle.plan.specs.tiling.Plan.{listed}
use Rattle.promises.specs.demand3.Calls.{task, Each, count, fresh, calls, walk_call}
use Rattle.promises.specs.demand3.Chains.{sum_none, sum_more}
use Rattle.promises.proofs.demand3.Example.{two, source, blank_world, there, walked}
use Rattle.promises.proofs.demand3.Proof3.{demand_3}
use Rattle.promises.specs.demand3.Words.{words_of, length_words, residuals_back}
use Rattle.promises.proofs.demand3.ProofBytes.{on_bytes}
use Rattle.promises.specs.OnBytes.{ByteJob, ByteAsk, bytes_granted, spelt_task, byte_call, EachServed, Fits, Long}

abbrev residuals : List ℤ
residuals = (calls (walk_call two source) (fresh blank_world) there).world.residuals

abbrev job : ByteJob
job = record { still = two.still; plan = 0 ∷ 0 ∷ 0 ∷ 0 ∷ 8 ∷ 1 ∷ 0 ∷ 0 ∷ 8 ∷ 0 ∷ 8 ∷ 1 ∷ []; residuals = words_of residuals }

-- the walk's plan
abbrev records : List Block
records = record { row = 0; col = 0; side = 8; mode = 1 } ∷ record { row = 0; col = 8; side = 8; mode = 1 } ∷ []

numbers : (k : ℕ) → k < 2 → two.plan.block k ≡ (listed records).block k
numbers zero h = refl
numbers (suc zero) h = refl
numbers (suc (suc k)) h = absurd (omega arith)

bytes : (k : ℕ) → k < 2 → record_of job.plan (6 * k) ≡ (listed records).block k
bytes zero h = refl
bytes (suc zero) h = refl
bytes (suc (suc k)) h = absurd (omega arith)

one_task : spelt_task job ≡ two
one_task =
    ap (task two.still)
    (on_bytes.one_plan job.plan records refl bytes
    ∙ sym (demand_3.one_plan (0 ∷ 0 ∷ []) (0 ∷ 8 ∷ []) (8 ∷ 8 ∷ []) (1 ∷ 1 ∷ []) records refl refl refl refl numbers))

-- its residuals
spell : residuals_of (words_of residuals) ≡ residuals
spell = residuals_back residuals (on_bytes.walk_spelt two source blank_world there walked)

zeros_are : (n i : ℕ) → get_or (replicate n 0) i 0 < 256
zeros_are zero i = omega arith
zeros_are (suc n) zero = omega arith
zeros_are (suc n) (suc i) = zeros_are n i

fits : Fits job (fresh (replicate 256 0))
fits = record {
  plane = refl;
  residuals = length_words residuals ∙ ap (λ (k : ℕ). 4 * k) (demand_3.walk two source blank_world there walked).1.long;
  records = refl;
  in_type = (zeros_are 256, omega arith);
}

-- block by block
abbrev again : List ByteAsk
again = record { grant = 1; result = replicate 8 0 } ∷ record { grant = 1; result = replicate 9 255 } ∷ []

long : Each Long again
unfolding Each
long = (omega arith, (omega arith, tt))

enough : count two ≤ bytes_granted again
enough = omega (arith, sum_more 1 (1 ∷ []), sum_more 1 [], sum_none)

pub served : EachServed job (fresh (replicate 256 0)) again
served = (on_bytes.replay two source blank_world there walked job one_task spell (replicate 256 0) fits again long).0

pub same : samples_of (calls (byte_call job) (fresh (replicate 256 0)) again).world ≡ source
same = on_bytes.same two source blank_world there walked job one_task spell (replicate 256 0) fits again long enough
