-- Document 01, 'The program': intrawalk never prints `differs`. Whatever its input, it prints a refusal, or the lines of all blocks
-- and then `same`, as specs/Program says it. Rests on demand 3.
use Rattle.std.specs.Prelude.{◌≡◌, refl, Bool, true, false, cond, List, [], ◌∷◌, ◌++◌, ◌⊎◌, ℕ, zero, suc, ◌≤◌, eqb, length, get_or}
use Rattle.std.proofs.Common.{ap, inl, inr, arith, eq-eqb, eqb-true}
use Rattle.std.proofs.lemmas.List.{length-replicate}
use Rattle.report.specs.file.File.{file_ok}
use Rattle.report.specs.sums.Sums.{agree}
use Rattle.report.specs.text.Text.{refusal, ending}
use Rattle.walk.specs.Lent.{scratch_tables}
use Rattle.report.specs.Told.{zeros, blank, verdict, residuals, replayed_plane, lines, told, printed, job_of}
use Rattle.report.specs.Told.{Job as File}
use Rattle.promises.specs.demand3.Calls.{Task, Ask, Roomy, granted, Each, calls}
use Rattle.promises.specs.demand3.Chains.{sum_none, sum_more}
use Rattle.promises.proofs.demand3.Proof3.{demand_3}
use Rattle.promises.specs.Program.{Refused, Same}

-- a file's walk and replay as demand 3 has them: one call each, which is granted every block
abbrev job : File → Task
job f = record { still = f.still; plan = f.plan }

abbrev whole : File → List Ask
whole f = record { grant = f.plan.count; tables = scratch_tables } ∷ []

room : (f : File) → Each Roomy (whole f)
unfolding Each
room f = (refl, tt)

enough : (f : File) → f.plan.count ≤ granted (whole f)
enough f = omega (arith, sum_more f.plan.count [], sum_none)

-- the replay over zeros gives the source
pub source_back : (f : File) → (verdict f).no ≡ 0 → replayed_plane f ≡ f.source
unfolding calls
source_back f served =
    demand_3.same (job f) f.source (blank f.still) (whole f)
    (record { tables = scratch_tables; served = served; room = room f; enough = enough f })
    (zeros f.still) (length-replicate _ 0) (whole f) (room f) (enough f)

agree_same : (a b : List ℕ) → a ≡ b → (k : ℕ) → agree a b k ≡ true
unfolding agree
agree_same a b e zero = refl
agree_same a b e (suc k) = rw (agree_same a b e k) (eq-eqb (get_or a k 0) (get_or b k 0) (ap (λ (l : List ℕ). get_or l k 0) e))

told_same : (f : File) → Refused (told f) ⊎ Same f (told f)
unfolding told
told_same f = go (eqb (verdict f).no 0) refl
  where
    go : (t : Bool) → eqb (verdict f).no 0 ≡ t
        → let x = cond t (lines f.plan.block (residuals f) f.plan.count ++ ending f.plan.count
        (agree (replayed_plane f) f.source (length f.source))) (refusal (verdict f).no (verdict f).block) in
        Refused x ⊎ Same f x
    go true e =
        inr (ap (λ (t : Bool). lines f.plan.block (residuals f) f.plan.count ++ ending f.plan.count t)
        (agree_same (replayed_plane f) f.source (source_back f (eqb-true (verdict f).no 0 e)) (length f.source)))
    go false e = inl ((verdict f).no, (verdict f).block, refl)

-- of any bytes
pub never_differs : (input : List ℕ) → Refused (printed input) ⊎ Same (job_of input) (printed input)
unfolding printed
never_differs input = go (file_ok input) (told_same (job_of input))
  where
    go : (t : Bool) → Refused (told (job_of input)) ⊎ Same (job_of input) (told (job_of input))
        → let x = cond t (told (job_of input)) (refusal 12 0) in Refused x ⊎ Same (job_of input) x
    go true h = h
    go false h = inl (12, 0, refl)
