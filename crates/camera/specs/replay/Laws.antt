-- What joins the functions of the replay on bytes: it is the replay of what the bytes spell. Rests on the laws of calls and on those
-- of bytes.
use Rattle.std.specs.Prelude.{◌≡◌, Bool, List, ℕ, ◌+◌, ◌*◌, ◌/◌, ◌%◌, ◌≤◌, length}
use Rattle.std.proofs.Math.Path.{sym, ap, ap₂}
use Rattle.std.proofs.Common.{subst, ◌∙◌, arith}
use Rattle.std.proofs.Math.Bool.{true}
use Rattle.std.proofs.Math.Dec.{eqb}
use borrow.Author.Tests.{eq-eqb}
use Rattle.laws.specs.Choose.{worked, unserved}
use Rattle.laws.specs.Chain.{units}
use Rattle.octets.specs.Bytes.{samples_of, bytes_of, residuals_of}
use Rattle.octets.specs.Laws.{AreBytes, length_samples, length_residuals, samples_alike, bytes_back}
use Rattle.plan.specs.Answers.{Verdict}
use Rattle.plan.specs.RecordPlan.{records_of}
use Rattle.walk.specs.declared.checks.Still.{Still}
use Rattle.walk.specs.checks.Checks.{largest_in, call_no, residual_checks, replay_fits}
use Rattle.walk.specs.checks.Laws.{good_call}
use Rattle.walk.specs.block_rows.Laws.{storing}
use Rattle.walk.specs.Lent.{scratch_tables}
use Rattle.walk.specs.calls.Steps.{doing_of}
use Rattle.walk.specs.block.Rebuilt.{replay_unit}
use Rattle.walk.specs.calls.Door.{verdict_of, replay_verdict}
use Rattle.walk.specs.calls.Ready.{Sound}
use Rattle.walk.specs.calls.Laws.{replay_sound, verdict_zero}
use Rattle.camera.specs.replay.Verdict.{Lent, bytes_fit, byte_no, byte_verdict, answered}
use Rattle.camera.specs.replay.VerdictLaws.{fitting}
use Rattle.camera.specs.replay.Door.{plane_after, result_after, replayed}

module _ (s : Still) (done : ℕ) (l : Lent) where
  -- where the bytes fit, the verdict is that on what they spell
  pub verdict_alike : bytes_fit s l ≡ true → byte_verdict s done l
      ≡ replay_verdict s (records_of l.plan) scratch_tables done (l.plane / 2) (residuals_of l.residuals)
  unfolding byte_verdict replay_verdict
  verdict_alike e =
      let f = fitting s l e in
      let area = s.frame.height * s.frame.width in
      let a : eqb (l.plane / 2) area ≡ true = eq-eqb (l.plane / 2) area (omega (arith, f.plane)) in
      let b : eqb (length (residuals_of l.residuals)) area
      ≡ true = eq-eqb _ area (omega (arith, length_residuals l.residuals, f.residuals)) in
      let both : bytes_fit s l ≡ replay_fits s (records_of l.plan).whole scratch_tables (l.plane / 2)
      (length (residuals_of l.residuals)) = e ∙ sym (rw (f.records, a, b)) in
      ap (λ (t : Bool). verdict_of s (records_of l.plan) done
      (call_no s t (residual_checks (largest_in s) (residuals_of l.residuals)))) both

  -- a call that is served fits
  pub served_fits : (byte_verdict s done l).no ≡ 0 → bytes_fit s l ≡ true
  unfolding byte_verdict
  served_fits z =
      (good_call s (bytes_fit s l) (residual_checks (largest_in s) (residuals_of l.residuals))
      (verdict_zero s (records_of l.plan) done (byte_no s l) z).0).1

  pub served_sound : (byte_verdict s done l).no ≡ 0
      → Sound s (records_of l.plan) (l.plane / 2) (length (residuals_of l.residuals)) scratch_tables × (done ≤ length l.plan / 6)
  served_sound z =
      replay_sound s (records_of l.plan) scratch_tables done (l.plane / 2) (residuals_of l.residuals)
      (ap (λ (v : Verdict). v.no) (sym (verdict_alike (served_fits z))) ∙ z)

-- a plane of so many bytes: what its samples ask for
pub serves : (s : Still) (done : ℕ) (plan residuals plane : List ℕ) (result : ℕ)
    → (byte_verdict s done (record { plan = plan; residuals = residuals; plane = length plane; result = result })).no ≡ 0
    → Sound s (records_of plan) (length (samples_of plane)) (length (residuals_of residuals)) scratch_tables
    × ((done ≤ length plan / 6) × (length plane % 2 ≡ 0))
serves s done plan residuals plane result z =
    let l : Lent = record { plan = plan; residuals = residuals; plane = length plane; result = result } in
    let q = served_sound s done l z in
    let f = fitting s l (served_fits s done l z) in (
      subst (λ (k : ℕ). Sound s (records_of plan) k (length (residuals_of residuals)) scratch_tables) (sym (length_samples plane)) q.0,
      (q.1, omega (arith, f.plane)),
    )

-- a refused call
module _ (s : Still) (done : ℕ) (l : Lent) (grant : ℕ) (v : Verdict) (e : v ≡ byte_verdict s done l) (h : v.no ≡ 0 → ⊥) where
  pub plane_kept : (plane : List ℕ) → plane ≡ plane_after s done l grant plane
  unfolding plane_after
  plane_kept plane = unserved (byte_verdict s done l).no _ plane (λ z. h (ap (λ (u : Verdict). u.no) e ∙ z))

  pub result_refused : (result : List ℕ) → answered v.block done result ≡ result_after s done l grant result
  unfolding result_after
  result_refused result =
      let n : (byte_verdict s done l).no ≡ 0 → ⊥ = λ z. h (ap (λ (u : Verdict). u.no) e ∙ z) in
      ap₂ (λ (b k : ℕ). answered b k result) (ap (λ (u : Verdict). u.block) e ∙ unserved (byte_verdict s done l).no 0 _ n)
      (unserved (byte_verdict s done l).no _ done n)

-- a served call; e is what the plane holds after it, and its samples are known
module _ (s : Still) (done : ℕ) (l : Lent) (grant : ℕ) (z : (byte_verdict s done l).no ≡ 0) where
  pub plane_done : (plane e : List ℕ) → length e % 2 ≡ 0 → AreBytes e
      → samples_of e ≡ units (replay_unit s (records_of l.plan).block (residuals_of l.residuals)) done
      (doing_of (records_of l.plan).count done grant) (samples_of plane)
      → e ≡ plane_after s done l grant plane
  unfolding plane_after
  plane_done plane e even small q = sym (bytes_back e even small) ∙ ap bytes_of q ∙ worked (byte_verdict s done l).no _ plane z

  pub result_served : (next : ℕ) (result : List ℕ) → next ≡ done + doing_of (records_of l.plan).count done grant
      → answered 0 next result ≡ result_after s done l grant result
  unfolding result_after
  result_served next result q =
      ap₂ (λ (b k : ℕ). answered b k result) (worked (byte_verdict s done l).no 0 _ z) (q ∙ worked (byte_verdict s done l).no _ done z)

-- number, plane and result buffer of a call together
pub all_three : (s : Still) (done : ℕ) (plan residuals : List ℕ) (grant : ℕ) (plane result : List ℕ) {k : ℕ} {d e : List ℕ}
    → let l : Lent = record { plan = plan; residuals = residuals; plane = length plane; result = length result } in
    k ≡ (byte_verdict s done l).no → d ≡ plane_after s done l grant plane → e ≡ result_after s done l grant result
    → record { number = k; plane = d; result = e } ≡ replayed s done plan residuals grant plane result
unfolding replayed
all_three s done plan residuals grant plane result a b c = λ i. record { number = a i; plane = b i; result = c i }

-- what a loop that stores a row in bytes rests on: what one over samples does, and how many samples and residuals bytes spell
pub ruleset storing_bytes = (storing, length_samples, length_residuals, samples_alike)
