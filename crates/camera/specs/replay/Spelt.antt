-- What the replay on bytes leaves spells what the replay of the spelt samples leaves. Rests on the verdict's being the same, and on
-- samples of 16 bits.
use Rattle.std.specs.Prelude.{◌≡◌, true, List, ℤ}
use Rattle.std.proofs.Math.Path.{refl, ap}
use Rattle.std.proofs.Common.{sym, ◌∙◌, arith}
use Prim.Native.Nat.{ℕ, zero, suc, ◌/◌}
use Rattle.std.proofs.Math.Decide.{ℕ_discrete}
use Rattle.std.proofs.Math.ListN.{length}
use Rattle.laws.specs.Chain.{units}
use Rattle.laws.specs.Choose.{worked, unserved}
use Rattle.octets.specs.Bytes.{samples_of, bytes_of, residuals_of}
use Rattle.octets.specs.Laws.{AreBytes, length_samples, length_bytes, Below, samples_below}
use Rattle.domain.specs.Facts.{Depth}
use Rattle.plan.specs.declared.tiling.Block.{Block}
use Rattle.plan.specs.Answers.{Verdict}
use Rattle.plan.specs.tiling.Tiling.{place}
use Rattle.plan.specs.RecordPlan.{records_of}
use Rattle.walk.specs.declared.checks.Still.{Still}
use Rattle.walk.specs.Lent.{scratch_tables}
use Rattle.walk.specs.calls.Steps.{doing_of}
use Rattle.walk.specs.block.Rebuilt.{replay_unit}
use Rattle.walk.specs.block.RebuiltLaws.{rebuilt_length}
use Rattle.walk.specs.calls.Door.{replay_verdict, replay_after}
use Rattle.camera.specs.replay.Blocks.{samples_back, are_bytes, below_rebuilt}
use Rattle.camera.specs.replay.Verdict.{Lent, bytes_fit, byte_verdict}
use Rattle.camera.specs.replay.VerdictLaws.{fitting}
use Rattle.camera.specs.replay.Door.{plane_after}
use Rattle.camera.specs.replay.Laws.{verdict_alike, served_sound}

module _ (s : Still) (depth : Depth s.bits) (plan : ℕ → Block) (v : List ℤ) where
  below_unit : (k : ℕ) (w : List ℕ) → Below w → Below (replay_unit s plan v k w)
  below_unit k w h = below_rebuilt s depth (plan k) (place plan k) v w h

  below_units : (i k : ℕ) (w : List ℕ) → Below w → Below (units (replay_unit s plan v) i k w)
  unfolding units
  below_units i zero w h = h
  below_units i (suc k) w h = below_units (suc i) k (replay_unit s plan v i w) (below_unit i w h)

  length_units : (i k : ℕ) (w : List ℕ) → length (units (replay_unit s plan v) i k w) ≡ length w
  unfolding units
  length_units i zero w = refl
  length_units i (suc k) w = length_units (suc i) k (replay_unit s plan v i w) ∙ rebuilt_length s (plan i) (place plan i) v w

-- a call on a plane of bytes that all fit
module _ (s : Still) (done : ℕ) (l : Lent) (grant : ℕ) (plane : List ℕ) (same : l.plane ≡ length plane) (fit : bytes_fit s l ≡ true)
    (bytes : AreBytes plane) where
  abbrev work : List ℕ
  work = units (replay_unit s (records_of l.plan).block (residuals_of l.residuals)) done
      (doing_of (records_of l.plan).count done grant) (samples_of plane)

  -- its verdict is that on what the bytes spell
  pub spelt_verdict : byte_verdict s done l ≡ replay_verdict s (records_of l.plan) scratch_tables done (length (samples_of plane))
      (residuals_of l.residuals)
  spelt_verdict =
      verdict_alike s done l fit
      ∙ ap (λ (k : ℕ). replay_verdict s (records_of l.plan) scratch_tables done k (residuals_of l.residuals))
      (ap (λ (k : ℕ). k / 2) same ∙ sym (length_samples plane))

  number : (byte_verdict s done l).no ≡ (replay_verdict s (records_of l.plan) scratch_tables done (length (samples_of plane))
      (residuals_of l.residuals)).no
  number = ap (λ (v : Verdict). v.no) spelt_verdict

  pub record Left : Type 0 where
    pub spells : samples_of (plane_after s done l grant plane)
        ≡ replay_after s (records_of l.plan) scratch_tables done grant (residuals_of l.residuals) (samples_of plane)
    pub are : AreBytes (plane_after s done l grant plane)
    pub long : length (plane_after s done l grant plane) ≡ length plane

  -- what it leaves spells what the replay leaves, in as many bytes
  pub left : Left
  unfolding plane_after replay_after
  left = go (ℕ_discrete (byte_verdict s done l).no 0)
    where
      go : Dec ((byte_verdict s done l).no ≡ 0) → Left
      go (yes z) =
          let a = worked (byte_verdict s done l).no (bytes_of work) plane z in
          let b = worked (replay_verdict s (records_of l.plan) scratch_tables done (length (samples_of plane))
          (residuals_of l.residuals)).no work (samples_of plane) (sym number ∙ z) in
          let q = (served_sound s done l z).0 in
          let small = below_units s q.depth (records_of l.plan).block (residuals_of l.residuals) done
          (doing_of (records_of l.plan).count done grant) (samples_of plane) (samples_below plane bytes) in
          let n = length_units s q.depth (records_of l.plan).block (residuals_of l.residuals) done
          (doing_of (records_of l.plan).count done grant) (samples_of plane) in
          let f = (fitting s l fit).plane in
          record {
            spells = ap samples_of (sym a) ∙ samples_back work small ∙ b;
            are = λ i. rw (sym a) (are_bytes work i);
            long = ap length (sym a) ∙ length_bytes work ∙ omega (arith, n, length_samples plane, same, f);
          }
      go (no z) =
          let a = unserved (byte_verdict s done l).no (bytes_of work) plane z in
          let b = unserved (replay_verdict s (records_of l.plan) scratch_tables done (length (samples_of plane))
          (residuals_of l.residuals)).no work (samples_of plane) (λ e. z (number ∙ e)) in
          record { spells = ap samples_of (sym a) ∙ b; are = λ i. rw (sym a) (bytes i); long = ap length (sym a) }
