-- The walk of a plan over flat planes is a walk in Replay's sense: what it stores is the source less the prediction. Rests on Picture and on
-- what the walk's residuals are.
use Rattle.std.specs.Prelude.{◌≡◌, refl, List, ℤ}
use Rattle.std.proofs.Common.{ap₂, ◌∙◌}
use Prim.Native.Nat.{ℕ, suc, ◌+◌, ◌-◌, ◌<◌}
use native.Mathlib.Omega.{arith}
use Rattle.domain.specs.Facts.{Depth}
use Rattle.plan.specs.declared.tiling.Block.{Block}
use Rattle.plan.specs.tiling.Tiling.{place}
use Rattle.plan.specs.tiling.Cover.{area}
use Rattle.plan.specs.tiling.Verdict.{Accepted}
use Rattle.walk.specs.declared.checks.Still.{Still}
use Rattle.walk.specs.block.Predicted.{sample_at}
use Rattle.walk.specs.block.Rebuilt.{replay_unit}
use Rattle.walk.specs.block.Walked.{stored, World, walked, walk_unit}
use Rattle.walk.specs.calls.Places.{place_up}
use Rattle.walk.specs.block.Stored.{stored_length, stored_at}
use Rattle.walk.specs.lossless.Replay.{Walks}
use Rattle.walk.specs.lossless.Picture.{Sample, look, predict, residual, Whole, OfS, less, within, store_out}

module _ (s : Still) (plan : ℕ → Block) (count : ℕ) (ok : Accepted s.frame plan count) (depth : Depth s.bits) where
  module _ (source : List ℕ) where
    store_in : (k : ℕ) (w : List ℕ) (v : List ℤ) → k < count → Whole s v → (t : Sample s) → OfS s plan k t
        → residual s plan (stored s source (plan k) (place plan k) w v) k t ≡ less (look s source t) (predict s plan k w t)
    store_in k w v l long t o =
        let b = plan k in
        let y : b.row + (t.row - b.row) ≡ t.row = omega arith in
        let x : b.col + (t.col - b.col) ≡ t.col = omega arith in
        stored_at s source b (place plan k) w v (t.row - b.row) (t.col - b.col) (omega arith) (omega arith)
        (omega (arith, within s plan k t o, place_up plan (suc k) count l, area ok.picture plan count ok.plan_good))
        ∙ ap₂ (λ (r c : ℕ). less (sample_at s source r c) (predict s plan k w t)) y x

    pub walks_plan : Walks (Whole s) (look s) (residual s plan) count (OfS s plan) (predict s plan) less source
        (λ k v w. replay_unit s plan v k w) (Whole s)
        (λ k w v. stored s source (plan k) (place plan k) w v) (λ (x : World). x.work) (λ (x : World). x.residuals)
        (walk_unit s plan source)
    unfolding walked
    walks_plan = record {
      store_ok = λ k w v h. stored_length s source (plan k) (place plan k) w v ∙ h;
      store_in = λ k w v l h. store_in k w v l;
      store_out = λ k w v l. store_out s plan count ok depth source k w v;
      unit_work = λ k x. refl;
      unit_resid = λ k x. refl;
    }
