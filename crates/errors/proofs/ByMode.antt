-- Sums by mode: over a good plan's blocks they add up to the whole. Rests on the sums over a good plan (plan/specs/tiling/Sums).
use Rattle.std.specs.Prelude.{◌≡◌, refl, Bool, cond, ℕ, ◌*◌, eqb}
use Rattle.std.proofs.Common.{sym, ap, ◌∙◌, arith, mul-one, eq-eqb, ne_eqb}
use Rattle.laws.specs.Sum.{total, total_same, total_turned, total_one, total_level}
use Rattle.order.specs.Good.{Good}
use Rattle.plan.specs.declared.tiling.Frame.{Frame}
use Rattle.plan.specs.declared.tiling.Block.{Block}
use Rattle.plan.specs.tiling.Tiling.{picture_of, GoodPlan}
use Rattle.plan.specs.tiling.Cover.{area}
use Rattle.plan.specs.tiling.Sums.{block_total, picture_total, partition, samples_place}
use Rattle.plan.specs.tiling.Verdict.{Modes}
use Rattle.errors.specs.Errors.{of_mode, one, samples_in}

-- sums by mode add up to the sum over all blocks
pub by_mode : (plan : ℕ → Block) (count : ℕ) (weight : Block → ℕ) → Modes plan count
    → total (of_mode weight plan count) 35 ≡ total (λ k. weight (plan k)) count
by_mode plan count weight modes =
    total_turned (λ m i. cond (eqb (plan i).mode m) (weight (plan i)) 0) 35 count
    ∙ total_same _ _ count (λ i l.
    total_one (λ m. cond (eqb (plan i).mode m) (weight (plan i)) 0) 35 (plan i).mode (omega (arith, modes i l))
    (λ m n d. ap (λ (x : Bool). cond x (weight (plan i)) 0) (ne_eqb (plan i).mode m (λ e. d (sym e))))
    ∙ ap (λ (x : Bool). cond x (weight (plan i)) 0) (eq-eqb (plan i).mode (plan i).mode refl))

-- of a good plan: the blocks by mode add up to its length, the samples to the picture's, and what the samples of blocks add up to, by mode,
-- to what those of the picture do
module _ {frame : Frame} (g : Good (picture_of frame)) (plan : ℕ → Block) (count : ℕ) (good : GoodPlan frame plan count)
    (modes : Modes plan count) where
  pub blocks_whole : total (of_mode one plan count) 35 ≡ count
  blocks_whole = by_mode plan count one modes ∙ total_level 1 count ∙ mul-one count

  pub samples_whole : total (of_mode samples_in plan count) 35 ≡ frame.height * frame.width
  samples_whole = by_mode plan count samples_in modes ∙ samples_place plan count ∙ area g plan count good

  pub picture_whole : (f : ℕ → ℕ → ℕ) → total (of_mode (block_total f) plan count) 35 ≡ picture_total f frame
  picture_whole f = by_mode plan count (block_total f) modes ∙ partition g plan count good f
