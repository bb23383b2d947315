-- Document 01: the plan check, 4, 5, then each block in list order by 2, 3, 6, 9, then 10, which goes by the count of samples
-- covered; that this decides 'covers all' exactly is proved in tiling's Cover and in Verdict. Assumes nothing.
use Rattle.std.specs.Prelude.{ℕ, zero, suc, ◌+◌, ◌*◌, ◌≡◌, true, cond, eqb}
use Rattle.order.specs.Order.{picture_ok}
use Rattle.plan.specs.declared.tiling.Frame.{Frame}
use Rattle.plan.specs.declared.tiling.Block.{Block}
use Rattle.plan.specs.Answers.{Verdict}
use Rattle.plan.specs.tiling.Tiling.{picture_of}
use Rattle.plan.specs.tiling.Check.{block_number}
use Rattle.plan.specs.tiling.Plan.{Plan}

-- the verdict on m blocks from block k on
unfoldable pub verdict_from : Frame → (ℕ → Block) → ℕ → ℕ → ℕ → Verdict
verdict_from f plan zero k covered = record { no = cond (eqb covered (f.height * f.width)) 0 10; block = 0 }
verdict_from f plan (suc m) k covered =
    let n = block_number f (plan k) covered in
    cond (eqb n 0) (verdict_from f plan m (suc k) (covered + (plan k).side * (plan k).side)) (record { no = n; block = k })

-- the verdict on a plan of whole records whose picture is not refused
abbrev pub blocks_verdict : Frame → Plan → Verdict
blocks_verdict f l = verdict_from f l.block l.count 0 0

unfoldable pub plan_verdict : Frame → Plan → Verdict
plan_verdict f l =
    cond (picture_ok (picture_of f))
    (cond l.whole (blocks_verdict f l) (record { no = 5; block = 0 }))
    (record { no = 4; block = 0 })

-- a good picture and whole records leave the blocks to decide
pub blocks_alone : (f : Frame) (l : Plan) → picture_ok (picture_of f) ≡ true → l.whole ≡ true → plan_verdict f l ≡ blocks_verdict f l
unfolding plan_verdict
blocks_alone f l e w = rw (e, w)
