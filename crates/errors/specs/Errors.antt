-- Document 02, Wish 14: how far coded stills are from their sources, mode by mode. A report counts pairs of planes under one depth, picture
-- and CTU: for each mode the blocks that have it, their samples, and the squares of all differences in them. Assumes nothing.
use Rattle.std.specs.Prelude.{ℕ, ◌+◌, ◌-◌, ◌*◌, ◌/◌, ◌^◌, Bool, cond, ◌&&◌, List, [], ◌∷◌, leb, ltb, eqb, length, get_or, replicate}
use Rattle.laws.specs.Choose.{◌unless◌, first_fail, served}
use Rattle.laws.specs.Every.{every}
use Rattle.laws.specs.Fill.{fill}
use Rattle.laws.specs.Sum.{total}
use Rattle.domain.specs.Domain.{depth_ok}
use Rattle.order.specs.Order.{picture_ok}
use Rattle.plan.specs.declared.tiling.Frame.{Frame}
use Rattle.plan.specs.declared.tiling.Block.{Block}
use Rattle.plan.specs.Answers.{Verdict}
use Rattle.plan.specs.tiling.Tiling.{picture_of}
use Rattle.plan.specs.tiling.Plan.{Plan}
use Rattle.plan.specs.tiling.Sums.{block_total}
use Rattle.plan.specs.tiling.PlanCheck.{plan_verdict}
use Rattle.plan.specs.RecordPlan.{records_of}
use Rattle.octets.specs.Bytes.{samples_of}
use Rattle.errors.specs.declared.Report.{Report}
use Rattle.errors.specs.Answers.{Counted}
use Rattle.errors.specs.Answers.{Joined}

-- the square of how far two samples are apart: of the two differences one is 0
abbrev pub square_apart : ℕ → ℕ → ℕ
square_apart x y = (x - y + (y - x)) * (x - y + (y - x))

-- the same at a row and a column of two planes
abbrev pub error_at : List ℕ → List ℕ → ℕ → ℕ → ℕ → ℕ
error_at a b width r c = square_apart (get_or a (r * width + c) 0) (get_or b (r * width + c) 0)

-- of the first k blocks, those that have mode m, each by its weight
abbrev pub of_mode : (Block → ℕ) → (ℕ → Block) → ℕ → ℕ → ℕ
of_mode weight plan k m = total (λ i. cond (eqb (plan i).mode m) (weight (plan i)) 0) k

-- a block's weights: itself, its samples, the squares of the differences in it
abbrev pub one : Block → ℕ
one b = 1

abbrev pub samples_in : Block → ℕ
samples_in b = b.side * b.side

abbrev pub squares_in : List ℕ → List ℕ → ℕ → Block → ℕ
squares_in a b width t = block_total (error_at a b width) t

-- what is added to a report: pairs, and by mode blocks, samples and squares
pub record Tally : Type 0 where
  pub pairs : ℕ
  pub blocks : ℕ → ℕ
  pub samples : ℕ → ℕ
  pub squares : ℕ → ℕ

-- what a pair of planes adds under a plan
abbrev pub pair_tally : Frame → List ℕ → List ℕ → Plan → Tally
pair_tally f a b plan =
    record {
      pairs = 1;
      blocks = of_mode one plan.block plan.count;
      samples = of_mode samples_in plan.block plan.count;
      squares = of_mode (squares_in a b f.width) plan.block plan.count;
    }

-- and what a report adds to another
abbrev pub tally_of : Report → Tally
tally_of r =
    record {
      pairs = r.pairs;
      blocks = λ m. get_or r.blocks m 0;
      samples = λ m. get_or r.samples m 0;
      squares = λ m. get_or r.squares m 0;
    }

-- the figures of the 35 modes, each raised
abbrev pub raised : (ℕ → ℕ) → List ℕ → List ℕ
raised more l = fill (λ m. get_or l m 0 + more m) 35 l

abbrev pub tallied : Report → Tally → Report
tallied r t =
    record {
      bits = r.bits;
      frame = r.frame;
      pairs = r.pairs + t.pairs;
      blocks = raised t.blocks r.blocks;
      samples = raised t.samples r.samples;
      squares = raised t.squares r.squares;
    }

-- a report of no pair
abbrev pub fresh_report : ℕ → Frame → Report
fresh_report bits frame =
    record { bits = bits; frame = frame; pairs = 0; blocks = replicate 35 0; samples = replicate 35 0; squares = replicate 35 0 }

-- a report's figures: how many samples a plane has, the largest sample, all samples of the pairs so far
abbrev pub plane_area : Report → ℕ
plane_area r = r.frame.height * r.frame.width

abbrev pub top_of : Report → ℕ
top_of r = 2 ^ r.bits - 1

abbrev pub samples_so_far : Report → ℕ
samples_so_far r = r.pairs * plane_area r

-- number 15: no mode has more than the pairs so far can give
abbrev pub at_most : ℕ → List ℕ → Bool
at_most most l = every (λ v. leb v most) l

unfoldable pub keeps_limits : Report → Bool
keeps_limits r =
    at_most (samples_so_far r / 16) r.blocks && at_most (samples_so_far r) r.samples
    && at_most (samples_so_far r * (top_of r * top_of r)) r.squares

-- and there is room for one more
abbrev pub room_for_pair : Report → Bool
room_for_pair r = ltb r.pairs 65536 && keeps_limits r

-- numbers 1 and 4 of the report's settings, 5 where what is lent does not fit, 7 over all samples of both planes
unfoldable pub pair_no : Report → Bool → Bool → ℕ
pair_no r fit ok =
    first_fail
    ((1 unless depth_ok r.bits) ∷ (4 unless picture_ok (picture_of r.frame)) ∷ (5 unless fit) ∷ (7 unless ok) ∷ [])

-- then the plan's number, with its block, then 15
unfoldable pub settle_full : ℕ → Verdict → Bool → Verdict
settle_full early found room =
    cond (eqb early 0) (cond (eqb found.no 0) (record { no = cond room 0 15; block = 0 }) found) (record { no = early; block = 0 })

-- the verdict on a pair; `fit` tells whether what is lent beside the plan is as long as it must be
abbrev pub pair_verdict : Report → Bool → List ℕ → List ℕ → Plan → Verdict
pair_verdict r fit a b plan =
    settle_full (pair_no r (plan.whole && fit) (at_most (top_of r) a && at_most (top_of r) b)) (plan_verdict r.frame plan) (room_for_pair r)

-- number, block and next record: refused, the record comes back as given
unfoldable pub counted_by : Report → Verdict → Tally → Counted
counted_by r v t = record { no = v.no; block = v.block; next = served v.no (tallied r t) r }

-- a pair of planes of samples
abbrev pub planes_fit : Report → ℕ → ℕ → Bool
planes_fit r a b = eqb a (plane_area r) && eqb b (plane_area r)

abbrev pub count_pair : Report → List ℕ → List ℕ → Plan → Counted
count_pair r a b plan = counted_by r (pair_verdict r (planes_fit r (length a) (length b)) a b plan) (pair_tally r.frame a b plan)

-- a pair of planes of bytes, two a sample, under a plan of bytes
abbrev pub plane_bytes_fit : Report → ℕ → ℕ → Bool
plane_bytes_fit r a b = eqb a (2 * plane_area r) && eqb b (2 * plane_area r)

abbrev pub count_bytes : Report → List ℕ → List ℕ → List ℕ → Counted
count_bytes r a b plan =
    counted_by r (pair_verdict r (plane_bytes_fit r (length a) (length b)) (samples_of a) (samples_of b) (records_of plan))
    (pair_tally r.frame (samples_of a) (samples_of b) (records_of plan))

-- Two reports are added where depth, picture and CTU are the same: 1 and 4 are about the first's, 4 also where the second's are others, 15
-- where the pairs together are more than 65,536 or a mode of either has more than its own pairs can give.
abbrev pub same_settings : Report → Report → Bool
same_settings r s =
    eqb s.bits r.bits && eqb s.frame.width r.frame.width && eqb s.frame.height r.frame.height
    && eqb s.frame.ctu r.frame.ctu

unfoldable pub join_no : Report → Report → ℕ
join_no r s =
    first_fail
    ((1 unless depth_ok r.bits) ∷ (4 unless (picture_ok (picture_of r.frame) && same_settings r s))
    ∷ (15 unless (leb (r.pairs + s.pairs) 65536 && (keeps_limits r && keeps_limits s))) ∷ [])

unfoldable pub join_reports : Report → Report → Joined
join_reports r s = let k = join_no r s in record { no = k; next = served k (tallied r (tally_of s)) r }
