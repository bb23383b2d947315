-- Document 01: a plan, as four lists of lent numbers and as a list of block records. Assumes nothing.
use Rattle.std.specs.Prelude.{ℕ, Bool, true, ◌&&◌, List, eqb, length, get_or}
use Rattle.plan.specs.declared.tiling.Block.{Block}

-- a plan: whether what was lent makes whole records, and so many blocks, in their order
pub record Plan : Type 0 where
  pub whole : Bool
  pub count : ℕ
  pub block : ℕ → Block

-- a plan as lent numbers: the blocks' rows, columns, sides and modes. Lists of different lengths make no whole records; such a plan
-- is refused, so that its count, which is that of the rows, does not matter
abbrev pub plan_of : List ℕ → List ℕ → List ℕ → List ℕ → Plan
plan_of rows cols sides modes =
    record {
      whole = eqb (length cols) (length rows) && eqb (length sides) (length rows) && eqb (length modes) (length rows);
      count = length rows;
      block = λ k. record { row = get_or rows k 0; col = get_or cols k 0; side = get_or sides k 0; mode = get_or modes k 0 };
    }

-- a plan as a list of block records
abbrev pub no_block : Block
no_block = record { row = 0; col = 0; side = 0; mode = 0 }

abbrev pub listed : List Block → Plan
listed l = record { whole = true; count = length l; block = λ k. get_or l k no_block }
