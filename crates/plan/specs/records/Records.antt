-- Document 01: a block of a plan of bytes, a record of six, little-endian: row and column of two bytes each, side and mode of one.
-- Assumes nothing.
use Rattle.std.specs.Prelude.{ℕ, ◌+◌, ◌*◌, ◌/◌, cond, List, ltb, length, get_or}
use Rattle.octets.specs.Bytes.{le2}
use Rattle.plan.specs.declared.tiling.Block.{Block}
use Rattle.plan.specs.tiling.Plan.{no_block}

-- the record that begins at a byte
abbrev pub record_of : List ℕ → ℕ → Block
record_of b at =
    record {
      row = le2 (get_or b at 0) (get_or b (at + 1) 0);
      col = le2 (get_or b (at + 2) 0) (get_or b (at + 3) 0);
      side = get_or b (at + 4) 0;
      mode = get_or b (at + 5) 0;
    }

-- block k of a plan of bytes; zeros where there is none
unfoldable pub record_at : List ℕ → ℕ → Block
record_at b k = cond (ltb k (length b / 6)) (record_of b (6 * k)) no_block
