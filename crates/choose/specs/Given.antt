-- What a search is given, as contracts name it. Rests on the sum of a mode.
use Rattle.std.specs.Prelude.{◌≡◌, true, ℕ, ◌*◌, ◌%◌, ◌≤◌, ◌<◌, length}
use Rattle.std.proofs.Common.{arith}
use Rattle.domain.specs.Facts.{Size, size_of}
use Rattle.h265.specs.Notation.{Neighbours, from_rows}
use Rattle.predict.specs.refusals.Refusals.{refs_no, rows_no}
use Rattle.predict.specs.modes.Modes.{predicted_by_mode}
use Rattle.choose.specs.Choose.{differences, source_at, mode_sum}
use Rattle.choose.specs.Early.{UpwardOf, refs_serve_of, rows_serve_of, by_eights_of}
use Rattle.choose.specs.declared.Border.{Border}
use Rattle.choose.specs.declared.Trial.{Trial}
use Rattle.choose.specs.declared.Search.{Search}

-- the neighbours that a border holds
abbrev pub neighbours : Border → Neighbours
neighbours b = from_rows b.corner b.above.now b.left.now

-- how far a block's samples are from what the mode predicts from a border as it is, edge filter on
abbrev pub distance : Trial → ℕ
distance t = let k = t.block in
    differences (source_at k.n k.samples.now) (predicted_by_mode k.bits true true k.n t.mode (neighbours t.border)) k.n k.n

-- the sum of a mode in a search
abbrev pub sum_of : Search → ℕ → ℕ
sum_of s mode = mode_sum s.block.bits s.block.n (neighbours s.border) s.block.samples.now mode

-- What adding up from the last rows asks for: more than eight rows, a vertical mode that is not 26, whose edge is filtered, and enough of
-- what is lent.
pub record Upward (t : Trial) (p r : ℕ) : Type 0 where
  pub wide : 8 < t.block.n
  pub low : 18 ≤ t.mode
  pub bent : t.mode ≡ 26 → ⊥
  pub room : t.block.n * t.block.n ≤ p
  pub refs : 193 ≤ r

module _ {t : Trial} {p r : ℕ} (u : Upward t p r) where
  pub side : Size t.block.n
  side = size_of t.block.n t.block.size

  -- what is asked for, of a trial's numbers alone
  pub upward_of : UpwardOf t.block.n t.mode (length t.border.above.now) (length t.border.left.now) (length t.block.samples.now) p r
  upward_of =
      record {
        size = side;
        wide = u.wide;
        low = u.low;
        high = t.known;
        bent = u.bent;
        above = t.border.long.0;
        left = t.border.long.1;
        source = t.block.room;
        room = u.room;
        refs = u.refs;
      }

  -- neither the references nor the rows are refused
  pub refs_serve : refs_no t.block.n t.mode (length t.border.above.now) (length t.border.left.now) r ≡ 0
  refs_serve = refs_serve_of upward_of

  pub rows_serve : (first end : ℕ) → first ≤ end → end ≤ t.block.n
      → rows_no t.block.n t.mode first end (length t.border.above.now) r p ≡ 0
  rows_serve = rows_serve_of upward_of

  -- eight rows at a time come to row 0
  pub by_eights : t.block.n % 8 ≡ 0
  by_eights = by_eights_of upward_of

  -- where others of the same lengths are lent
  pub as_lent : {p' r' : ℕ} → p' ≡ p → r' ≡ r → Upward t p' r'
  as_lent e f =
      record { wide = u.wide; low = u.low; bent = u.bent; room = omega (arith, u.room, e); refs = omega (arith, u.refs, f) }
