-- What the answers of the gathers and of substitution say in document 01's terms: the number, 0 for done, and the rows, all 0 where the
-- call is refused. And what a gather goes by, in the same terms. Assumes nothing.
use Rattle.std.specs.Prelude.{ℕ, List, [], ◌∷◌, Result}
use Rattle.domain.specs.declared.refusal.Refusal.{Refusal}
use Rattle.domain.specs.declared.rows.Rows.{Rows}
use Rattle.domain.specs.Refusal.{no_of, value_or}
use Rattle.domain.specs.rows.Neighbours.{level_rows}
use Rattle.order.specs.Answers.{Reached, reached}
use Rattle.refs.specs.declared.Spot.{Spot}
use Rattle.refs.specs.declared.Layout.{Layout}

-- a number, and rows
pub record Gathered : Type 0 where
  pub no : ℕ
  pub rows : Rows

-- a number, and the rows of Cb and of Cr
pub record GatheredPair : Type 0 where
  pub no : ℕ
  pub planes : List Rows

-- how far a block's neighbours reach, where they stand, how many samples a plane has
pub record Laid : Type 0 where
  pub reach : Reached
  pub spot : Spot
  pub length : ℕ

abbrev pub gathered : Result Rows Refusal → Gathered
gathered r = record { no = no_of r; rows = value_or (level_rows 0) r }

abbrev pub gathered_pair : Result (List Rows) Refusal → GatheredPair
gathered_pair r = record { no = no_of r; planes = value_or (level_rows 0 ∷ level_rows 0 ∷ []) r }

abbrev pub laid : Layout → Laid
laid l = record { reach = reached l.reach; spot = l.spot; length = l.length }
