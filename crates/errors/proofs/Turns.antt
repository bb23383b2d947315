-- A turn of the loop over a pair's blocks. Rests on specs/Blocks, on specs/Listed and on the turns of Limits.
use Rattle.std.specs.Prelude.{◌≡◌, refl, Bool, List, ℕ, ◌+◌, ◌<◌, length}
use Rattle.std.proofs.Common.{arith, eqb-true}
use Rattle.laws.specs.Choose.{both_true}
use Rattle.plan.specs.declared.tiling.Block.{Block}
use Rattle.plan.specs.tiling.Plan.{Plan}
use Rattle.errors.specs.declared.Report.{Report}
use Rattle.errors.specs.Errors.{squares_in, planes_fit}
use Rattle.errors.specs.Served.{RoomFor, Countable, Figured, pair_of}
use Rattle.errors.specs.Limits.{raise_none, Passing}
use Rattle.errors.specs.Errors.{one, samples_in}
use Rattle.errors.proofs.Limits.{turn_fits, turn_more}
use Rattle.errors.specs.Blocks.{with_block as with_squares, with_first}
use Rattle.errors.specs.Listed.{with_block, Addable, with_blocks}

-- the loop begins
abbrev one_pair : Report → Report
one_pair r =
    record { bits = r.bits; frame = r.frame; pairs = r.pairs + 1; blocks = r.blocks; samples = r.samples; squares = r.squares }

pub first_none : (r : Report) (a b : List ℕ) (plan : Plan) → Figured r → one_pair r ≡ with_first r a b plan 0
first_none r a b plan long = λ i. record {
  bits = r.bits;
  frame = r.frame;
  pairs = r.pairs + 1;
  blocks = raise_none one plan.block r.blocks long.0 i;
  samples = raise_none samples_in plan.block r.samples long.1.0 i;
  squares = raise_none (squares_in a b r.frame.width) plan.block r.squares long.1.1 i;
}

-- a turn: t is block k, and v its squares
module _ {r : Report} {fit : Bool} {a b : List ℕ} {plan : Plan} (c : Countable r fit a b plan) (long : Figured r)
    {k : ℕ} (l : k < plan.count) {t : Block} (e : t ≡ plan.block k) {v : ℕ} (q : v ≡ squares_in a b r.frame.width t) where
  abbrev so_far : Report
  so_far = with_first r a b plan k

  passing_first : Passing c k so_far.blocks so_far.samples so_far.squares
  passing_first = (omega arith, (refl, (refl, refl)))

  pub turn_room : RoomFor so_far.blocks so_far.samples so_far.squares t v
  turn_room = turn_fits c long passing_first l t e v q

  pub turn_first : with_squares so_far t v ≡ with_first r a b plan (k + 1)
  turn_first = let m = turn_more c long passing_first l t e v q in λ i. record {
    bits = r.bits;
    frame = r.frame;
    pairs = r.pairs + 1;
    blocks = m.1.0 i;
    samples = m.1.1.0 i;
    squares = m.1.1.1 i;
  }

-- a turn of planes that fit, the pair not yet counted: t can be added, and with it the report has block k too
module _ {r : Report} {a b : List ℕ} {plan : Plan} (c : Countable r (planes_fit r (length a) (length b)) a b plan) (long : Figured r)
    (k : ℕ) (l : k < plan.count) (t : Block) (e : t ≡ plan.block k) where
  abbrev sofar : Report
  sofar = with_blocks r a b plan.block k

  passing : Passing c k sofar.blocks sofar.samples sofar.squares
  passing = (omega arith, (refl, (refl, refl)))

  pub turn_roomy : Addable (with_blocks r a b plan.block k) a b t
  turn_roomy =
      let f = both_true _ _ c.fits in
      record {
        pair = pair_of c k t e l (eqb-true _ _ f.0) (eqb-true _ _ f.1);
        room = turn_fits c long passing l t e _ refl;
      }

  pub turn_with : with_block (with_blocks r a b plan.block k) a b t ≡ with_blocks r a b plan.block (k + 1)
  turn_with = let m = turn_more c long passing l t e _ refl in λ i. record {
    bits = r.bits;
    frame = r.frame;
    pairs = r.pairs;
    blocks = m.1.0 i;
    samples = m.1.1.0 i;
    squares = m.1.1.1 i;
  }
