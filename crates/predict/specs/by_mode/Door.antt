-- What a call with number 0 has, and what the work of each kind of mode asks of it. Rests on the domain and on the numbers.
use Rattle.std.specs.Prelude.{◌≡◌, true, ℕ, ◌+◌, ◌*◌, ◌≤◌, ◌<◌}
use Rattle.std.proofs.Common.{arith, leb-true}
use Rattle.domain.specs.Domain.{depth_ok, size_ok, mode_ok}
use Rattle.domain.specs.Facts.{Depth, Size, depth_of, size_of, size_small}
use Rattle.predict.specs.declared.refusals.Lent.{Lent}
use Rattle.predict.specs.refusals.Refusals.{Lengths, lengths_of, predict_no, told}
use Rattle.predict.specs.planar_dc.Flat.{FlatReady}

-- the tests of a block that hold where a call is served
pub record Predictable (bits n mode : ℕ) : Type 0 where
  pub depth : depth_ok bits ≡ true
  pub size : size_ok n ≡ true
  pub inside : mode_ok mode ≡ true

module _ {bits n mode : ℕ} (b : Predictable bits n mode) where
  pub side : Size n
  side = size_of n b.size

  pub highest : mode ≤ 34
  highest = leb-true mode 34 b.inside

-- and what it is lent: two rows, the block's buffer and the references of the scratch
pub record ModeReady (bits n mode above left pred refs : ℕ) : Type 0 where
  pub block : Predictable bits n mode
  pub above_long : 2 * n ≤ above
  pub left_long : 2 * n ≤ left
  pub room : n * n ≤ pred
  pub refs_long : 193 ≤ refs

pub given : (bits n mode : ℕ) (l : Lengths) → predict_no bits n mode l ≡ 0 → ModeReady bits n mode l.above l.left l.pred l.refs
given bits n mode l e =
    let t = told bits n (mode_ok mode) l e in
    record {
      block = record { depth = t.depth; size = t.size; inside = t.mode };
      above_long = t.above;
      left_long = t.left;
      room = t.pred;
      refs_long = t.refs;
    }

pub given_lent : (bits n mode : ℕ) (l : Lent) → predict_no bits n mode (lengths_of l) ≡ 0
    → ModeReady bits n mode l.above l.left l.pred l.refs
given_lent bits n mode l e = given bits n mode (lengths_of l) e

module _ {bits n mode above left pred refs : ℕ} (g : ModeReady bits n mode above left pred refs) where
  pub flat_ready : FlatReady n above left × (n * n ≤ pred)
  flat_ready =
      let h = size_small n (side g.block) in
      (record { size = side g.block; some = h.0; most = h.1; above = g.above_long; left = g.left_long }, g.room)

  pub angular_ready : 2 ≤ mode
      → Depth bits × (Size n × ((2 ≤ mode) × ((mode < 35) × ((2 * n ≤ above) × ((2 * n ≤ left) × ((n * n ≤ pred) × (65 + n ≤ refs)))))))
  angular_ready low =
      let h = size_small n (side g.block) in
      let top = highest g.block in
      let r = g.refs_long in
      (depth_of bits g.block.depth, (side g.block, (low, (omega arith, (g.above_long, (g.left_long, (g.room, omega arith)))))))
