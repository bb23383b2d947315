-- `angular::build` meets its contract. The references are the run that the two parts make. Assumes nothing.
use Prim.Native.Nat.{◌≤◌}
use Rattle.predict.specs.angles.Starts.{first_of}
use Rattle.predict.specs.angular.Reach.{first_reach}
use Rattle.predict.specs.angular.Blocks.{built}
use Rattle.predict.proofs.angular.build.Goals as goal
use Rattle.predict.proofs.angular.build.Goals.{After-slice_known-1}

early : (c : After-slice_known-1) → let a = c.args in first_of a.e a.n ≤ 64
early c =
    let p = c.requires in
    first_reach _ _ p.0 p.1.1.0

pub returns : goal.returns
returns c = let a = c.args in
    let q = c.first-lo.ensures in
    let low = rw q at (c.lowers.ensures a.main.now) in
    built a.corner a.main.now a.side.now a.inv (first_of a.e a.n) a.n a.refs.now (early (goal.at.returns c).After-slice_known-1) low c.main_refs.ensures
