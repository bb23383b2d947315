-- What is before the first, in the corner and after the last, then both edges. Assumes nothing.
use mathlib.Core.Path.{◌≡◌, ◌∙◌}
use lib.ListN.{length}
use Rattle.refs.specs.Seen.{pad_rows, with_corner, two_set, second_kept, from_parts}
use Rattle.refs.proofs.pad_rows.Goals as goal

pub returns : goal.returns
unfolding pad_rows
returns c = let a = c.args in
    let long : length a.two.now ≡ 2 = c.requires.1 in
    two_set a.two.now _ _ _ long
    ∙ from_parts (pad_rows a.r (with_corner a.seen a.two.now) a.n)
    (simp (c.choose-corner.ensures, c.choose-beside.ensures, c.last_of-start.ensures, c.choose-before.ensures))
    (simp (c.pad.ensures, c.last_of-rest.ensures, c.choose-corner.ensures, c.choose-beside.ensures, c.last_of-start.ensures, c.choose-before.ensures))
    (simp (c.pad-2.ensures, second_kept, c.last_of-start.ensures, c.choose-before.ensures))
