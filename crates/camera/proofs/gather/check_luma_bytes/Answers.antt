-- The number from the reach's and the plane's bytes. Assumes nothing.
use Rattle.std.proofs.Common.{ap, ◌∙◌, ◌*◌, eqb}
use Rattle.refs.specs.Answers.{Laid}
use Rattle.refs.specs.Door.{luma_length}
use Rattle.refs.specs.Served.{luma-number}
use Rattle.camera.specs.gather.Door.{luma_bytes_no}
use Rattle.camera.proofs.gather.check_luma_bytes.Goals as goal

pub returns : goal.returns
unfolding luma_bytes_no
returns c = let a = c.args in (
  luma-number (eqb a.len (2 * luma_length a.geo)) a.geo a.l c.requires
      (c.whole_in-whole.ensures ∙ ap (λ (q : Laid). eqb a.len (2 * q.length)) c.requires) c.check_gather.ensures.0,
  c.check_gather.ensures.1,
)
