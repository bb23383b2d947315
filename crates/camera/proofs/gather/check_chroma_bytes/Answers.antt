-- The number from the reach's and the planes' bytes. Assumes nothing.
use Rattle.std.specs.Prelude.{◌&&◌}
use Rattle.std.proofs.Common.{ap, ◌∙◌, ◌*◌, eqb}
use Rattle.laws.specs.Choose.{both_same}
use Rattle.refs.specs.Answers.{Laid}
use Rattle.refs.specs.Door.{chroma_length}
use Rattle.refs.specs.Served.{chroma-number}
use Rattle.camera.specs.gather.Door.{chroma_bytes_no}
use Rattle.camera.proofs.gather.check_chroma_bytes.Goals as goal

pub returns : goal.returns
unfolding chroma_bytes_no
returns c = let a = c.args in (
  chroma-number (eqb a.cb (2 * chroma_length a.geo) && eqb a.cr (2 * chroma_length a.geo)) a.geo a.l c.requires
      (both_same c.whole_in.ensures c.whole_in-2.ensures ∙ ap (λ (q : Laid). eqb a.cb (2 * q.length) && eqb a.cr (2 * q.length)) c.requires)
      c.check_gather.ensures.0,
  c.check_gather.ensures.1,
)
