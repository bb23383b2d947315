-- Document 01, 'use from C': the table of numbers at the camera's entries, where number 5 counts bytes. Rests on Exact and on the
-- doors' tables.  salvrunde_luma_refs     luma_refs        salvrunde_angular        angular salvrunde_chroma_refs_ctu chroma_refs
-- salvrunde_chroma_block   chroma-block salvrunde_planar        planar           salvrunde_replay         replay salvrunde_dc
-- dc  salvrunde_luma_block luma-block  gather::store_reference_samples and gather::store_reference_samples_chroma_pair, to which the
-- gathers forward, have luma_refs and chroma_refs too.
use Rattle.std.specs.Prelude.{List, ℕ, ◌*◌, ◌<◌, length}
use Rattle.promises.specs.tables.Exact.{◌or◌}

-- the predictors: rows of fewer than so many bytes, or a buffer for fewer than n · n samples
abbrev pub ShortRows : ℕ → ℕ → List ℕ → List ℕ → List ℕ → Type 0
ShortRows row n above left out = length above < row or length left < row or length out < 2 * (n * n)

-- rows of fewer than 2n samples
abbrev pub FewBytes : ℕ → List ℕ → List ℕ → List ℕ → Type 0
FewBytes n above left out = ShortRows (4 * n) n above left out
