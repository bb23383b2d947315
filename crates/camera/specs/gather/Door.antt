-- Document 01, 'use from C': the gathers over planes of bytes, two a sample. Number 5 counts bytes, and the rows are those of the
-- samples that the bytes spell. Assumes nothing.
use Rattle.std.specs.Prelude.{ℕ, ◌*◌, ◌&&◌, List, eqb, length}
use Rattle.laws.specs.Choose.{served}
use Rattle.octets.specs.Bytes.{samples_of}
use Rattle.refs.specs.Answers.{Gathered}
use Rattle.domain.specs.rows.Neighbours.{level_rows}
use Rattle.refs.specs.declared.LumaRefGeometry.{LumaRefGeometry}
use Rattle.refs.specs.declared.ChromaRefGeometry.{ChromaRefGeometry}
use Rattle.refs.specs.Door.{luma_length, luma_number, luma_rows, chroma_length, chroma_number}

unfoldable pub luma_bytes_no : ℕ → LumaRefGeometry → ℕ
luma_bytes_no len g = luma_number (eqb len (2 * luma_length g)) g

unfoldable pub luma_bytes_door : List ℕ → LumaRefGeometry → Gathered
luma_bytes_door b g = let k = luma_bytes_no (length b) g in record { no = k; rows = served k (luma_rows (samples_of b) g) (level_rows 0) }

unfoldable pub chroma_bytes_no : ℕ → ℕ → ChromaRefGeometry → ℕ
chroma_bytes_no cb cr g = chroma_number (eqb cb (2 * chroma_length g) && eqb cr (2 * chroma_length g)) g
