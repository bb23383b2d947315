-- Document 01, 'use from C': what the entries of the gathers give back and write, in bytes. Numbers count bytes. Assumes nothing.
use Rattle.std.specs.Prelude.{ℕ, ◌*◌, ◌&&◌, List, leb, eqb, length}
use Rattle.octets.specs.Bytes.{samples_of}
use Rattle.camera.specs.gather.Line.{rows_at}
use Rattle.camera.specs.Written.{Written, entry}
use Rattle.refs.specs.declared.LumaRefGeometry.{LumaRefGeometry}
use Rattle.refs.specs.declared.ChromaRefGeometry.{ChromaRefGeometry}
use Rattle.refs.specs.Door.{luma_length, luma_number, luma_rows, chroma_length, chroma_number, chroma_rows}

-- number 5 is given for a short buffer too, in its place
abbrev pub luma_entry_no : ℕ → ℕ → LumaRefGeometry → ℕ
luma_entry_no plane out g = luma_number (eqb plane (2 * luma_length g) && leb 262 out) g

unfoldable pub luma_entry : List ℕ → LumaRefGeometry → List ℕ → Written
luma_entry plane g d = entry (luma_entry_no (length plane) (length d) g) (rows_at 0 (luma_rows (samples_of plane) g) d) d

abbrev pub chroma_entry_no : ℕ → ℕ → ℕ → ChromaRefGeometry → ℕ
chroma_entry_no cb cr out g = chroma_number (eqb cb (2 * chroma_length g) && eqb cr (2 * chroma_length g) && leb 524 out) g

-- Cb first, then Cr
unfoldable pub chroma_entry : List ℕ → List ℕ → ChromaRefGeometry → List ℕ → Written
chroma_entry cb cr g d =
    entry (chroma_entry_no (length cb) (length cr) (length d) g)
    (rows_at 262 (chroma_rows (samples_of cr) g) (rows_at 0 (chroma_rows (samples_of cb) g) d)) d
