-- Document 02, Wish 7, for C: what the checksum of rows of a plane's bytes gives back and writes. Assumes nothing.
use Rattle.std.specs.Prelude.{ℕ, List, ◌++◌, leb, length, drop}
use Rattle.octets.specs.Bytes.{word_of}
use Rattle.checksum.specs.declared.RowRange.{RowRange}
use Rattle.checksum.specs.Checksum.{checksum_on_bytes}
use Rattle.camera.specs.Written.{Written, entry}

-- a buffer of at least four bytes after a number was written into it, the lowest byte first; the bytes beyond stay
unfoldable pub word_into : ℕ → List ℕ → List ℕ
word_into v d = word_of v ++ drop 4 d

-- a buffer that has no room for the sum is number 5
unfoldable pub checksum_entry : RowRange → ℕ → List ℕ → List ℕ → Written
checksum_entry r sum plane d = let v = checksum_on_bytes r (leb 4 (length d)) plane sum in entry v.no (word_into v.sum d) d
