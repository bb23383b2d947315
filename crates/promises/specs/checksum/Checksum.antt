-- Document 02, Wish 7, on one page: the picture checksum is the one of H.265 Annex D, a sum modulo two to the 32, and two calls split at a
-- row give what one gives. For each door: what meets its contract, as the prover reads it, with the number 0. ProofChecksum proves it.
use Rattle.std.specs.Prelude.{◌≡◌, Bool, List, ℕ, ◌+◌, ◌-◌, ◌%◌, ◌^◌, ◌<◌, ltb, Result}
use contract.Lifetimes.{Lfts}
use Rattle.laws.specs.Sum.{total}
use Rattle.h265.specs.Checksum.{sum_of_rows, picture_checksum}
use Rattle.domain.specs.declared.refusal.Refusal.{Refusal}
use Rattle.domain.specs.Refusal.{no_of}
use Rattle.octets.specs.Bytes.{samples_of}
use Rattle.checksum.specs.declared.RowRange.{RowRange}
use Rattle.checksum.specs.Answers.{answered}
use Rattle.checksum.specs.Checksum.{row_range, sample_in_plane}
use Rattle.checksum.specs.Laws.{column_adds}
use Rattle.camera.specs.sums.Entry.{word_into}
use Rattle.checksum.proofs.picture_checksum.Reads as door
use Rattle.checksum.proofs.on_bytes.picture_checksum_bytes.Reads as bytes-door
use Rattle.camera.proofs.salvrunde_checksum.Reads as c-checksum
use Rattle.promises.specs.demand2.Demand2.{LentSlice, LentMutSlice, ◌and◌, none}

-- what meets a door's contract with the number 0: over a plane of samples, and over one of bytes
abbrev pub Sums : Lfts 1 → LentSlice → RowRange → ℕ → Result ℕ Refusal → Type 0
Sums κ plane r sum v = door.Post κ (plane and r and sum and none) v (plane and r and sum and none) × (no_of v ≡ 0)

abbrev pub SumsBytes : Lfts 1 → LentSlice → RowRange → ℕ → Bool → Result ℕ Refusal → Type 0
SumsBytes κ plane r sum roomy v =
    bytes-door.Post κ (plane and r and sum and roomy and none) v (plane and r and sum and roomy and none) × (no_of v ≡ 0)

-- all that the samples of the rows from first up to end add, a row at a time
abbrev pub all_adds : ℕ → List ℕ → ℕ → ℕ → ℕ → ℕ
all_adds bits plane width first end =
    total (λ k. total (column_adds (ltb 8 bits) (λ x. sample_in_plane plane width x (first + k)) (first + k)) width) (end - first)

pub record ChecksumPromise : Type 1 where
  -- over all rows, from 0: Annex D's sum of the component
  pub standard : (κ : Lfts 1) (plane : LentSlice) (bits width height : ℕ) (v : Result ℕ Refusal)
      → Sums κ plane (row_range bits width height 0 height) 0 v
      → (answered v).sum ≡ picture_checksum bits (sample_in_plane plane.now width) width height
  -- over any rows, from any sum of 32 bits: it wraps, and nothing else is lost
  pub modulo : (κ : Lfts 1) (plane : LentSlice) (bits width height first end sum : ℕ) (v : Result ℕ Refusal) → sum < 2 ^ 32
      → Sums κ plane (row_range bits width height first end) sum v
      → (answered v).sum ≡ (sum + all_adds bits plane.now width first end) % 2 ^ 32
  -- two calls split at row b, the second from the sum that the first gave, and one call
  pub split : (κ λ' μ : Lfts 1) (plane : LentSlice) (bits width height a b c sum : ℕ) (upper lower whole : Result ℕ Refusal)
      → Sums κ plane (row_range bits width height a b) sum upper
      → Sums λ' plane (row_range bits width height b c) (answered upper).sum lower
      → Sums μ plane (row_range bits width height a c) sum whole
      → (answered whole).sum ≡ (answered lower).sum
  -- the same of a plane of bytes, by the samples that they spell
  pub standard_bytes : (κ : Lfts 1) (plane : LentSlice) (bits width height : ℕ) (roomy : Bool) (v : Result ℕ Refusal)
      → SumsBytes κ plane (row_range bits width height 0 height) 0 roomy v
      → (answered v).sum ≡ picture_checksum bits (sample_in_plane (samples_of plane.now) width) width height
  pub split_bytes : (κ λ' μ : Lfts 1) (plane : LentSlice) (bits width height a b c sum : ℕ) (roomy : Bool)
      (upper lower whole : Result ℕ Refusal)
      → SumsBytes κ plane (row_range bits width height a b) sum roomy upper
      → SumsBytes λ' plane (row_range bits width height b c) (answered upper).sum roomy lower
      → SumsBytes μ plane (row_range bits width height a c) sum roomy whole
      → (answered whole).sum ≡ (answered lower).sum
  -- the entry for C: a served call leaves that sum in the first four bytes of `out`, and the others as they were
  pub in_c : (κs : Lfts 2) (bits width height first end sum number : ℕ) (plane : LentSlice) (out out' : LentMutSlice)
      → c-checksum.Post κs (bits and width and height and first and end and sum and plane and out and none) number
      (bits and width and height and first and end and sum and plane and out' and none) → number ≡ 0
      → out'.now ≡ word_into (sum_of_rows bits (sample_in_plane (samples_of plane.now) width) width first (end - first) sum) out.now
