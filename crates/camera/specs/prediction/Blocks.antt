-- A block that a predictor made of rows in bytes, and that was stored as bytes; and which block each entry asks for. Rests on the
-- laws of the modes.
use Rattle.std.specs.Prelude.{◌≡◌, Bool, false, List, ℕ, ◌*◌, ◌/◌, ◌%◌, ◌^◌, ◌≤◌, ◌<◌, length, get_or, replicate}
use Rattle.std.proofs.Math.Path.{refl, ap}
use Rattle.std.proofs.Common.{sym, ◌∙◌, arith}
use Rattle.std.proofs.Math.Bool.{true}
use Rattle.std.proofs.lemmas.List.{length-replicate}
use borrow.Author.Tests.{le-leb, ne_eqb}
use Rattle.laws.specs.Choose.{served, worked, both_same}
use Rattle.laws.specs.Fill.{fill, rows, block}
use Rattle.laws.specs.FillLaws.{fill_same, fill_at, length_rows, rows_same}
use Rattle.laws.specs.Bytes.{byte_of}
use Rattle.octets.specs.Bytes.{samples_of}
use Rattle.octets.specs.pairs.Into.{read_into, store_into}
use Rattle.octets.specs.pairs.Laws.{read_done, store_done}
use Rattle.domain.specs.Facts.{Size, size_small}
use Rattle.h265.specs.Mean.{Agree}
use Rattle.h265.specs.Notation.{from_rows}
use Rattle.h265.specs.Planar.{planar}
use Rattle.h265.specs.Dc.{dc, dc_val}
use Rattle.predict.specs.refusals.Refusals.{flat_no, angular_no}
use Rattle.predict.specs.Lent.{with_scratch}
use Rattle.predict.specs.modes.Modes.{predicted_by_mode, by_mode_alone}
use Rattle.predict.specs.by_mode.Door.{Predictable, side, highest}
use Rattle.predict.specs.Contents.{chroma_at, chroma_plain}
use Rattle.camera.specs.prediction.Entries.{neighbours_in, block_in_bytes, planar_in, dc_in, angular_in, chroma_in}

-- rows of 2n entries and room for the block, in samples
pub record SampleRoom (n above left pred : ℕ) : Type 0 where
  pub above_long : 2 * n ≤ above
  pub left_long : 2 * n ≤ left
  pub block_long : n * n ≤ pred

-- rows of 64 entries are long enough at every side
pub sample_room : {n above left pred : ℕ} → Size n → 64 ≤ above → 64 ≤ left → n * n ≤ pred → SampleRoom n above left pred
sample_room {n} s a l p = let m = size_small n s in record { above_long = omega arith; left_long = omega arith; block_long = p }

-- the doors serve them, angular prediction with tables as long as the scratch's
module _ {bits n mode a l p : ℕ} (b : Predictable bits n mode) (h : SampleRoom n a l p) where
  pub flat_serves : flat_no n a l p ≡ 0
  unfolding flat_no
  flat_serves = rw (b.size, le-leb (2 * n) a h.above_long, le-leb (2 * n) l h.left_long, le-leb (n * n) p h.block_long)

  pub angular_serves : 2 ≤ mode → angular_no bits n mode (with_scratch a l p) ≡ 0
  angular_serves low =
      rw (
        b.depth,
        b.size,
        both_same (le-leb 2 mode low) b.inside,
        le-leb (2 * n) a h.above_long,
        le-leb (2 * n) l h.left_long,
        le-leb (n * n) p h.block_long,
      )

-- what a call with number 0 left behind is its work
pub did : {A : Type 0} (k : ℕ) (work kept : A) {out : A} → k ≡ 0 → out ≡ served k work kept → out ≡ work
did k work kept z e = e ∙ sym (worked k work kept z)

-- a block that was stored; k is half of what it has
pub stored : (g : ℕ → ℕ → ℕ) (n k : ℕ) (p d : List ℕ) → 2 * k ≡ n * n → k ≤ 512 → n * n ≤ length p → 2 * (n * n) ≤ length d
    → {pred out : List ℕ} → pred ≡ block g n p → out ≡ store_into k pred d → out ≡ block_in_bytes g n d
unfolding block_in_bytes rows
stored g n k p d e few hp hd {pred} {out} made put =
    let lp : length pred ≡ length p = ap length made ∙ length_rows g n n p in
    put ∙ store_done k pred d few (omega arith) (omega arith)
    ∙ ap (λ (m : ℕ). fill (byte_of 2 (λ i. get_or pred i 0)) m d) (let q : 4 * k ≡ 2 * (n * n) = omega arith in q)
    ∙ fill_same _ _ (2 * (n * n)) d
    (λ j q.
    ap (λ (v : ℕ). v / 256 ^ (j % 2) % 256)
    (ap (λ (m : List ℕ). get_or m (j / 2) 0) made ∙ fill_at (λ i. g (i / n) (i % n)) (n * n) p (j / 2) 0 (omega arith) (omega arith)))

-- a row as it was read into k zeros, and as the definitions have it, as far as a side reads
alike : (k n : ℕ) (b : List ℕ) → 64 ≤ k → n ≤ 32 → 4 * n ≤ length b → {a : List ℕ} → a ≡ read_into n b (replicate k 0) → (i : ℕ)
    → i < 2 * n → get_or a i 0 ≡ get_or (samples_of b) i 0
alike k n b room most long e i h =
    let q = length-replicate {A = ℕ} k 0 in
    ap (λ (l : List ℕ). get_or l i 0) (e ∙ read_done n b (replicate k 0) most long (omega arith))
    ∙ fill_at (λ j. get_or (samples_of b) j 0) (2 * n) (replicate k 0) i 0 h (omega arith)

-- the neighbours in two rows as they were read, and in the rows of bytes
pub read_agree : (k n corner : ℕ) (above left : List ℕ) → 64 ≤ k → Size n → 4 * n ≤ length above → 4 * n ≤ length left
    → {a l : List ℕ} → a ≡ read_into n above (replicate k 0) → l ≡ read_into n left (replicate k 0)
    → Agree n (from_rows corner a l) (neighbours_in corner above left)
read_agree k n corner above left room s ha hl ea el =
    let m = size_small n s in
    record { corner = refl; above = alike k n above room m.1 ha ea; left = alike k n left room m.1 hl el }

-- a block made of rows that were read is the one of the rows in bytes
pub read_block : (bits n mode corner : ℕ) (edge : Bool) (above left p : List ℕ) → Predictable bits n mode → 4 * n ≤ length above
    → 4 * n ≤ length left
    → {a l : List ℕ} → a ≡ read_into n above (replicate 64 0) → l ≡ read_into n left (replicate 64 0)
    → block (λ (y x : ℕ). predicted_by_mode bits edge edge n mode (from_rows corner a l) x y) n p
    ≡ block (λ (y x : ℕ). predicted_by_mode bits edge edge n mode (neighbours_in corner above left) x y) n p
read_block bits n mode corner edge above left p b ha hl ea el =
    let m = size_small n (side b) in
    rows_same _ _ n n p
    (λ y x hy hx.
    by_mode_alone n mode (side b) (highest b) x y hx hy bits edge edge _ _
    (read_agree 64 n corner above left (omega arith) (side b) ha hl ea el))
    (omega arith)

-- which block an entry asks for
module _ (n : ℕ) (above left d : List ℕ) where
  pub planar_asked : (bits corner : ℕ) → block_in_bytes (λ (y x : ℕ). predicted_by_mode bits false false n 0 (neighbours_in corner above left) x y) n d
      ≡ block_in_bytes (planar_in n above left) n d
  unfolding predicted_by_mode planar
  planar_asked bits corner = refl

  pub dc_asked : (bits corner : ℕ) (edge : Bool) → block_in_bytes (λ (y x : ℕ). predicted_by_mode bits edge edge n 1 (neighbours_in corner above left) x y) n
      d ≡ block_in_bytes (dc_in edge n above left) n d
  unfolding predicted_by_mode dc dc_val
  dc_asked bits corner edge = refl

  module _ (bits mode corner : ℕ) where
    pub angular_asked : (edge : Bool) → 2 ≤ mode
        → block_in_bytes (λ (y x : ℕ). predicted_by_mode bits edge edge n mode (neighbours_in corner above left) x y) n d
        ≡ block_in_bytes (angular_in bits edge n mode corner above left) n d
    unfolding predicted_by_mode
    angular_asked edge h =
        rw (ne_eqb mode 0 (λ q. let t : mode ≡ 0 = q in omega arith), ne_eqb mode 1 (λ q. let t : mode ≡ 1 = q in omega arith))

    -- a chroma block is its mode's, with nothing filtered
    pub chroma_asked : block_in_bytes (λ (y x : ℕ). predicted_by_mode bits false false n mode (neighbours_in corner above left) x y) n d
        ≡ block_in_bytes (chroma_in bits n mode corner above left) n d
    unfolding block_in_bytes
    chroma_asked =
        fill_same _ _ (2 * (n * n)) d
        (λ j h.
        ap (λ (v : ℕ). v / 256 ^ (j % 2) % 256)
        (sym (chroma_plain (chroma_at bits) true n mode (neighbours_in corner above left) (j / 2 % n) (j / 2 / n) refl refl)))
