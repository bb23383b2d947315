-- A plane of bytes, two a sample, serves as the samples that it spells: numbers and answers. Assumes nothing.
use Rattle.std.specs.Prelude.{◌≡◌, refl, Bool, true, false, cond, ◌&&◌, List, [], ◌∷◌, ℕ, ◌*◌, ◌≤◌, leb, eqb, length, get_or}
use Rattle.std.proofs.Common.{sym, ◌∙◌, ⊎_elim, arith, eq-eqb, ne_eqb, eqb-true, le-leb}
use Rattle.std.proofs.Math.Path.{ap}
use Rattle.std.proofs.lemmas.Bool.{eqb-false}
use Rattle.laws.specs.Choose.{served, both_true, both_same}
use Rattle.octets.specs.Bytes.{samples_of}
use Rattle.octets.specs.Laws.{length_samples}
use Rattle.order.specs.Reach.{luma_reach_no, chroma_reach_no}
use Rattle.domain.specs.declared.rows.Rows.{Rows}
use Rattle.domain.specs.rows.Neighbours.{zero_rows, level_rows}
use Rattle.camera.specs.gather.Line.{rows_at}
use Rattle.camera.specs.Written.{wrote, entry}
use Rattle.refs.specs.declared.LumaRefGeometry.{LumaRefGeometry}
use Rattle.refs.specs.declared.ChromaRefGeometry.{ChromaRefGeometry}
use Rattle.refs.specs.Door.{luma_block, luma_length, luma_number, luma_no, luma_rows, get_reference_samples, chroma_block, chroma_length}
use Rattle.refs.specs.Door.{chroma_number, chroma_no, chroma_rows, get_reference_samples_chroma_pair}
use Rattle.camera.specs.gather.Door.{luma_bytes_no, luma_bytes_door, chroma_bytes_no}
use Rattle.camera.specs.gather.Entry.{luma_entry, chroma_entry}
use Rattle.refs.specs.substitution.Line.{told}
use Rattle.refs.specs.Served.{gather_fine, luma-no, chroma-no}

-- numbers are the same where their doubles are
twice : (m k : ℕ) → eqb (2 * m) (2 * k) ≡ eqb m k
twice m k =
    ⊎_elim (λ e. eq-eqb (2 * m) (2 * k) (ap (λ (x : ℕ). 2 * x) (eqb-true m k e)) ∙ sym e)
    (λ e. ne_eqb (2 * m) (2 * k) (λ q. eqb-false m k e (let w : 2 * m ≡ 2 * k = q in omega arith)) ∙ sym e)
    (told (eqb m k))

-- as many bytes as twice k, counted in samples
count : (b : List ℕ) (m k : ℕ) → length b ≡ 2 * m → eqb (length b) (2 * k) ≡ eqb (length (samples_of b)) k
count b m k e =
    let h : length (samples_of b) ≡ m = (let p = length_samples b in omega arith) in
    ap (λ (x : ℕ). eqb x (2 * k)) e ∙ twice m k ∙ ap (λ (x : ℕ). eqb x k) (sym h)

module _ (b : List ℕ) (g : LumaRefGeometry) (m : ℕ) (even : length b ≡ 2 * m) where
  same_no : luma_bytes_no (length b) g ≡ luma_no (length (samples_of b)) g
  unfolding luma_bytes_no luma_no
  same_no = ap (λ (w : Bool). luma_number w g) (count b m (luma_length g) even)

  -- whole samples: the luma gather answers as it does on the samples
  pub luma_spelt : luma_bytes_door b g ≡ get_reference_samples (samples_of b) g
  unfolding luma_bytes_door get_reference_samples
  luma_spelt = ap (λ (k : ℕ). record { no = k; rows = served k (luma_rows (samples_of b) g) (level_rows 0) }) same_no

-- a call that is not refused has whole samples, and is not refused over these
pub luma_spelt_fine : (b : List ℕ) (g : LumaRefGeometry) → luma_bytes_no (length b) g ≡ 0 → (length b ≡ 2 * luma_length g)
    × (luma_no (length (samples_of b)) g ≡ 0)
unfolding luma_bytes_no
luma_spelt_fine b g e =
    let w = eqb (length b) (2 * luma_length g) in
    let f = gather_fine g.bits (luma_reach_no (luma_block g)) w (sym (luma-no w g) ∙ e) in
    let p = eqb-true (length b) (2 * luma_length g) f.2 in
    (p, sym (same_no b g (luma_length g) p) ∙ e)

module _ (cb cr : List ℕ) (g : ChromaRefGeometry) (m k : ℕ) (even : length cb ≡ 2 * m) (even' : length cr ≡ 2 * k) where
  same_pair_no : chroma_bytes_no (length cb) (length cr) g ≡ chroma_no (length (samples_of cb)) (length (samples_of cr)) g
  unfolding chroma_bytes_no chroma_no
  same_pair_no = ap (λ (w : Bool). chroma_number w g) (both_same (count cb m (chroma_length g) even) (count cr k (chroma_length g) even'))

pub chroma_spelt_fine : (cb cr : List ℕ) (g : ChromaRefGeometry) → chroma_bytes_no (length cb) (length cr) g ≡ 0
    → (length cb ≡ 2 * chroma_length g) × (length cr ≡ 2 * chroma_length g) × (chroma_no (length (samples_of cb)) (length (samples_of cr)) g ≡ 0)
unfolding chroma_bytes_no
chroma_spelt_fine cb cr g e =
    let n = 2 * chroma_length g in
    let w = eqb (length cb) n && eqb (length cr) n in
    let f = gather_fine g.bits (chroma_reach_no (chroma_block g)) w (sym (chroma-no w g) ∙ e) in
    let t = both_true (eqb (length cb) n) (eqb (length cr) n) f.2 in
    let p = eqb-true (length cb) n t.0 in
    let q = eqb-true (length cr) n t.1 in
    (p, q, sym (same_pair_no cb cr g (chroma_length g) (chroma_length g) p q) ∙ e)

-- The entries do what the doors do on the samples that the bytes spell: with room in the buffer, the door's number, and the door's
-- rows as bytes.
with_room : (whole roomy : Bool) → roomy ≡ true → (whole && roomy) ≡ whole
with_room true roomy e = e
with_room false roomy e = refl

-- what a refused call does not write may be anything
unwritten : {A : Type 0} (f : A → List ℕ) (k : ℕ) (x y : A) (d : List ℕ) → entry k (f x) d ≡ entry k (f (served k x y)) d
unfolding entry
unwritten f k x y d = by (eqb k 0)
  where
    by : (b : Bool) → wrote k (cond b (f x) d) ≡ wrote k (cond b (f (cond b x y)) d)
    by true = refl
    by false = refl

pub luma_entry_door : (b : List ℕ) (g : LumaRefGeometry) (d : List ℕ) (m : ℕ) → length b ≡ 2 * m → 262 ≤ length d
    → let door = get_reference_samples (samples_of b) g in luma_entry b g d ≡ entry door.no (rows_at 0 door.rows d) d
unfolding luma_entry get_reference_samples luma_bytes_no
luma_entry_door b g d m even room =
    ap (λ (k : ℕ). entry k (rows_at 0 (luma_rows (samples_of b) g) d) d)
    (ap (λ (w : Bool). luma_number w g) (with_room (eqb (length b) (2 * luma_length g)) (leb 262 (length d)) (le-leb 262 (length d) room))
    ∙ same_no b g m even)
    ∙ unwritten (λ (r : Rows). rows_at 0 r d) (luma_no (length (samples_of b)) g) (luma_rows (samples_of b) g) (level_rows 0) d

-- Cb's rows, then Cr's, out of a pair
abbrev pub pair_at : List Rows → List ℕ → List ℕ
pair_at pair d = rows_at 262 (get_or pair 1 zero_rows) (rows_at 0 (get_or pair 0 zero_rows) d)

pub chroma_entry_door : (cb cr : List ℕ) (g : ChromaRefGeometry) (d : List ℕ) (m k : ℕ) → length cb ≡ 2 * m → length cr ≡ 2 * k
    → 524 ≤ length d
    → let door = get_reference_samples_chroma_pair (samples_of cb) (samples_of cr) g in chroma_entry cb cr g d
    ≡ entry door.no (pair_at door.planes d) d
unfolding chroma_entry get_reference_samples_chroma_pair chroma_bytes_no
chroma_entry_door cb cr g d m k even even' room =
    let n = 2 * chroma_length g in
    let pair = chroma_rows (samples_of cb) g ∷ chroma_rows (samples_of cr) g ∷ [] in
    ap (λ (j : ℕ). entry j (pair_at pair d) d)
    (ap (λ (w : Bool). chroma_number w g) (with_room (eqb (length cb) n && eqb (length cr) n) (leb 524 (length d))
    (le-leb 524 (length d) room)) ∙ same_pair_no cb cr g m k even even')
    ∙ unwritten (λ (l : List Rows). pair_at l d) (chroma_no (length (samples_of cb)) (length (samples_of cr)) g) pair
    (level_rows 0 ∷ level_rows 0 ∷ []) d
