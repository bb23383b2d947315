-- A call's number from the number that the reach gives, and what a call that is not refused rests on. Assumes nothing.
use Rattle.std.specs.Prelude.{◌≡◌, refl, Bool, true, false, cond, ◌&&◌, ◌||◌, List, [], ◌∷◌, ℕ, zero, suc, ◌*◌, ◌≤◌}
use Rattle.std.specs.Prelude.{leb, eqb, ℤ, length, Ok}
use Rattle.std.proofs.Common.{sym, ap, ap₂, ◌∙◌, subst, ⊎_elim, arith, ne_eqb, eqb-true, le-leb}
use Rattle.std.proofs.lemmas.Bool.{false≢true, lt-leb}
use Rattle.laws.specs.Choose.{served, worked, passed, both_true}
use Rattle.domain.specs.Domain.{depth_ok, size_ok}
use Rattle.domain.specs.Facts.{depth_of, size_small}
use Rattle.domain.specs.Refusal.{no_of}
use Rattle.fmt.specs.depth.Depth.{neutral_of}
use Rattle.fmt.specs.depth.Laws.{neutral_of_is}
use Rattle.order.specs.declared.Reach.{Reach}
use Rattle.order.specs.Answers.{Reached, there, held, reached}
use Rattle.order.specs.Order.{picture_ok}
use Rattle.order.specs.Reach.{reach_by, no_reach, luma_place_ok, luma_reach_no, luma_has, luma_reach, has_chroma, chroma_place_ok, chroma_reach_no}
use Rattle.order.specs.Reach.{chroma_has, chroma_reach, chroma_width}
use Rattle.order.specs.Blocks.{luma_fine, chroma_fine}
use Rattle.domain.specs.declared.rows.Rows.{Rows}
use Rattle.refs.specs.declared.Spot.{Spot}
use Rattle.refs.specs.declared.Layout.{Layout}
use Rattle.refs.specs.Answers.{Laid, laid}
use Rattle.refs.specs.declared.LumaRefGeometry.{LumaRefGeometry}
use Rattle.refs.specs.declared.ChromaRefGeometry.{ChromaRefGeometry}
use Rattle.refs.specs.Gather.{gathered_by, sample_of}
use Rattle.refs.specs.substitution.Door.{neutral_at}
use Rattle.refs.specs.Door.{luma_block, luma_number, luma_length, luma_no, luma_rows, format_of, chroma_picture, chroma_block}
use Rattle.refs.specs.Door.{chroma_length, chroma_number, chroma_no, chroma_rows, chroma_pair}
use Rattle.refs.specs.substitution.Line.{told}
use Rattle.refs.specs.Counts.{Counted}
use Rattle.refs.specs.Spots.{spot_of, luma_spot, chroma_spot, luma_layout, chroma_layout, plane_rows, Reads, rows_are}
use Rattle.refs.specs.Rules.{HasRule, luma_rule, chroma_rule, counted, reads}

-- 1, then what the reach gives of 2 and 4, then 5, then its 6; a plane of the right length is whole
abbrev pub gather_no : ℕ → ℕ → Bool → ℕ
gather_no bits k whole = cond (depth_ok bits) (cond (eqb k 2 || eqb k 4) k (cond whole k 5)) 1

-- size, picture, place; whole
same_number : (s p q w : Bool) → let k : ℕ = cond s (cond p (cond q 0 6) 4) 2 in cond s (cond p (cond w (cond q 0 6) 5) 4) 2
    ≡ cond (eqb k 2 || eqb k 4) k (cond w k 5)
same_number false p q w = refl
same_number true false q w = refl
same_number true true true true = refl
same_number true true true false = refl
same_number true true false true = refl
same_number true true false false = refl

pub luma-no : (whole : Bool) (g : LumaRefGeometry) → luma_number whole g ≡ gather_no g.bits (luma_reach_no (luma_block g)) whole
unfolding luma_reach_no
luma-no whole g =
    ap (λ (k : ℕ). cond (depth_ok g.bits) k 1) (same_number (size_ok g.n) (picture_ok g.picture) (luma_place_ok (luma_block g)) whole)

-- a format with colour is 1, 2 or 3
by_four : (P : ℕ → Type 0) → P 0 → P 1 → P 2 → P 3 → ((k : ℕ) → 4 ≤ k → P k) → (k : ℕ) → P k
by_four P a b c d e zero = a
by_four P a b c d e (suc zero) = b
by_four P a b c d e (suc (suc zero)) = c
by_four P a b c d e (suc (suc (suc zero))) = d
by_four P a b c d e (suc (suc (suc (suc k)))) = e (suc (suc (suc (suc k)))) (omega arith)

coloured : (b : Bool) (f : ℕ) → (b && leb 1 f && leb f 3) ≡ (b && has_chroma (format_of f))
coloured true = by_four (λ (f : ℕ). (leb 1 f && leb f 3) ≡ has_chroma (format_of f)) refl refl refl refl other
  where
    other : (k : ℕ) → 4 ≤ k → (leb 1 k && leb k 3) ≡ has_chroma (format_of k)
    other k h =
        simp (
          le-leb 1 k (omega arith),
          lt-leb k 3 (omega arith),
          ne_eqb k 0 (λ e. let q : k ≡ 0 = e in omega arith),
          ne_eqb k 1
              (λ e. let q : k ≡ 1 = e in omega arith),
          ne_eqb k 2 (λ e. let q : k ≡ 2 = e in omega arith),
          ne_eqb k 3
              (λ e. let q : k ≡ 3 = e in omega arith),
        )
coloured false = λ f. refl

pub chroma-no : (whole : Bool) (g : ChromaRefGeometry) → chroma_number whole g ≡ gather_no g.bits (chroma_reach_no (chroma_block g)) whole
unfolding chroma_reach_no
chroma-no whole g =
    let q = chroma_place_ok (chroma_block g) in
    ap (λ (p : Bool). cond (depth_ok g.bits) (cond (size_ok g.n) (cond p (cond whole (cond q 0 6) 5) 4) 2) 1)
    (coloured (picture_ok (chroma_picture g)) g.format)
    ∙ ap (λ (k : ℕ). cond (depth_ok g.bits) k 1) (same_number (size_ok g.n)
    (picture_ok (chroma_picture g) && has_chroma (format_of g.format)) q whole)

-- the number stands in the reach, and a reach of number 0 is the block's own
reach_no : (k : ℕ) (r : Reached) → r.no ≡ 0 → (served k r (no_reach k)).no ≡ k
reach_no k r z =
    ⊎_elim (λ e. ap (λ (b : Bool). (cond b r (no_reach k)).no) e ∙ z ∙ sym (eqb-true k 0 e))
    (λ e. ap (λ (b : Bool). (cond b r (no_reach k)).no) e) (told (eqb k 0))

pub luma-reach-no : (g : LumaRefGeometry) → (luma_reach (luma_block g)).no ≡ luma_reach_no (luma_block g)
unfolding luma_reach
luma-reach-no g = reach_no (luma_reach_no (luma_block g)) _ refl

pub chroma-reach-no : (g : ChromaRefGeometry) → (chroma_reach (chroma_block g)).no ≡ chroma_reach_no (chroma_block g)
unfolding chroma_reach
chroma-reach-no g = reach_no (chroma_reach_no (chroma_block g)) _ refl

-- no refusal: the depth, the reach and the planes are in order
pub gather_fine : (bits k : ℕ) (whole : Bool) → gather_no bits k whole ≡ 0 → (depth_ok bits ≡ true) × (k ≡ 0) × (whole ≡ true)
gather_fine bits k whole e =
    let a = passed (depth_ok bits) _ 1 (omega arith) e in
    ⊎_elim (λ t. absurd (stuck t (sym (ap (λ (b : Bool). cond b k (cond whole k 5)) t) ∙ a.1)))
    (λ t. let b = passed whole k 5 (omega arith) (sym (ap (λ (b : Bool). cond b k (cond whole k 5)) t) ∙ a.1) in (a.0, b.1, b.0))
    (told (eqb k 2 || eqb k 4))
  where
    stuck : (eqb k 2 || eqb k 4) ≡ true → k ≡ 0 → ⊥
    stuck t z = false≢true (ap (λ (v : ℕ). eqb v 2 || eqb v 4) (sym z) ∙ t)

pub luma_passed : (len : ℕ) (g : LumaRefGeometry) → luma_no len g ≡ 0
    → (depth_ok g.bits ≡ true) × (luma_reach_no (luma_block g) ≡ 0) × (eqb len (luma_length g) ≡ true)
unfolding luma_no
luma_passed len g e =
    let whole = eqb len (luma_length g) in
    gather_fine g.bits (luma_reach_no (luma_block g)) whole (sym (luma-no whole g) ∙ e)

pub chroma_passed : (cb cr : ℕ) (g : ChromaRefGeometry) → chroma_no cb cr g ≡ 0
    → (depth_ok g.bits ≡ true) × (chroma_reach_no (chroma_block g) ≡ 0) × ((eqb cb (chroma_length g) && eqb cr (chroma_length g)) ≡ true)
unfolding chroma_no
chroma_passed cb cr g e =
    let whole = eqb cb (chroma_length g) && eqb cr (chroma_length g) in
    gather_fine g.bits (chroma_reach_no (chroma_block g)) whole (sym (chroma-no whole g) ∙ e)

-- What the work of a gather rests on: the rule's counts, and the reads inside the plane
pub record GatherReady (has : ℤ → ℤ → Bool) (r : Reach) (len width row col n : ℕ) : Type 0 where
  pub known : Counted has row col n r
  pub reads : Reads r (spot_of width row col) len n

ready : {has : ℤ → ℤ → Bool} {height width : ℕ} → HasRule has height width → (r : Reach) (len row col n : ℕ)
    → there r ≡ reach_by 0 has row col n
    → len ≡ height * width
    → n ≤ 32 → GatherReady has r len width row col n
ready {has} {height} {width} rule r len row col n er el small =
    subst (λ (q : Reached). GatherReady has (held q) len width row col n) (sym er)
    (subst (λ (l : ℕ). GatherReady has (held (reach_by 0 has row col n)) l width row col n) (sym el)
    (record { known = counted rule row col n; reads = reads rule row col n small }))

pub luma_ready : (len : ℕ) (g : LumaRefGeometry) (r : Reach) → there r ≡ luma_reach (luma_block g) → luma_no len g ≡ 0
    → (depth_ok g.bits ≡ true) × GatherReady (luma_has (luma_block g)) r len g.picture.width g.block_row.0 g.block_col.0
    g.n
unfolding luma_reach
luma_ready len g r er e =
    let b = luma_block g in
    let f = luma_passed len g e in
    let w = luma_fine b f.1 in (
      f.0,
      ready (luma_rule b w.good) r len g.block_row.0 g.block_col.0 g.n
          (er ∙ sym (worked (luma_reach_no b) (reach_by 0 (luma_has b) b.row.0 b.col.0 b.n) (no_reach (luma_reach_no b)) f.1))
          (eqb-true len (luma_length g) f.2) (size_small g.n w.size).1,
    )

pub chroma_ready : (cb cr : ℕ) (g : ChromaRefGeometry) (r : Reach) → there r ≡ chroma_reach (chroma_block g) → chroma_no cb cr g ≡ 0
    → (depth_ok g.bits ≡ true)
    × GatherReady (chroma_has (chroma_block g)) r cb (chroma_width (chroma_block g)) g.block_row.0 g.block_col.0 g.n
    × GatherReady (chroma_has (chroma_block g)) r cr (chroma_width (chroma_block g)) g.block_row.0 g.block_col.0 g.n
unfolding chroma_reach
chroma_ready cb cr g r er e =
    let b = chroma_block g in
    let f = chroma_passed cb cr g e in
    let w = chroma_fine b f.1 in
    let l = both_true (eqb cb (chroma_length g)) (eqb cr (chroma_length g)) f.2 in
    let one : (len : ℕ) → eqb len (chroma_length g) ≡ true
    → GatherReady (chroma_has b) r len (chroma_width b) g.block_row.0 g.block_col.0 g.n =
    λ len t.
    ready (chroma_rule b w.good) r len g.block_row.0 g.block_col.0 g.n
    (er ∙ sym (worked (chroma_reach_no b) (reach_by 0 (chroma_has b) b.row.0 b.col.0 b.n) (no_reach (chroma_reach_no b)) f.1))
    (eqb-true len (chroma_length g) t) (size_small g.n w.size).1 in
    (f.0, one cb l.0, one cr l.1)

-- the number that the code gives is the call's, however its planes are told to be whole
pub luma-number : (whole : Bool) (g : LumaRefGeometry) (l : Layout) {w : Bool} {k : ℕ} → laid l ≡ luma_layout g → w ≡ whole → k
    ≡ gather_no g.bits (no_of l.reach) w
    → k ≡ luma_number whole g
luma-number whole g l el ew ek =
    ek ∙ ap₂ (gather_no g.bits) (ap (λ (q : Laid). q.reach.no) el ∙ luma-reach-no g) ew ∙ sym (luma-no whole g)

pub chroma-number : (whole : Bool) (g : ChromaRefGeometry) (l : Layout) {w : Bool} {k : ℕ} → laid l ≡ chroma_layout g → w ≡ whole → k
    ≡ gather_no g.bits (no_of l.reach) w
    → k ≡ chroma_number whole g
chroma-number whole g l el ew ek =
    ek ∙ ap₂ (gather_no g.bits) (ap (λ (q : Laid). q.reach.no) el ∙ chroma-reach-no g) ew ∙ sym (chroma-no whole g)

-- so at the doors over samples, by the planes' lengths
pub luma_door : (len : ℕ) (g : LumaRefGeometry) (l : Layout) {k : ℕ} → laid l ≡ luma_layout g
    → k ≡ gather_no g.bits (no_of l.reach) (eqb len l.length) → k ≡ luma_no len g
unfolding luma_no
luma_door len g l el ek = luma-number (eqb len (luma_length g)) g l el (ap (λ (q : Laid). eqb len q.length) el) ek

pub chroma_door : (cb cr : ℕ) (g : ChromaRefGeometry) (l : Layout) {k : ℕ} → laid l ≡ chroma_layout g
    → k ≡ gather_no g.bits (no_of l.reach) (eqb cb l.length && eqb cr l.length) → k ≡ chroma_no cb cr g
unfolding chroma_no
chroma_door cb cr g l el ek =
    chroma-number (eqb cb (chroma_length g) && eqb cr (chroma_length g)) g l el
    (ap (λ (q : Laid). eqb cb q.length && eqb cr q.length) el) ek

-- a reach that is given is the block's own
pub laid_there : (l : Layout) {k : Laid} {r : Reach} → laid l ≡ k → l.reach ≡ Ok r → there r ≡ k.reach
laid_there l el er = sym (ap reached er) ∙ ap (λ (q : Laid). q.reach) el

-- the rows of a plane, from the parts that the code makes
module _ {has : ℤ → ℤ → Bool} {r : Reach} (plane : List ℕ) (width row col n bits : ℕ)
    (y : GatherReady has r (length plane) width row col n) {s : Spot}
    (es : s ≡ spot_of width row col) where
  inside : Reads r s (length plane) n
  inside = subst (λ (t : Spot). Reads r t (length plane) n) (sym es) y.reads

  made : depth_ok bits ≡ true → {neutral : ℕ} {v : Rows} → neutral ≡ neutral_of bits → v ≡ plane_rows plane s r n neutral
      → v ≡ gathered_by has (sample_of plane width) row col n (neutral_at bits)
  made deep en ev =
      ev
      ∙ ap₂ (λ (t : Spot) (k : ℕ). plane_rows plane t r n k) es (en ∙ neutral_of_is bits (depth_of bits deep))
      ∙ rows_are has plane width row col n (neutral_at bits) r y.reads.few.side y.known

-- the same for the two doors, whose calls are not refused
module _ (plane : List ℕ) (g : LumaRefGeometry) {s : Spot} {r : Reach} (es : s ≡ luma_spot g) (er : there r ≡ luma_reach (luma_block g))
    (e : luma_no (length plane) g ≡ 0) where
  abbrev luma : (depth_ok g.bits ≡ true) × GatherReady (luma_has (luma_block g)) r (length plane) g.picture.width
      g.block_row.0 g.block_col.0 g.n
  luma = luma_ready (length plane) g r er e

  pub luma_inside : Reads r s (length plane) g.n
  luma_inside = inside plane g.picture.width g.block_row.0 g.block_col.0 g.n g.bits luma.1 es

  pub luma_made : {neutral : ℕ} {v : Rows} → neutral ≡ neutral_of g.bits → v ≡ plane_rows plane s r g.n neutral → v
      ≡ luma_rows plane g
  unfolding luma_rows
  luma_made en ev = made plane g.picture.width g.block_row.0 g.block_col.0 g.n g.bits luma.1 es luma.0 en ev

module _ (cb cr : List ℕ) (g : ChromaRefGeometry) {s : Spot} {r : Reach} (es : s ≡ chroma_spot g)
    (er : there r ≡ chroma_reach (chroma_block g)) (e : chroma_no (length cb) (length cr) g ≡ 0) where
  abbrev Chroma : List ℕ → Type 0
  Chroma plane = GatherReady (chroma_has (chroma_block g)) r (length plane) (chroma_width (chroma_block g)) g.block_row.0
      g.block_col.0 g.n

  abbrev fine : (depth_ok g.bits ≡ true) × Chroma cb × Chroma cr
  fine = chroma_ready (length cb) (length cr) g r er e

  one_inside : (plane : List ℕ) → Chroma plane → Reads r s (length plane) g.n
  one_inside plane y = inside plane (chroma_width (chroma_block g)) g.block_row.0 g.block_col.0 g.n g.bits y es

  pub chroma_inside : Reads r s (length cb) g.n × Reads r s (length cr) g.n
  chroma_inside = (one_inside cb fine.1, one_inside cr fine.2)

  one_made : (plane : List ℕ) → Chroma plane → {neutral : ℕ} {v : Rows} → neutral ≡ neutral_of g.bits → v
      ≡ plane_rows plane s r g.n neutral → v ≡ chroma_rows plane g
  unfolding chroma_rows
  one_made plane y en ev = made plane (chroma_width (chroma_block g)) g.block_row.0 g.block_col.0 g.n g.bits y es fine.0 en ev

  pub chroma_made : {neutral : ℕ} {v u : Rows} → neutral ≡ neutral_of g.bits → v ≡ plane_rows cb s r g.n neutral
      → u ≡ plane_rows cr s r g.n neutral → ◌≡◌ {A = List Rows} (v ∷ u ∷ []) (chroma_pair cb cr g)
  chroma_made en ev eu = ap₂ (λ (a b : Rows). a ∷ b ∷ []) (one_made cb fine.1 en ev) (one_made cr fine.2 en eu)
