-- Demand 2 on one page: 'Luma gathering, smoothing, planar, DC and angular prediction are proved equal to ITU-T H.265', and chroma
-- gathering at a block's own place. For each door: what meets its contract, as the prover reads it, with the number 0, has the samples of
-- the standard (crates/h265). Proof2 proves it.
use Rattle.std.specs.Prelude.{◌≡◌, Bool, true, false, not, List, ℕ, ◌+◌, ◌*◌, ◌<◌, eqb, get_or, Ok, Result, ⊤}
use seplogic.Ra.Ura.{Ura}
use base.Logic.{SProp, ent}
use prog.Memory.{Memory}
use prog.Routine.{Routine}
use types.Logic.{Logic}
use contract.Lifetimes.{Lfts}
use contract.Monad.{Fun, fact}
use Rattle.std.specs.Borrow.{Bor, MutBor}
use Rattle.h265.specs.Notation.{Neighbours, from_rows}
use Rattle.h265.specs.Setting.{luma_at, first_edition_strong}
use Rattle.h265.specs.Substitution.{neighbours}
use Rattle.h265.specs.Filtering.{filter_flag, filtered}
use Rattle.h265.specs.Planar.{planar}
use Rattle.h265.specs.Dc.{dc}
use Rattle.h265.specs.Angular.{angular}
use Rattle.h265.specs.Prediction.{pred_samples, predicted}
use Rattle.h265.specs.Mean.{Agree}
use Rattle.octets.specs.Bytes.{samples_of}
use Rattle.octets.specs.Laws.{AreBytes}
use Rattle.order.specs.Order.{grid_of}
use Rattle.order.specs.Reach.{chroma_width}
use Rattle.domain.specs.declared.refusal.Refusal.{Refusal}
use Rattle.domain.specs.declared.rows.Rows.{Rows}
use Rattle.domain.specs.rows.Neighbours.{neighbours_of, zero_rows}
use Rattle.refs.specs.declared.LumaRefGeometry.{LumaRefGeometry}
use Rattle.refs.specs.declared.ChromaRefGeometry.{ChromaRefGeometry}
use Rattle.refs.specs.Gather.{sample_of}
use Rattle.refs.specs.Door.{luma_geometry, format_of, chroma_geometry, chroma_picture, chroma_block}
use Rattle.refs.specs.Component.{component_of, OwnPlace}
use Rattle.smooth.specs.declared.RowPair.{RowPair}
use Rattle.predict.specs.Contents.{chroma_at}
use Rattle.predict.specs.declared.scratch.AngularScratch.{AngularScratch}
use Rattle.refs.proofs.get_reference_samples.Reads as gather
use Rattle.refs.proofs.get_reference_samples_chroma_pair.Reads as pair-gather
use Rattle.smooth.proofs.should_filter_refs.Reads as rule
use Rattle.smooth.proofs.filter_references.Reads as weak-filter
use Rattle.smooth.proofs.filter_luma_refs.Reads as luma-filter
use Rattle.predict.proofs.planar_dc.predict_planar_into.Reads as planar-into
use Rattle.predict.proofs.planar_dc.predict_dc_into.Reads as dc-into
use Rattle.predict.proofs.angular.predict_angular_slices.Reads as angular-slices
use Rattle.predict.specs.contracts.scratch_angular.predict_angular_into as angular-into
use Rattle.predict.proofs.scratch_angular.predict_angular_fresh.Reads as angular-fresh
use Rattle.predict.proofs.predict_chroma_tb_slices.Reads as chroma-slices
use Rattle.predict.specs.contracts.scratch_predict.predict_chroma_tb_into as chroma-into
use Rattle.predict.proofs.scratch_predict.predict_chroma_tb_fresh.Reads as chroma-fresh
use Rattle.predict.proofs.predict_luma_tb_slices.Reads as luma-slices
use Rattle.predict.specs.contracts.scratch_predict.predict_luma_tb_into as luma-into
use Rattle.predict.proofs.scratch_predict.predict_luma_tb_fresh.Reads as luma-fresh
use Rattle.camera.proofs.salvrunde_luma_refs.Reads as c-luma-refs
use Rattle.camera.proofs.salvrunde_chroma_refs_ctu.Reads as c-chroma-refs
use Rattle.camera.proofs.salvrunde_planar.Reads as c-planar
use Rattle.camera.proofs.salvrunde_dc.Reads as c-dc
use Rattle.camera.proofs.salvrunde_angular.Reads as c-angular
use Rattle.camera.proofs.salvrunde_chroma_block.Reads as c-chroma-block
use Rattle.camera.proofs.salvrunde_luma_block.Reads as c-luma-block

-- The parameters of a call, in the source's order: `a and b and .. and none`.
infixr 4 ◌and◌
abbrev pub ◌and◌ : {A B : Type 0} → A → B → A × B
a and b = (a, b)

abbrev pub none : Unit {0}
none = tt

-- a slice that is lent to be read, and one to be written; the scratch, as three lent tables and as a struct: the last parameters of a call
abbrev pub LentSlice : Type 0
LentSlice = Bor (List ℕ)

abbrev pub LentMutSlice : Type 0
LentMutSlice = MutBor (List ℕ)

abbrev pub LentTables : Type 0
LentTables = LentMutSlice × (LentMutSlice × (LentMutSlice × Unit {0}))

abbrev pub Scratch : Type 0
Scratch = MutBor AngularScratch × Unit {0}

-- the neighbours in a corner and two lent rows, of samples and of bytes, two a sample
abbrev pub in_rows : ℕ → LentSlice → LentSlice → Neighbours
in_rows corner above left = from_rows corner above.now left.now

abbrev pub rows_in_bytes : ℕ → LentSlice → LentSlice → Neighbours
rows_in_bytes corner above left = from_rows corner (samples_of above.now) (samples_of left.now)

-- and those in one line of samples from place k on: the corner, 65 above, 65 left
abbrev pub from_one_line : ℕ → List ℕ → Neighbours
from_one_line k l = record { corner = get_or l k 0; above = λ i. get_or l (k + 1 + i) 0; left = λ i. get_or l (k + 66 + i) 0 }

-- 8.4.4.2.1 of the first edition: a block's samples in a mode, from neighbours that are not yet filtered
abbrev pub luma_samples : ℕ → ℕ → ℕ → Neighbours → ℕ → ℕ → ℕ
luma_samples bits n mode = pred_samples (luma_at bits) first_edition_strong n mode

abbrev pub chroma_samples : ℕ → ℕ → ℕ → Neighbours → ℕ → ℕ → ℕ
chroma_samples bits n mode = pred_samples (chroma_at bits) first_edition_strong n mode

-- the sample in column x and row y of a plane; the neighbours that 6.4.1 and 8.4.4.2.2 give a luma block of it; the block, 8.4.4.2 whole
abbrev pub plane_sample : List ℕ → LumaRefGeometry → ℕ → ℕ → ℕ
plane_sample plane g x y = sample_of plane g.picture.width y x

abbrev pub standard_neighbours : List ℕ → LumaRefGeometry → Neighbours
standard_neighbours plane g =
    neighbours (grid_of g.picture) (luma_at g.bits) g.n g.block_col.0 g.block_row.0 (plane_sample plane g)

abbrev pub standard_block : List ℕ → LumaRefGeometry → ℕ → ℕ → ℕ → ℕ
standard_block plane g mode =
    predicted (grid_of g.picture) (luma_at g.bits) first_edition_strong g.n mode g.block_col.0 g.block_row.0
    (plane_sample plane g)

-- the neighbours that 6.4.1 and 8.4.4.2.2 give a chroma block of a plane, by its format's component and its picture's CTU; that these are
-- others, in the corner and entries 0 .. 2n - 1 above and left
abbrev pub standard_chroma : List ℕ → ChromaRefGeometry → Neighbours
standard_chroma plane g =
    neighbours (grid_of (chroma_picture g)) (component_of (format_of g.format) g.bits) g.n g.block_col.0 g.block_row.0
    (λ x y. sample_of plane (chroma_width (chroma_block g)) y x)

abbrev pub AreChroma : List ℕ → ChromaRefGeometry → Neighbours → Type 0
AreChroma plane g nb = Agree g.n nb (standard_chroma plane g)

-- `clause x y` is in row y and column x of a block of side n
abbrev pub Holds : ℕ → (ℕ → ℕ → ℕ) → List ℕ → Type 0
Holds n clause block = (x y : ℕ) → x < n → y < n → get_or block (y * n + x) 0 ≡ clause x y

-- A door that writes a block into `pred`: `post` is its contract, over the parameters at entry, the answer, and the parameters at exit.
-- `last` is its scratch, of which nothing is said. What meets the contract and is not refused has the clause's samples in `pred` at exit.
abbrev pub Writes : {A Last : Type 0} → (A → Result ⊤ Refusal → A → Type 0) → (LentMutSlice → Last → A) → ℕ → (ℕ → ℕ → ℕ) → Type 0
Writes {A} {Last} post call n clause =
    (pred pred' : LentMutSlice) (last last' : Last) → post (call pred last) (Ok tt) (call pred' last') → Holds n clause pred'.now

-- The same of a door's clauses: they are an assertion of any model, from which the fact follows.
abbrev pub WritesHeld : {M : Type 1} (𝓤 : Ura M) {A : Type 0} → (A → Result ⊤ Refusal → A → SProp 𝓤) → (LentMutSlice → Scratch → A) → ℕ
    → (ℕ → ℕ → ℕ) → Type 1
WritesHeld 𝓤 {A} ensures call n clause =
    (pred pred' : LentMutSlice) (last last' : Scratch)
    → ent 𝓤 (ensures (call pred last) (Ok tt) (call pred' last')) (fact 𝓤 (Holds n clause pred'.now))

-- An entry for C, and what is said of the samples that `out` spells at exit.
abbrev pub Spells : {A : Type 0} → (A → ℕ → A → Type 0) → (LentMutSlice → A) → (List ℕ → Type 0) → Type 0
Spells {A} post call says =
    (out out' : LentMutSlice) (number : ℕ) → post (call out) number (call out') → number ≡ 0 → says (samples_of out'.now)

-- rows whose answer, that of a call which is not refused, meets the contract of the luma gather
abbrev pub Gathers : Lfts 1 → LentSlice → LumaRefGeometry → Rows → Type 0
Gathers κ plane geo rows = gather.Post κ (plane and geo and none) (Ok rows) (plane and geo and none)

-- and that of the chroma pair gather
abbrev pub GathersPair : Lfts 2 → LentSlice → LentSlice → ChromaRefGeometry → List Rows → Type 0
GathersPair κs cb cr geo planes = pair-gather.Post κs (cb and cr and geo and none) (Ok planes) (cb and cr and geo and none)

-- predict's doors with the scratch as a struct, said of their clauses
module _ {M : Type 1} {𝓤 : Ura M} (𝓛 : Logic 𝓤) (mem : Memory → SProp 𝓤) (run : Routine → Fun 𝓤) where
  pub record WithScratch : Type 1 where
    pub predict_angular_into : (κs : Lfts 4) (corner : ℕ) (above left : LentSlice) (n mode : ℕ) (edge : Bool) (bits : ℕ)
        → WritesHeld 𝓤 (λ a r z. (angular-into.clauses 𝓛 mem run κs a).ensures none r z)
        (λ pred last. corner and above and left and n and mode and edge and bits and pred and last)
        n (angular bits edge n mode (in_rows corner above left))
    pub predict_chroma_tb_into : (κs : Lfts 4) (mode corner : ℕ) (above left : LentSlice) (n bits : ℕ)
        → WritesHeld 𝓤 (λ a r z. (chroma-into.clauses 𝓛 mem run κs a).ensures none r z)
        (λ pred last. mode and corner and above and left and n and bits and pred and last)
        n (chroma_samples bits n mode (in_rows corner above left))
    pub predict_luma_tb_into : (κs : Lfts 2) (mode : ℕ) (rows : Rows) (n bits : ℕ)
        → WritesHeld 𝓤 (λ a r z. (luma-into.clauses 𝓛 mem run κs a).ensures none r z)
        (λ pred last. mode and rows and n and bits and pred and last) n (luma_samples bits n mode (neighbours_of rows))
    pub gathered_luma_into : (κ : Lfts 1) (plane : LentSlice) (geo : LumaRefGeometry) (rows : Rows) → Gathers κ plane geo rows
        → (κs : Lfts 2) (mode : ℕ) → WritesHeld 𝓤 (λ a r z. (luma-into.clauses 𝓛 mem run κs a).ensures none r z)
        (λ pred last. mode and rows and geo.n and geo.bits and pred and last) geo.n (standard_block plane.now geo mode)

pub record Demand2 : Type 2 where
  -- refs, 6.4.1 and 8.4.4.2.2: the corner, and entries 0 .. 2n - 1 above and left
  pub get-reference-samples : (κ : Lfts 1) (plane : LentSlice) (geo : LumaRefGeometry) (rows : Rows) → Gathers κ plane geo rows
      → Agree geo.n (neighbours_of rows) (standard_neighbours plane.now geo)
  -- the same of Cb and of Cr, in every format and at every CTU, where the current luma place is the block's own and the least unit no wider
  -- than the block in luma samples
  pub get-reference-samples-chroma-pair : (κs : Lfts 2) (cb cr : LentSlice) (geo : ChromaRefGeometry) (planes : List Rows)
      → GathersPair κs cb cr geo planes → OwnPlace geo
      → AreChroma cb.now geo (neighbours_of (get_or planes 0 zero_rows))
      × AreChroma cr.now geo (neighbours_of (get_or planes 1 zero_rows))
  -- smooth, 8.4.4.2.3: the rule; both rows in the [1 2 1] form, which no depth plays a part in; corner and rows in either form
  pub should-filter-refs : (mode n : ℕ) (yes : Bool) → rule.Post none (mode and n and none) (Ok yes) (mode and n and none)
      → yes ≡ filter_flag n mode
  pub filter-references : (κs : Lfts 2) (corner : ℕ) (above left : LentSlice) (n : ℕ) (rows : RowPair)
      → weak-filter.Post κs (corner and above and left and n and none) (Ok rows) (corner and above and left and n and none)
      → (bits i : ℕ) → i < 2 * n → let pF = filtered false bits n (in_rows corner above left) in
      (get_or rows.above i 0 ≡ pF.above i) × (get_or rows.left i 0 ≡ pF.left i)
  pub filter-luma-refs : (κs : Lfts 2) (corner : ℕ) (above left : LentSlice) (n bits : ℕ) (rows : Rows)
      → luma-filter.Post κs (corner and above and left and n and bits and none) (Ok rows) (corner and above and left and n and bits and none)
      → Agree n (neighbours_of rows) (filtered true bits n (in_rows corner above left))
  -- predict: planar, DC and angular, 8.4.4.2.4 to 8.4.4.2.6
  pub predict_planar_into : (κs : Lfts 3) (above left : LentSlice) (n : ℕ)
      → Writes (planar-into.Post κs) (λ pred last. above and left and n and pred and last) n (planar n (in_rows 0 above left))
  pub predict_dc_into : (κs : Lfts 3) (above left : LentSlice) (n : ℕ) (edge : Bool)
      → Writes (dc-into.Post κs) (λ pred last. above and left and n and edge and pred and last) n (dc edge n (in_rows 0 above left))
  pub predict_angular_slices : (κs : Lfts 6) (corner : ℕ) (above left : LentSlice) (n mode : ℕ) (edge : Bool) (bits : ℕ)
      → Writes {Last = LentTables} (angular-slices.Post κs)
      (λ pred last. corner and above and left and n and mode and edge and bits and pred and last)
      n (angular bits edge n mode (in_rows corner above left))
  pub predict_angular_fresh : (κs : Lfts 3) (corner : ℕ) (above left : LentSlice) (n mode : ℕ) (edge : Bool) (bits : ℕ)
      → Writes (angular-fresh.Post κs) (λ pred last. corner and above and left and n and mode and edge and bits and pred and last)
      n (angular bits edge n mode (in_rows corner above left))
  -- predict: the block of a mode, 8.4.4.2.1; luma takes gathered rows, and smooths them where the rule says so
  pub predict_chroma_tb_slices : (κs : Lfts 6) (mode corner : ℕ) (above left : LentSlice) (n bits : ℕ)
      → Writes {Last = LentTables} (chroma-slices.Post κs)
      (λ pred last. mode and corner and above and left and n and bits and pred and last)
      n (chroma_samples bits n mode (in_rows corner above left))
  pub predict_chroma_tb_fresh : (κs : Lfts 3) (mode corner : ℕ) (above left : LentSlice) (n bits : ℕ)
      → Writes (chroma-fresh.Post κs) (λ pred last. mode and corner and above and left and n and bits and pred and last)
      n (chroma_samples bits n mode (in_rows corner above left))
  pub predict_luma_tb_slices : (κs : Lfts 4) (mode : ℕ) (rows : Rows) (n bits : ℕ)
      → Writes {Last = LentTables} (luma-slices.Post κs) (λ pred last. mode and rows and n and bits and pred and last)
      n (luma_samples bits n mode (neighbours_of rows))
  pub predict_luma_tb_fresh : (κs : Lfts 1) (mode : ℕ) (rows : Rows) (n bits : ℕ)
      → Writes (luma-fresh.Post κs) (λ pred last. mode and rows and n and bits and pred and last)
      n (luma_samples bits n mode (neighbours_of rows))
  -- the luma gather, then a luma block over the rows that it gave: 8.4.4.2 whole
  pub gathered_luma_slices : (κ : Lfts 1) (plane : LentSlice) (geo : LumaRefGeometry) (rows : Rows) → Gathers κ plane geo rows
      → (κs : Lfts 4) (mode : ℕ) → Writes {Last = LentTables} (luma-slices.Post κs)
      (λ pred last. mode and rows and geo.n and geo.bits and pred and last) geo.n (standard_block plane.now geo mode)
  pub gathered_luma_fresh : (κ : Lfts 1) (plane : LentSlice) (geo : LumaRefGeometry) (rows : Rows) → Gathers κ plane geo rows
      → (κs : Lfts 1) (mode : ℕ) → Writes (luma-fresh.Post κs)
      (λ pred last. mode and rows and geo.n and geo.bits and pred and last) geo.n (standard_block plane.now geo mode)
  -- predict_angular_into, predict_chroma_tb_into, predict_luma_tb_into
  pub with-scratch : {M : Type 1} {𝓤 : Ura M} (𝓛 : Logic 𝓤) (mem : Memory → SProp 𝓤) (run : Routine → Fun 𝓤)
      → WithScratch 𝓛 mem run
  -- camera: what the bytes of `out` spell, from what those of the plane or of the rows spell; these have to be bytes, and a corner a sample
  pub salvrunde_luma_refs : (κs : Lfts 2) (bits width height ctu unit row col n : ℕ) (plane : LentSlice) → AreBytes plane.now
      → Spells (c-luma-refs.Post κs)
      (λ out. bits and width and height and ctu and unit and row and col and n and plane and out and none)
      (λ l. Agree n (from_one_line 0 l) (standard_neighbours (samples_of plane.now) (luma_geometry bits width height ctu unit row col n)))
  pub salvrunde_chroma_refs_ctu : (κs : Lfts 3) (bits format width height ctu unit row col n curRow curCol : ℕ) (cb cr : LentSlice)
      → AreBytes cb.now → AreBytes cr.now → let geo = chroma_geometry bits format width height ctu unit row col n curRow curCol in
      OwnPlace geo → Spells (c-chroma-refs.Post κs)
      (λ out. bits and format and width and height and ctu and unit and row and col and n and curRow and curCol and cb and cr and out
      and none)
      (λ l. AreChroma (samples_of cb.now) geo (from_one_line 0 l) × AreChroma (samples_of cr.now) geo (from_one_line 131 l))
  pub salvrunde_planar : (κs : Lfts 3) (n : ℕ) (above left : LentSlice) → AreBytes above.now → AreBytes left.now
      → Spells (c-planar.Post κs) (λ out. n and above and left and out and none) (Holds n (planar n (rows_in_bytes 0 above left)))
  pub salvrunde_dc : (κs : Lfts 3) (n edge : ℕ) (above left : LentSlice) → AreBytes above.now → AreBytes left.now
      → Spells (c-dc.Post κs) (λ out. n and edge and above and left and out and none)
      (Holds n (dc (not (eqb edge 0)) n (rows_in_bytes 0 above left)))
  pub salvrunde_angular : (κs : Lfts 3) (bits n mode edge corner : ℕ) (above left : LentSlice)
      → corner < 65536 → AreBytes above.now → AreBytes left.now
      → Spells (c-angular.Post κs) (λ out. bits and n and mode and edge and corner and above and left and out and none)
      (Holds n (angular bits (not (eqb edge 0)) n mode (rows_in_bytes corner above left)))
  pub salvrunde_chroma_block : (κs : Lfts 3) (bits n mode corner : ℕ) (above left : LentSlice)
      → corner < 65536 → AreBytes above.now → AreBytes left.now
      → Spells (c-chroma-block.Post κs) (λ out. bits and n and mode and corner and above and left and out and none)
      (Holds n (chroma_samples bits n mode (rows_in_bytes corner above left)))
  pub salvrunde_luma_block : (κs : Lfts 3) (bits n mode corner : ℕ) (above left : LentSlice)
      → corner < 65536 → AreBytes above.now → AreBytes left.now
      → Spells (c-luma-block.Post κs) (λ out. bits and n and mode and corner and above and left and out and none)
      (Holds n (luma_samples bits n mode (rows_in_bytes corner above left)))
