-- The zero argument, settled on one page: a zero in a reference row is a black sample, never the sign of one not yet decoded. (a) The rows
-- that the luma gather gives are made of the available neighbours alone, whatever these hold. (b) A missing entry takes the one that the
-- order of substitution names. (c) Entry 2n and the ones after it reach no predicted sample. All over the doors' contracts, as the prover
-- reads them. ProofZero proves it.
use Rattle.std.specs.Prelude.{◌≡◌, Bool, true, false, ℕ, suc, ◌+◌, ◌-◌, ◌*◌, ◌^◌, ◌<◌, get_or, Result, Ok, ⊤}
use seplogic.Ra.Ura.{Ura}
use base.Logic.{SProp}
use prog.Memory.{Memory}
use prog.Routine.{Routine}
use types.Logic.{Logic}
use contract.Lifetimes.{Lfts}
use contract.Monad.{Fun}
use Rattle.h265.specs.Setting.{luma_at}
use Rattle.h265.specs.Angular.{angular}
use Rattle.h265.specs.Mean.{Agree}
use Rattle.h265.specs.Locality.{Beside, Seen}
use Rattle.order.specs.Order.{grid_of}
use Rattle.domain.specs.declared.refusal.Refusal.{Refusal}
use Rattle.domain.specs.declared.rows.Rows.{Rows}
use Rattle.domain.specs.rows.Neighbours.{neighbours_of, level_rows}
use Rattle.refs.specs.declared.LumaRefGeometry.{LumaRefGeometry}
use Rattle.refs.specs.substitution.Substitution.{samples_on}
use Rattle.refs.specs.standard.Missing.{marked_on, sample_on}
use Rattle.smooth.specs.declared.RowPair.{RowPair}
use Rattle.smooth.proofs.filter_references.Reads as weak-filter
use Rattle.smooth.proofs.filter_luma_refs.Reads as luma-filter
use Rattle.predict.proofs.planar_dc.predict_planar_into.Reads as planar-into
use Rattle.predict.proofs.planar_dc.predict_dc_into.Reads as dc-into
use Rattle.predict.proofs.angular.predict_angular_slices.Reads as angular-slices
use Rattle.predict.specs.contracts.scratch_angular.predict_angular_into as angular-into
use Rattle.predict.proofs.scratch_angular.predict_angular_fresh.Reads as angular-fresh
use Rattle.predict.proofs.predict_chroma_tb_slices.Reads as chroma-slices
use Rattle.predict.specs.contracts.scratch_predict.predict_chroma_tb_into as chroma-into
use Rattle.predict.proofs.scratch_predict.predict_chroma_tb_fresh.Reads as chroma-fresh
use Rattle.predict.proofs.predict_luma_tb_slices.Reads as luma-slices
use Rattle.predict.specs.contracts.scratch_predict.predict_luma_tb_into as luma-into
use Rattle.predict.proofs.scratch_predict.predict_luma_tb_fresh.Reads as luma-fresh
use Rattle.promises.specs.demand2.Demand2.{◌and◌, none, LentSlice, LentMutSlice, LentTables, in_rows, luma_samples, chroma_samples}
use Rattle.promises.specs.demand2.Demand2.{plane_sample, standard_neighbours, Gathers, WritesHeld}

-- (a) A block's neighbours: the corner and entries 0 .. m − 1 of the row above and of the left column. Two planes agree at each of them
-- that is available by 6.4.1; x counts columns and y rows of the picture.
abbrev pub AgreeWhereAvailable : ℕ → LumaRefGeometry → LentSlice → LentSlice → Type 0
AgreeWhereAvailable m geo plane other =
    (x y : ℕ) → Beside m geo.block_col.0 geo.block_row.0 x y
    → Seen (grid_of geo.picture) (luma_at geo.bits) geo.block_col.0 geo.block_row.0 x y
    → plane_sample plane.now geo x y ≡ plane_sample other.now geo x y

-- rows that are the same but for entry 2n of each
pub record SameButEntry2n (n : ℕ) (rows other : Rows) : Type 0 where
  pub corner : rows.corner ≡ other.corner
  pub above : (i : ℕ) → ¬ (i ≡ 2 * n) → get_or rows.above i 0 ≡ get_or other.above i 0
  pub left : (i : ℕ) → ¬ (i ≡ 2 * n) → get_or rows.left i 0 ≡ get_or other.left i 0

-- (b) The line of substitution has 4n + 3 places: left[2n] is place 0, left[0] place 2n, the corner place 2n + 1, above[0] place 2n + 2,
-- above[2n] place 4n + 2. Whether the neighbour at a place is available or missing, by 6.4.1, and what the gather gave there:
abbrev pub Available : LumaRefGeometry → ℕ → Type 0
Available geo k = marked_on geo k ≡ true

abbrev pub Missing : LumaRefGeometry → ℕ → Type 0
Missing geo k = marked_on geo k ≡ false

abbrev pub entry_at_place : LumaRefGeometry → Rows → ℕ → ℕ
entry_at_place geo rows k = samples_on rows (2 * geo.n) k

-- what the rows of a plane's gather hold along its line
pub record Substituted (plane : LentSlice) (geo : LumaRefGeometry) (rows : Rows) : Type 0 where
  -- an available neighbour is its sample, black or not
  pub available : (k : ℕ) → k < 4 * geo.n + 3 → Available geo k → entry_at_place geo rows k ≡ sample_on plane.now geo k
  -- entries before the first available one take its value
  pub before_first : (j : ℕ) → j < 4 * geo.n + 3 → Available geo j → ((i : ℕ) → i < j → Missing geo i)
      → (k : ℕ) → k < j → entry_at_place geo rows k ≡ entry_at_place geo rows j
  -- each later gap takes the entry before it
  pub later_gap : (k : ℕ) → suc k < 4 * geo.n + 3 → Missing geo (suc k) → entry_at_place geo rows (suc k) ≡ entry_at_place geo rows k
  -- none available: the corner and all 65 entries of both rows are neutral
  pub none_available : ((k : ℕ) → k < 4 * geo.n + 3 → Missing geo k) → rows ≡ level_rows (2 ^ (geo.bits - 1))

-- (c) Two calls of doors that write a block of side n, each meeting its contract and not refused: they leave the same samples in their
-- buffers. `last` and `more` are their scratch, of which nothing is said.
abbrev pub SameBlock : {A Last : Type 0} → ℕ → (A → Result ⊤ Refusal → A → Type 0) → (LentMutSlice → Last → A)
    → (A → Result ⊤ Refusal → A → Type 0) → (LentMutSlice → Last → A) → Type 0
SameBlock {A} {Last} n post call post₂ call₂ =
    (pred pred' : LentMutSlice) (last last' : Last) → post (call pred last) (Ok tt) (call pred' last')
    → (buf buf' : LentMutSlice) (more more' : Last) → post₂ (call₂ buf more) (Ok tt) (call₂ buf' more')
    → (x y : ℕ) → x < n → y < n → get_or pred'.now (y * n + x) 0 ≡ get_or buf'.now (y * n + x) 0

-- the same block at every door that takes a corner and two lent rows: every mode, with the edge filter on and off
pub record SameBlocks (n corner corner₂ : ℕ) (above left above₂ left₂ : LentSlice) : Type 0 where
  pub by_planar : (κs κt : Lfts 3)
      → SameBlock n (planar-into.Post κs) (λ pred last. above and left and n and pred and last)
      (planar-into.Post κt) (λ pred last. above₂ and left₂ and n and pred and last)
  pub by_dc : (κs κt : Lfts 3) (edge : Bool)
      → SameBlock n (dc-into.Post κs) (λ pred last. above and left and n and edge and pred and last)
      (dc-into.Post κt) (λ pred last. above₂ and left₂ and n and edge and pred and last)
  pub by_angular_slices : (κs κt : Lfts 6) (mode : ℕ) (edge : Bool) (bits : ℕ)
      → SameBlock {Last = LentTables} n
      (angular-slices.Post κs) (λ pred last. corner and above and left and n and mode and edge and bits and pred and last)
      (angular-slices.Post κt) (λ pred last. corner₂ and above₂ and left₂ and n and mode and edge and bits and pred and last)
  pub by_angular_fresh : (κs κt : Lfts 3) (mode : ℕ) (edge : Bool) (bits : ℕ)
      → SameBlock n (angular-fresh.Post κs) (λ pred last. corner and above and left and n and mode and edge and bits and pred and last)
      (angular-fresh.Post κt) (λ pred last. corner₂ and above₂ and left₂ and n and mode and edge and bits and pred and last)
  pub by_chroma_slices : (κs κt : Lfts 6) (mode bits : ℕ)
      → SameBlock {Last = LentTables} n
      (chroma-slices.Post κs) (λ pred last. mode and corner and above and left and n and bits and pred and last)
      (chroma-slices.Post κt) (λ pred last. mode and corner₂ and above₂ and left₂ and n and bits and pred and last)
  pub by_chroma_fresh : (κs κt : Lfts 3) (mode bits : ℕ)
      → SameBlock n (chroma-fresh.Post κs) (λ pred last. mode and corner and above and left and n and bits and pred and last)
      (chroma-fresh.Post κt) (λ pred last. mode and corner₂ and above₂ and left₂ and n and bits and pred and last)

-- and at every door that takes gathered rows: luma blocks, smoothed where the rule says so, in the weak form and the strong one
pub record SameLumaBlocks (n : ℕ) (rows rows₂ : Rows) : Type 0 where
  pub by_luma_slices : (κs κt : Lfts 4) (mode bits : ℕ)
      → SameBlock {Last = LentTables} n (luma-slices.Post κs) (λ pred last. mode and rows and n and bits and pred and last)
      (luma-slices.Post κt) (λ pred last. mode and rows₂ and n and bits and pred and last)
  pub by_luma_fresh : (κs κt : Lfts 1) (mode bits : ℕ)
      → SameBlock n (luma-fresh.Post κs) (λ pred last. mode and rows and n and bits and pred and last)
      (luma-fresh.Post κt) (λ pred last. mode and rows₂ and n and bits and pred and last)

-- the doors with the scratch as a struct, said of their clauses: over rows they write the block of any rows that agree below entry 2n
module _ {M : Type 1} {𝓤 : Ura M} (𝓛 : Logic 𝓤) (mem : Memory → SProp 𝓤) (run : Routine → Fun 𝓤) where
  pub record SameWithScratch : Type 1 where
    pub angular_held : (n corner corner₂ : ℕ) (above left above₂ left₂ : LentSlice)
        → Agree n (in_rows corner above left) (in_rows corner₂ above₂ left₂)
        → (κs : Lfts 4) (mode : ℕ) (edge : Bool) (bits : ℕ)
        → WritesHeld 𝓤 (λ a r z. (angular-into.clauses 𝓛 mem run κs a).ensures none r z)
        (λ pred last. corner and above and left and n and mode and edge and bits and pred and last)
        n (angular bits edge n mode (in_rows corner₂ above₂ left₂))
    pub chroma_held : (n corner corner₂ : ℕ) (above left above₂ left₂ : LentSlice)
        → Agree n (in_rows corner above left) (in_rows corner₂ above₂ left₂)
        → (κs : Lfts 4) (mode bits : ℕ)
        → WritesHeld 𝓤 (λ a r z. (chroma-into.clauses 𝓛 mem run κs a).ensures none r z)
        (λ pred last. mode and corner and above and left and n and bits and pred and last)
        n (chroma_samples bits n mode (in_rows corner₂ above₂ left₂))
    pub luma_held : (n : ℕ) (rows rows₂ : Rows) → Agree n (neighbours_of rows) (neighbours_of rows₂) → (κs : Lfts 2) (mode bits : ℕ)
        → WritesHeld 𝓤 (λ a r z. (luma-into.clauses 𝓛 mem run κs a).ensures none r z)
        (λ pred last. mode and rows and n and bits and pred and last) n (luma_samples bits n mode (neighbours_of rows₂))

pub record Zero : Type 2 where
  -- (a) The value never tells. Two planes that agree at every available neighbour, entry 2n among them, give the same corner and rows, all
  -- 65 entries of each.
  pub value_never_tells : (κ κ₂ : Lfts 1) (plane other : LentSlice) (geo : LumaRefGeometry) (rows rows₂ : Rows)
      → Gathers κ plane geo rows → Gathers κ₂ other geo rows₂ → AgreeWhereAvailable (2 * geo.n + 1) geo plane other → rows ≡ rows₂
  -- With agreement up to entry 2n − 1 alone, all but entry 2n is the same.
  pub all_but_entry_2n : (κ κ₂ : Lfts 1) (plane other : LentSlice) (geo : LumaRefGeometry) (rows rows₂ : Rows)
      → Gathers κ plane geo rows → Gathers κ₂ other geo rows₂ → AgreeWhereAvailable (2 * geo.n) geo plane other
      → SameButEntry2n geo.n rows rows₂
  -- So are the standard's own neighbours.
  pub standard_never_tells : (plane other : LentSlice) (geo : LumaRefGeometry) → AgreeWhereAvailable (2 * geo.n) geo plane other
      → Agree geo.n (standard_neighbours plane.now geo) (standard_neighbours other.now geo)
  -- So a luma block, over the rows that each gave: it is predicted alike.
  pub blocks_never_tell : (κ κ₂ : Lfts 1) (plane other : LentSlice) (geo : LumaRefGeometry) (rows rows₂ : Rows)
      → Gathers κ plane geo rows → Gathers κ₂ other geo rows₂ → AgreeWhereAvailable (2 * geo.n) geo plane other
      → SameLumaBlocks geo.n rows rows₂
  -- (b) What is missing takes what the order names.
  pub missing_takes : (κ : Lfts 1) (plane : LentSlice) (geo : LumaRefGeometry) (rows : Rows) → Gathers κ plane geo rows
      → Substituted plane geo rows
  -- (c) Entry 2n and all later ones reach no predicted sample: rows that agree on the corner and entries 0 .. 2n − 1 give the same block,
  -- whatever stands after these.
  pub past_2n_unread : (n corner corner₂ : ℕ) (above left above₂ left₂ : LentSlice)
      → Agree n (in_rows corner above left) (in_rows corner₂ above₂ left₂) → SameBlocks n corner corner₂ above left above₂ left₂
  pub past_2n_unread_luma : (n : ℕ) (rows rows₂ : Rows) → Agree n (neighbours_of rows) (neighbours_of rows₂) → SameLumaBlocks n rows rows₂
  pub past_2n_unread_held : {M : Type 1} {𝓤 : Ura M} (𝓛 : Logic 𝓤) (mem : Memory → SProp 𝓤) (run : Routine → Fun 𝓤)
      → SameWithScratch 𝓛 mem run
  -- Nor by way of smoothing, which the rule does not ask for at side 4 nor for DC and which the functions do there too: filter_references
  -- and then a predictor, with any corner; filter_luma_refs, weak or strong, and then a predictor. What was smoothed agrees again, so the
  -- doors with the scratch as a struct follow too.
  pub past_2n_unread_filtered : (n corner corner₂ : ℕ) (above left above₂ left₂ : LentSlice)
      → Agree n (in_rows corner above left) (in_rows corner₂ above₂ left₂)
      → (κs κt : Lfts 2) (r s : RowPair)
      → weak-filter.Post κs (corner and above and left and n and none) (Ok r) (corner and above and left and n and none)
      → weak-filter.Post κt (corner₂ and above₂ and left₂ and n and none) (Ok s) (corner₂ and above₂ and left₂ and n and none)
      → (a l a₂ l₂ : LentSlice) → a.now ≡ r.above → l.now ≡ r.left → a₂.now ≡ s.above → l₂.now ≡ s.left
      → (c : ℕ) → Agree n (in_rows c a l) (in_rows c a₂ l₂) × SameBlocks n c c a l a₂ l₂
  pub past_2n_unread_smoothed : (n corner corner₂ : ℕ) (above left above₂ left₂ : LentSlice)
      → Agree n (in_rows corner above left) (in_rows corner₂ above₂ left₂)
      → (κs κt : Lfts 2) (bits : ℕ) (r s : Rows)
      → luma-filter.Post κs (corner and above and left and n and bits and none) (Ok r) (corner and above and left and n and bits and none)
      → luma-filter.Post κt (corner₂ and above₂ and left₂ and n and bits and none) (Ok s)
      (corner₂ and above₂ and left₂ and n and bits and none)
      → (a l a₂ l₂ : LentSlice) → a.now ≡ r.above → l.now ≡ r.left → a₂.now ≡ s.above → l₂.now ≡ s.left
      → Agree n (neighbours_of r) (neighbours_of s)
      × SameBlocks n r.corner s.corner a l a₂ l₂ × SameLumaBlocks n r s
