-- Document 02, Wish 1, on one page: of the 35 luma modes none does better than the chosen one, and every lower one does worse. A mode's sum
-- is over H.265's own prediction, 8.4.4.2.1, from the rows as they are lent: smoothed where the rule says, edges filtered, the strong form
-- allowed. For the door and its entry for C: what meets its contract, as the prover reads it. ProofChoose proves it.
use Rattle.std.specs.Prelude.{◌≡◌, List, ◌++◌, ℕ, ◌+◌, ◌*◌, ◌≤◌, ◌<◌, pos, nat_abs, ◌-ℤ◌, get_or, drop, Result}
use contract.Lifetimes.{Lfts}
use Rattle.laws.specs.Sum.{total}
use Rattle.domain.specs.declared.rows.Rows.{Rows}
use Rattle.refs.specs.declared.LumaRefGeometry.{LumaRefGeometry}
use Rattle.domain.specs.declared.refusal.Refusal.{Refusal}
use Rattle.domain.specs.Refusal.{no_of}
use Rattle.choose.specs.declared.Best.{Best}
use Rattle.choose.specs.Answers.{chosen_of}
use Rattle.choose.proofs.choose_mode.Reads as door
use Rattle.octets.specs.Bytes.{samples_of, word_of}
use Rattle.camera.proofs.salvrunde_choose.Reads as c-choose
use Rattle.promises.specs.demand2.Demand2.{LentSlice, LentMutSlice, LentTables, ◌and◌, none, in_rows, rows_in_bytes, luma_samples, Gathers, standard_block}

-- the sum of absolute differences of a block of side n, in the first n * n entries of a source, from the samples in column x and row y
abbrev pub sum_from : ℕ → List ℕ → (ℕ → ℕ → ℕ) → ℕ
sum_from n source samples = total (λ y. total (λ x. nat_abs (pos (get_or source (y * n + x) 0) -ℤ pos (samples x y))) n) n

-- what a call is lent and told: rows, source, side and depth; and its scratch, before and after
pub record Asked : Type 0 where
  pub corner : ℕ
  pub above : LentSlice
  pub left : LentSlice
  pub source : LentSlice
  pub n : ℕ
  pub bits : ℕ

-- an answer that meets the door's contract
abbrev pub Answers : Lfts 7 → Asked → LentMutSlice → LentTables → Result Best Refusal → LentMutSlice → LentTables → Type 0
Answers κs a pred tables r pred' tables' =
    door.Post κs (a.corner and a.above and a.left and a.source and a.n and a.bits and pred and tables) r
    (a.corner and a.above and a.left and a.source and a.n and a.bits and pred' and tables')

-- the sum of a mode
abbrev pub sum_of : Asked → ℕ → ℕ
sum_of a mode = sum_from a.n a.source.now (luma_samples a.bits a.n mode (in_rows a.corner a.above a.left))

-- a call over the rows of a gather, lent as slices
abbrev pub asked_of : LumaRefGeometry → Rows → LentSlice → LentSlice → LentSlice → Asked
asked_of geo rows above left source =
    record { corner = rows.corner; above = above; left = left; source = source; n = geo.n; bits = geo.bits }

-- eight bytes that hold a mode and its sum, four bytes each, the lowest first; what stood past them stays. No mode does better, and every
-- lower one does worse
pub record BestBytes (sums : ℕ → ℕ) (before after : List ℕ) : Type 0 where
  pub mode : ℕ
  pub is_mode : mode ≤ 34
  pub none_better : (other : ℕ) → other ≤ 34 → sums mode ≤ sums other
  pub lower_worse : (other : ℕ) → other < mode → sums mode < sums other
  pub written : after ≡ word_of mode ++ word_of (sums mode) ++ drop 8 before

pub record ChoicePromise : Type 1 where
  -- the mode is one of the 35, so that walk and replay take it in a plan, and the sum is its own
  pub a_mode : (κs : Lfts 7) (a : Asked) (pred pred' : LentMutSlice) (tables tables' : LentTables) (r : Result Best Refusal)
      → Answers κs a pred tables r pred' tables' → no_of r ≡ 0
      → ((chosen_of r).mode ≤ 34) × ((chosen_of r).sum ≡ sum_of a (chosen_of r).mode)
  -- no mode does better
  pub none_better : (κs : Lfts 7) (a : Asked) (pred pred' : LentMutSlice) (tables tables' : LentTables) (r : Result Best Refusal)
      → Answers κs a pred tables r pred' tables' → no_of r ≡ 0 → (mode : ℕ) → mode ≤ 34 → (chosen_of r).sum ≤ sum_of a mode
  -- every lower mode does worse
  pub lower_worse : (κs : Lfts 7) (a : Asked) (pred pred' : LentMutSlice) (tables tables' : LentTables) (r : Result Best Refusal)
      → Answers κs a pred tables r pred' tables' → no_of r ≡ 0 → (mode : ℕ) → mode < (chosen_of r).mode
      → (chosen_of r).sum < sum_of a mode
  -- refused: mode 0, sum 0, and all scratch as it was
  pub refused : (κs : Lfts 7) (a : Asked) (pred pred' : LentMutSlice) (tables tables' : LentTables) (r : Result Best Refusal)
      → Answers κs a pred tables r pred' tables' → ¬ (no_of r ≡ 0)
      → ((chosen_of r).mode ≡ 0) × (((chosen_of r).sum ≡ 0) × ((pred'.now ≡ pred.now) × ((tables'.0.now ≡ tables.0.now)
      × ((tables'.1.0.now ≡ tables.1.0.now) × (tables'.1.1.0.now ≡ tables.1.1.0.now)))))
  -- over rows that the luma gather gave, a mode's sum is over 8.4.4.2 whole, from the samples of the plane
  pub over_gathered : (κ : Lfts 1) (plane : LentSlice) (geo : LumaRefGeometry) (rows : Rows) → Gathers κ plane geo rows
      → (above left source : LentSlice) → above.now ≡ rows.above → left.now ≡ rows.left → (mode : ℕ) → mode ≤ 34
      → sum_of (asked_of geo rows above left source) mode ≡ sum_from geo.n source.now (standard_block plane.now geo mode)
  -- for C: what a served call of salvrunde_choose writes into its buffer's first eight bytes, from what the bytes of rows and source spell
  pub salvrunde_choose : (κs : Lfts 4) (bits n corner : ℕ) (above left source : LentSlice) (out out' : LentMutSlice) (number : ℕ)
      → c-choose.Post κs (bits and n and corner and above and left and source and out and none) number
      (bits and n and corner and above and left and source and out' and none) → number ≡ 0
      → BestBytes (λ mode. sum_from n (samples_of source.now) (luma_samples bits n mode (rows_in_bytes corner above left))) out.now out'.now
