-- What a call of a predictor is lent and what it gives, by name: the contracts of the doors are said with these.
-- Rests on the numbers.
use Rattle.std.specs.Prelude.{◌≡◌, refl, List, ℕ, length, get_or, replicate}
use Rattle.std.specs.Borrow.{Bor, MutBor}
use denote.Triple.Both.{Both}
use Rattle.laws.specs.Fill.{block}
use Rattle.laws.specs.Choose.{served}
use Rattle.h265.specs.Notation.{Neighbours, from_rows}
use Rattle.predict.specs.refusals.Refusals.{Lengths, lengths}
use Rattle.predict.specs.declared.scratch.AngularScratch.{AngularScratch}

-- a slice that a call is lent, as its parameter stands in an `ensures`: at entry and at exit
abbrev pub Slice : Type 0
Slice = Both (Bor (List ℕ)) (Bor (List ℕ))

-- a slice that a call may write, likewise
abbrev pub MutSlice : Type 0
MutSlice = Both (MutBor (List ℕ)) (MutBor (List ℕ))

-- how many entries it has
abbrev pub len : Slice → ℕ
len s = length s.entry.now

abbrev pub mut_len : MutSlice → ℕ
mut_len s = length s.entry.now

-- what a call lends, where its rows and its block are so long: with three lent tables, and with the scratch struct, whose tables
-- have the lengths of their types, so that only the rows and the block can be short
abbrev pub with_tables : ℕ → ℕ → ℕ → MutSlice → MutSlice → MutSlice → Lengths
with_tables above left pred refs indices fractions = lengths above left pred (mut_len refs) (mut_len indices) (mut_len fractions)

abbrev pub with_scratch : ℕ → ℕ → ℕ → Lengths
with_scratch above left pred = lengths above left pred 193 32 32

-- entry i when the call began
abbrev pub entry_at : Slice → ℕ → ℕ
entry_at s i = get_or s.entry.now i 0

-- the neighbours in two lent rows
abbrev pub lent_neighbours : ℕ → Slice → Slice → Neighbours
lent_neighbours corner above left = from_rows corner above.entry.now left.entry.now

-- the block after a call that answers r: `samples x y` at row y and column x where it is served, and as it was where it is refused
abbrev pub Predicts : ℕ → ℕ → (ℕ → ℕ → ℕ) → MutSlice → Type 0
Predicts r n samples pred =
    pred.exit.now ≡ served r (block (λ (y x : ℕ). samples x y) n pred.entry.now) pred.entry.now

-- a lent slice after a call that answers r: these contents where it is served, and as it was where it is refused
abbrev pub Becomes : ℕ → List ℕ → MutSlice → Type 0
Becomes r contents s = s.exit.now ≡ served r contents s.entry.now

-- the tables are as they were
abbrev pub Untouched : MutSlice → MutSlice → MutSlice → Type 0
Untouched refs indices fractions =
    (refs.exit.now ≡ refs.entry.now)
    × ((indices.exit.now ≡ indices.entry.now) × (fractions.exit.now ≡ fractions.entry.now))

-- a new scratch
abbrev pub zero_scratch : AngularScratch
zero_scratch = record { refs = replicate 193 0; indices = replicate 32 0; fractions = replicate 32 0 }

-- its tables are as long as those of a call with the struct
pub as_long : (above left pred : ℕ) → let l = with_scratch above left pred in
    (length zero_scratch.refs ≡ l.refs)
    × ((length zero_scratch.indices ≡ l.indices) × (length zero_scratch.fractions ≡ l.fractions))
as_long above left pred = (refl, (refl, refl))
