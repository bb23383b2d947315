-- Document 02, Wish 14, on one page: an error report counts what its pairs of planes have, each block under its mode, and nothing is lost.
-- For each door: what meets its contract, as the prover reads it. ProofErrors proves it.
use Rattle.std.specs.Prelude.{Result, ◌≡◌, true, ℕ, ◌+◌, ◌*◌, length, get_or}
use mathlib.Core.List.{List, [], ◌∷◌, Permᴰ}
use seplogic.Ra.Ura.{Ura}
use base.Logic.{SProp, ent}
use prog.Memory.{Memory}
use prog.Routine.{Routine}
use types.Logic.{Logic}
use contract.Lifetimes.{Lfts}
use contract.Monad.{Fun, fact}
use Rattle.std.specs.Borrow.{Bor}
use denote.Triple.Clauses.{AtExit}
use Rattle.laws.specs.Sum.{total}
use Rattle.octets.specs.Bytes.{samples_of}
use Rattle.plan.specs.declared.tiling.Block.{Block}
use Rattle.plan.specs.declared.tiling.Frame.{Frame}
use Rattle.plan.specs.tiling.Plan.{Plan, plan_of, listed}
use Rattle.plan.specs.tiling.Sums.{picture_total}
use Rattle.plan.specs.RecordPlan.{records_of}
use Rattle.errors.specs.declared.Report.{Report}
use Rattle.errors.specs.declared.Rejected.{Rejected}
use Rattle.errors.specs.Answers.{Counted, counted_of}
use Rattle.errors.specs.Errors.{Tally, error_at, pair_tally, tallied, fresh_report, keeps_limits}
use Rattle.errors.specs.Served.{Figured}
use Rattle.errors.proofs.Report.count_numbers.Reads as door
use Rattle.errors.specs.contracts.Report.count as records-door
use Rattle.errors.proofs.on_bytes.count_bytes.Reads as bytes-door
use Rattle.errors.proofs.Report.join.Reads as join-door
use Rattle.promises.specs.demand2.Demand2.{LentSlice, ◌and◌, none}

-- a pair of planes and its plan, as they are lent
pub record Pair : Type 0 where
  pub a : LentSlice
  pub b : LentSlice
  pub rows : LentSlice
  pub cols : LentSlice
  pub sides : LentSlice
  pub modes : LentSlice

abbrev pub plan_lent : Pair → Plan
plan_lent p = plan_of p.rows.now p.cols.now p.sides.now p.modes.now

-- what meets the contract of a call that counts the pair into the report r
abbrev pub Answer : Type 0
Answer = Result Report Rejected

abbrev pub CountsPair : Lfts 6 → Report → Pair → Answer → Type 0
CountsPair κ r p v =
    door.Post κ (r and p.a and p.b and p.rows and p.cols and p.sides and p.modes and none) v
    (r and p.a and p.b and p.rows and p.cols and p.sides and p.modes and none)

abbrev pub CountsBytes : Lfts 3 → Report → LentSlice → LentSlice → LentSlice → Answer → Type 0
CountsBytes κ r a b plan v = bytes-door.Post κ (r and a and b and plan and none) v (r and a and b and plan and none)

abbrev pub Joins : Report → Report → Answer → Type 0
Joins r s v = join-door.Post tt (r and s and none) v (r and s and none)

-- what a pair adds to a report of this picture
abbrev pub adds : Frame → Pair → Tally
adds f p = pair_tally f p.a.now p.b.now (plan_lent p)

-- the figures of all modes together
abbrev pub all_modes : List ℕ → ℕ
all_modes l = total (λ m. get_or l m 0) 35

-- a report s, after a pair of planes with a plan of so many blocks was counted into r: per-mode sums add up to the whole picture's sum,
-- which is worked out without the plan
pub record WholePair (r s : Report) (a b : List ℕ) (blocks : ℕ) : Type 0 where
  pub pairs : s.pairs ≡ r.pairs + 1
  pub blocks_add : all_modes s.blocks ≡ all_modes r.blocks + blocks
  pub samples_add : all_modes s.samples ≡ all_modes r.samples + r.frame.height * r.frame.width
  pub squares_add : all_modes s.squares ≡ all_modes r.squares + picture_total (error_at a b r.frame.width) r.frame

-- what a call gives that counts a pair of planes under a plan into r
pub record Gives (r : Report) (a b : List ℕ) (plan : Plan) (v : Counted) : Type 0 where
  -- a refused pair changes nothing
  pub refused : (v.no ≡ 0 → ⊥) → v.next ≡ r
  -- a counted one adds what it has, each block under its mode
  pub counted : v.no ≡ 0 → v.next ≡ tallied r (pair_tally r.frame a b plan)
  -- and that adds up
  pub whole : Figured r → v.no ≡ 0 → WholePair r v.next a b plan.count
  -- no figure passes the limits of number 15, which are below 2^64, so no sum is ever lost; the report may have been any that passed
  pub within : Figured r → v.no ≡ 0 → keeps_limits v.next ≡ true

-- pairs of planes with their plans, counted one after the other through any of the doors, none of them refused
pub record Counting : Type 0 where
  pub a : List ℕ
  pub b : List ℕ
  pub plan : Plan

pub data CountedAll : Report → List Counting → Report → Type 0 where
  no_pair : (r : Report) → CountedAll r [] r
  one-pair : (r s : Report) (p : Counting) (ps : List Counting) (v : Counted) → Gives r p.a p.b p.plan v → v.no ≡ 0
      → CountedAll v.next ps s → CountedAll r (p ∷ ps) s

-- what each of them has, added up
unfoldable pub sum_over : (Counting → ℕ) → List Counting → ℕ
sum_over f [] = 0
sum_over f (p ∷ ps) = f p + sum_over f ps

pub record WholeList (frame : Frame) (ps : List Counting) (s : Report) : Type 0 where
  pub pairs : s.pairs ≡ length ps
  pub blocks_are : all_modes s.blocks ≡ sum_over (λ p. p.plan.count) ps
  pub samples_are : all_modes s.samples ≡ length ps * (frame.height * frame.width)
  pub squares_are : all_modes s.squares ≡ sum_over (λ p. picture_total (error_at p.a p.b frame.width) frame) ps

pub record ErrorsPromise : Type 2 where
  -- the three doors: plans of numbers, planes and plans of bytes, plans of records; the last is said of its clauses, an assertion of any
  -- model
  pub by_numbers : (κ : Lfts 6) (r : Report) (p : Pair) (v : Answer) → CountsPair κ r p v → Gives r p.a.now p.b.now (plan_lent p) (counted_of v)
  pub by_bytes : (κ : Lfts 3) (r : Report) (a b plan : LentSlice) (v : Answer) → CountsBytes κ r a b plan v
      → Gives r (samples_of a.now) (samples_of b.now) (records_of plan.now) (counted_of v)
  pub by_records : {M : Type 1} {𝓤 : Ura M} (𝓛 : Logic 𝓤) (mem : Memory → SProp 𝓤) (run : Routine → Fun 𝓤) (κs : Lfts 3)
      (r : Report) (a b : LentSlice) (plan : Bor (List Block)) (v : Answer) (e : AtExit records-door.ended κs)
      → ent 𝓤 ((records-door.clauses 𝓛 mem run κs (r, (a, (b, (plan, tt))))).ensures tt v e)
      (fact 𝓤 (Gives r a.now b.now (listed plan.now) (counted_of v)))
  -- pairs counted from nothing: the blocks add up to the plans' lengths, the samples to pairs × width × height, and the squares to the
  -- pictures' whole sums, worked out without the plans
  pub all_pairs : (bits : ℕ) (frame : Frame) (ps : List Counting) (s : Report) → CountedAll (fresh_report bits frame) ps s
      → WholeList frame ps s
  -- the order of accepted pairs makes no difference: where p and then q are counted, q and then p are, and the report is the same
  pub order : (κ λ' μ ν : Lfts 6) (r : Report) (p q : Pair) (v w x y : Answer) → Figured r → CountsPair κ r p v
      → CountsPair λ' (counted_of v).next q w → CountsPair μ r q x → CountsPair ν (counted_of x).next p y → (counted_of v).no ≡ 0
      → (counted_of w).no ≡ 0
      → ((counted_of x).no ≡ 0) × (((counted_of y).no ≡ 0) × ((counted_of y).next ≡ (counted_of w).next))
  -- nor over any list of pairs, through any of the doors
  pub any_order : (r s t : Report) (ps qs : List Counting) → Figured r → Permᴰ ps qs → CountedAll r ps s → CountedAll r qs t → s ≡ t
  -- two reports added are the report of both sets: s was counted from nothing, and t has its pairs counted into r
  pub together : (bits : ℕ) (frame : Frame) (ps : List Counting) (r s t : Report) (v : Answer) → Figured r
      → CountedAll (fresh_report bits frame) ps s → CountedAll r ps t → Joins r s v → (counted_of v).no ≡ 0
      → (counted_of v).next ≡ t
