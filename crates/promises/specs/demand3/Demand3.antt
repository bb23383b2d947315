-- Documents 01 and 02, demand 3: what a walk of a still gives, and that a replay of it gives the still back, however either is split into
-- calls. A call, a chain of calls and the names used here are in Calls; that the doors make such calls is said of their contracts, at the
-- end. `predicted_at` is H.265's own prediction of a block from a plane. Proof3 proves it all.
use Rattle.std.specs.Prelude.{Result, ℕ, ◌+◌, ◌-◌, ◌≤◌, ◌<◌, min, ◌≡◌, true, List, ℤ, pos, nat_abs, ◌+ℤ◌, ◌-ℤ◌, length, get_or}
use seplogic.Ra.Ura.{Ura}
use base.Logic.{SProp, ent}
use prog.Memory.{Memory}
use prog.Routine.{Routine}
use types.Logic.{Logic}
use contract.Lifetimes.{Lfts}
use contract.Monad.{Fun, fact}
use Rattle.std.specs.Borrow.{Bor, MutBor}
use denote.Triple.Clauses.{AtExit}
use Rattle.h265.specs.Notation.{clip_to}
use Rattle.predict.specs.declared.scratch.AngularScratch.{AngularScratch}
use Rattle.plan.specs.declared.tiling.Block.{Block}
use Rattle.plan.specs.tiling.Plan.{plan_of, listed}
use Rattle.plan.specs.tiling.Tiling.{In, Of, Covered}
use Rattle.walk.specs.declared.checks.Still.{Still}
use Rattle.walk.specs.declared.Progress.{Progress}
use Rattle.walk.specs.declared.Advance.{Advance}
use Rattle.walk.specs.declared.Rejected.{Rejected}
use Rattle.walk.specs.Answers.{Stepped, stepped_of}
use Rattle.walk.specs.checks.Checks.{Tables, is_roomy, largest_in}
use Rattle.walk.specs.block.Predicted.{sample_at, predicted_at}
use Rattle.walk.specs.block.Walked.{World}
use Rattle.walk.specs.lossless.Picture.{Whole}
use Rattle.walk.specs.Lent.{tables, scratch_tables, world}
use Rattle.walk.specs.contracts.Progress.walk_numbers as walk-numbers
use Rattle.walk.proofs.Progress.walk_numbers.Reads as walk-numbers-contract
use Rattle.walk.specs.contracts.Progress.replay_numbers as replay-numbers
use Rattle.walk.proofs.Progress.replay_numbers.Reads as replay-numbers-contract
use Rattle.walk.specs.contracts.Progress.walk as walk-records
use Rattle.walk.specs.contracts.Progress.replay as replay-records
use Rattle.promises.specs.demand3.Calls.{Task, task, Ask, ask, Roomy, granted, Each, Held, held, Served, WalksServed}
use Rattle.promises.specs.demand3.Calls.{ReplaysServed, Made, blocks, count, residual_at, fresh, calls, walk_verdict_at, walk_call}
use Rattle.promises.specs.demand3.Calls.{replay_verdict_at, replay_call}

-- The whole picture is walked: the record says so, there are as many residuals as samples, each block's are the source less H.265's
-- prediction from the source itself, and the work plane holds the source.
pub record LosslessWalk (j : Task) (source : List ℕ) (x : Held World) : Type 0 where
  pub all_done : x.progress.done ≡ count j
  pub long : Whole j.still x.world.residuals
  pub residuals : (i r c : ℕ) → i < count j → r < (blocks j i).side → c < (blocks j i).side
      → residual_at j x.world.residuals i r c
      ≡ pos (sample_at j.still source ((blocks j i).row + r) ((blocks j i).col + c)) -ℤ pos (predicted_at j.still (blocks j i) source r c)
  pub reconstructed : (r c : ℕ) → In j.still.frame r c → sample_at j.still x.world.work r c ≡ sample_at j.still source r c

-- k blocks are replayed: the record says k, the samples of the first k blocks are the source's, and every other sample is as it was.
pub record Replayed (j : Task) (source plane : List ℕ) (k : ℕ) (x : Held (List ℕ)) : Type 0 where
  pub done : x.progress.done ≡ k
  pub source_back : (r c : ℕ) → Covered (blocks j) k r c → sample_at j.still x.world r c ≡ sample_at j.still source r c
  pub others_kept : (r c : ℕ) → In j.still.frame r c → (Covered (blocks j) k r c → ⊥)
      → sample_at j.still x.world r c ≡ sample_at j.still plane r c

-- a block that is done on the way from x to y
abbrev pub Done : {W : Type 0} → Held W → Held W → ℕ → Type 0
Done x y i = (x.progress.done ≤ i) × (i < y.progress.done)

-- From x to y so many blocks are done, the next ones and no others: the record goes on by so many, their residuals are the source less
-- H.265's prediction from the work plane, which holds the source there, and all other samples and residuals stay.
pub record WalkDoes (j : Task) (source : List ℕ) (x : Held World) (did : ℕ) (y : Held World) : Type 0 where
  pub done : y.progress.done ≡ x.progress.done + did
  pub residuals : (i r c : ℕ) → Done x y i → r < (blocks j i).side → c < (blocks j i).side
      → residual_at j y.world.residuals i r c
      ≡ pos (sample_at j.still source ((blocks j i).row + r) ((blocks j i).col + c))
      -ℤ pos (predicted_at j.still (blocks j i) y.world.work r c)
  pub reconstructed : (i r c : ℕ) → Done x y i → r < (blocks j i).side → c < (blocks j i).side
      → sample_at j.still y.world.work ((blocks j i).row + r) ((blocks j i).col + c)
      ≡ sample_at j.still source ((blocks j i).row + r) ((blocks j i).col + c)
  pub samples_kept : (r c : ℕ) → In j.still.frame r c → ((i : ℕ) → Done x y i → Of (blocks j i) r c → ⊥)
      → sample_at j.still y.world.work r c ≡ sample_at j.still x.world.work r c
  pub residuals_kept : (i r c : ℕ) → i < count j → r < (blocks j i).side → c < (blocks j i).side → (Done x y i → ⊥)
      → residual_at j y.world.residuals i r c ≡ residual_at j x.world.residuals i r c

-- The same of a replay: each block done is H.265's prediction from the plane plus its residual, clipped, and all other samples stay.
pub record ReplayDoes (j : Task) (residuals : List ℤ) (x : Held (List ℕ)) (did : ℕ) (y : Held (List ℕ)) : Type 0 where
  pub done : y.progress.done ≡ x.progress.done + did
  pub rebuilt : (i r c : ℕ) → Done x y i → r < (blocks j i).side → c < (blocks j i).side
      → sample_at j.still y.world ((blocks j i).row + r) ((blocks j i).col + c)
      ≡ clip_to (largest_in j.still) (pos (predicted_at j.still (blocks j i) y.world r c) +ℤ residual_at j residuals i r c)
  pub samples_kept : (r c : ℕ) → In j.still.frame r c → ((i : ℕ) → Done x y i → Of (blocks j i) r c → ⊥)
      → sample_at j.still y.world r c ≡ sample_at j.still x.world r c

-- One call from x by its door's contract: its answer r, and what is held after it. It is the call of Calls, and its number that call's.
-- A count is worth what it says of the planes: served, it is the lesser of the grant and what remains, and so many blocks and no others are
-- done; refused, it is 0 and all stays.
pub record WalkGave (j : Task) (source : List ℕ) (x : Held World) (a : Ask) (r : Stepped) (y : Held World) : Type 0 where
  pub number : r.no ≡ (walk_verdict_at j source x a.tables).no
  pub left : y ≡ walk_call j source x a
  pub counted : r.no ≡ 0 → (r.did ≡ min a.grant (count j - x.progress.done)) × WalkDoes j source x r.did y
  pub refused : (r.no ≡ 0 → ⊥) → (r.did ≡ 0) × (y ≡ x)

pub record ReplayGave (j : Task) (residuals : List ℤ) (x : Held (List ℕ)) (a : Ask) (r : Stepped) (y : Held (List ℕ)) : Type 0 where
  pub number : r.no ≡ (replay_verdict_at j residuals x a.tables).no
  pub left : y ≡ replay_call j residuals x a
  pub counted : r.no ≡ 0 → (r.did ≡ min a.grant (count j - x.progress.done)) × ReplayDoes j residuals x r.did y
  pub refused : (r.no ≡ 0 → ⊥) → (r.did ≡ 0) × (y ≡ x)

-- calls that were made through the doors, of any form, one after the other
abbrev pub WalkMade : Task → List ℕ → Held World → List Ask → Held World → Type 0
WalkMade j source = Made (λ x a y. (r : Stepped) × WalkGave j source x a r y)

abbrev pub ReplayMade : Task → List ℤ → Held (List ℕ) → List Ask → Held (List ℕ) → Type 0
ReplayMade j residuals = Made (λ x a y. (r : Stepped) × ReplayGave j residuals x a r y)

-- A walk of every block that is not refused: some scratch with which it is served from the start, scratch of every call that is long
-- enough, and grants that reach the count.
pub record WalksAll (j : Task) (source : List ℕ) (w : World) (asks : List Ask) : Type 0 where
  pub tables : Tables
  pub served : Served (walk_verdict_at j source (fresh w) tables)
  pub room : Each Roomy asks
  pub enough : count j ≤ granted asks

pub record Demand3 : Type 2 where
  -- Every call of such a walk is served, and together they are lossless, whatever the work plane and the residuals held.
  pub walk : (j : Task) (source : List ℕ) (w : World) (asks : List Ask) → WalksAll j source w asks
      → WalksServed j source (fresh w) asks × LosslessWalk j source (calls (walk_call j source) (fresh w) asks)
  -- The prediction of block k is made from samples of earlier blocks alone: another source that agrees there gives the same.
  pub earlier_alone : (j : Task) (source other : List ℕ) (w : World) (t : Tables) → Served (walk_verdict_at j source (fresh w) t)
      → Whole j.still other
      → (k : ℕ) → k < count j → ((r c : ℕ) → Covered (blocks j) k r c → sample_at j.still source r c ≡ sample_at j.still other r c)
      → (r c : ℕ) → r < (blocks j k).side → c < (blocks j k).side
      → predicted_at j.still (blocks j k) source r c ≡ predicted_at j.still (blocks j k) other r c
  -- The walk's residuals, replayed in any calls with any scratch over a plane of any contents: every call is served, and they give the
  -- source back, block by block.
  pub replay : (j : Task) (source : List ℕ) (w : World) (asks : List Ask) → WalksAll j source w asks
      → (plane : List ℕ) → Whole j.still plane → (again : List Ask) → Each Roomy again
      → let residuals = (calls (walk_call j source) (fresh w) asks).world.residuals in
      ReplaysServed j residuals (fresh plane) again
      × Replayed j source plane (min (granted again) (count j)) (calls (replay_call j residuals) (fresh plane) again)
  -- Where the grants reach the count the plane is the source: the program never prints `differs`.
  pub same : (j : Task) (source : List ℕ) (w : World) (asks : List Ask) → WalksAll j source w asks
      → (plane : List ℕ) → Whole j.still plane → (again : List Ask) → Each Roomy again → count j ≤ granted again
      → (calls (replay_call j (calls (walk_call j source) (fresh w) asks).world.residuals) (fresh plane) again).world ≡ source
  -- What a walk from a fresh record writes, in any calls, is no larger than the depth's largest sample, so that number 14 is not for it. (A
  -- walk that goes on over a work plane that was altered may write a larger one: its predictions are made from what the plane holds.)
  pub written : (j : Task) (source : List ℕ) (w : World) (asks : List Ask) (t : Tables) → Served (walk_verdict_at j source (fresh w) t)
      → Each Roomy asks → (i r c : ℕ) → i < min (granted asks) (count j) → r < (blocks j i).side → c < (blocks j i).side
      → nat_abs (residual_at j (calls (walk_call j source) (fresh w) asks).world.residuals i r c) ≤ largest_in j.still
  -- Nor is any that a replay takes, those of blocks done before and not done too.
  pub taken : (j : Task) (residuals : List ℤ) (x : Held (List ℕ)) (t : Tables) → Served (replay_verdict_at j residuals x t)
      → (i : ℕ) → nat_abs (get_or residuals i (pos 0)) ≤ largest_in j.still
  -- Any residuals that a replay takes: two replays of as many blocks agree on those blocks, however their planes began.
  pub altered : (j : Task) (residuals : List ℤ) (a b : List ℕ) (asks others : List Ask) (t : Tables)
      → Served (replay_verdict_at j residuals (fresh a) t) → Whole j.still b
      → Each Roomy asks → Each Roomy others → min (granted asks) (count j) ≡ min (granted others) (count j)
      → (r c : ℕ) → Covered (blocks j) (min (granted asks) (count j)) r c
      → sample_at j.still (calls (replay_call j residuals) (fresh a) asks).world r c
      ≡ sample_at j.still (calls (replay_call j residuals) (fresh b) others).world r c
  -- Any split into calls is one call with the sum of the grants, from any record, refused or not.
  pub walk_split : (j : Task) (source : List ℕ) (x : Held World) (asks : List Ask) (t : Tables) → Each Roomy asks → is_roomy t ≡ true
      → calls (walk_call j source) x asks ≡ walk_call j source x (ask (granted asks) t)
  pub replay_split : (j : Task) (residuals : List ℤ) (x : Held (List ℕ)) (asks : List Ask) (t : Tables) → Each Roomy asks → is_roomy t ≡ true
      → calls (replay_call j residuals) x asks ≡ replay_call j residuals x (ask (granted asks) t)
  -- Calls that are served, from any record, do the lesser of what is granted and what remains.
  pub walk_does : (j : Task) (source : List ℕ) (x : Held World) (asks : List Ask) (t : Tables) → Served (walk_verdict_at j source x t)
      → Each Roomy asks
      → WalksServed j source x asks
      × WalkDoes j source x (min (granted asks) (count j - x.progress.done)) (calls (walk_call j source) x asks)
  pub replay_does : (j : Task) (residuals : List ℤ) (x : Held (List ℕ)) (asks : List Ask) (t : Tables)
      → Served (replay_verdict_at j residuals x t) → Each Roomy asks
      → ReplaysServed j residuals x asks
      × ReplayDoes j residuals x (min (granted asks) (count j - x.progress.done)) (calls (replay_call j residuals) x asks)
  -- The doors, by their contracts, with what is lent named as in the code: `now` is what it holds, e what there is at exit. The plan is
  -- what the lent numbers or records list, so that calls of both forms, with whatever scratch, are calls of one task where they list one
  -- plan.
  pub by_walk_numbers : (κs : Lfts 10) (self : Progress) (still : Still) (rows cols sides modes source : Bor (List ℕ))
      (work : MutBor (List ℕ)) (residuals : MutBor (List ℤ)) (refs indices fractions : MutBor (List ℕ)) (grant : ℕ) (a : Result Advance Rejected) (e : AtExit walk-numbers.ended κs)
      → walk-numbers-contract.Post κs
      (self, (still, (rows, (cols, (sides, (modes, (source, (work, (residuals, (refs, (indices, (fractions, (grant, tt))))))))))))) a e
      → WalkGave (task still (plan_of rows.now cols.now sides.now modes.now)) source.now
      (held self (world work.now residuals.now))
      (ask grant (tables refs.now indices.now fractions.now)) (stepped_of a)
      (held (stepped_of a).next (world e.1.1.1.1.1.1.1.0.now e.1.1.1.1.1.1.1.1.0.now))
  pub by_replay_numbers : (κs : Lfts 9) (self : Progress) (still : Still) (rows cols sides modes : Bor (List ℕ))
      (residuals : Bor (List ℤ))
      (plane refs indices fractions : MutBor (List ℕ)) (grant : ℕ) (a : Result Advance Rejected) (e : AtExit replay-numbers.ended κs)
      → replay-numbers-contract.Post κs
      (self, (still, (rows, (cols, (sides, (modes, (residuals, (plane, (refs, (indices, (fractions, (grant, tt)))))))))))) a e
      → ReplayGave (task still (plan_of rows.now cols.now sides.now modes.now)) residuals.now (held self plane.now)
      (ask grant (tables refs.now indices.now fractions.now)) (stepped_of a) (held (stepped_of a).next e.1.1.1.1.1.1.1.0.now)
  -- the doors over records, said of their clauses: a clause is an assertion of any model, and entails the same
  pub by_walk : {M : Type 1} {𝓤 : Ura M} (𝓛 : Logic 𝓤) (mem : Memory → SProp 𝓤) (run : Routine → Fun 𝓤) (κs : Lfts 5)
      (self : Progress) (still : Still) (plan : Bor (List Block)) (source : Bor (List ℕ)) (work : MutBor (List ℕ)) (residuals : MutBor (List ℤ))
      (scratch : MutBor AngularScratch) (grant : ℕ) (a : Result Advance Rejected) (e : AtExit walk-records.ended κs)
      → ent 𝓤
      ((walk-records.clauses 𝓛 mem run κs (self, (still, (plan, (source, (work, (residuals, (scratch, (grant, tt))))))))).ensures tt a e)
      (fact 𝓤 (WalkGave (task still (listed plan.now)) source.now (held self (world work.now residuals.now))
      (ask grant scratch_tables) (stepped_of a) (held (stepped_of a).next (world e.1.1.1.1.0.now e.1.1.1.1.1.0.now))))
  pub by_replay : {M : Type 1} {𝓤 : Ura M} (𝓛 : Logic 𝓤) (mem : Memory → SProp 𝓤) (run : Routine → Fun 𝓤) (κs : Lfts 4)
      (self : Progress) (still : Still) (plan : Bor (List Block)) (residuals : Bor (List ℤ)) (plane : MutBor (List ℕ))
      (scratch : MutBor AngularScratch) (grant : ℕ) (a : Result Advance Rejected) (e : AtExit replay-records.ended κs)
      → ent 𝓤 ((replay-records.clauses 𝓛 mem run κs
      (self, (still, (plan, (residuals, (plane, (scratch, (grant, tt)))))))).ensures tt a e)
      (fact 𝓤 (ReplayGave (task still (listed plan.now)) residuals.now (held self plane.now) (ask grant scratch_tables) (stepped_of a)
      (held (stepped_of a).next e.1.1.1.1.0.now)))
  -- Lists of numbers and a list of records that agree block by block are one plan.
  pub one_plan : (rows cols sides modes : List ℕ) (l : List Block)
      → length rows ≡ length l → length cols ≡ length l → length sides ≡ length l → length modes ≡ length l
      → ((k : ℕ) → k < length l → (plan_of rows cols sides modes).block k ≡ (listed l).block k) → plan_of rows cols sides modes ≡ listed l
  -- Calls that were made through the doors, one after the other, are the chains above.
  pub walk_made : (j : Task) (source : List ℕ) (x : Held World) (asks : List Ask) (y : Held World) → WalkMade j source x asks y
      → y ≡ calls (walk_call j source) x asks
  pub replay_made : (j : Task) (residuals : List ℤ) (x : Held (List ℕ)) (asks : List Ask) (y : Held (List ℕ))
      → ReplayMade j residuals x asks y → y ≡ calls (replay_call j residuals) x asks
  -- So a walk and a replay of its residuals, both made through the doors: the one is lossless, the other gives the source back.
  pub of_doors : (j : Task) (source : List ℕ) (w : World) (asks : List Ask) → WalksAll j source w asks
      → (x : Held World) → WalkMade j source (fresh w) asks x
      → (plane : List ℕ) → Whole j.still plane → (again : List Ask) → Each Roomy again
      → (y : Held (List ℕ)) → ReplayMade j x.world.residuals (fresh plane) again y
      → LosslessWalk j source x × Replayed j source plane (min (granted again) (count j)) y
