-- Document 02, Wish 9, on one page: several lenses under one plan take turns with one scratch, block by block in any order, each with a
-- still and things of its own. Each has the answers of its own turns alone and ends with what it would have had alone, so that demand 3
-- holds of each. Nothing is asked of what the scratch holds, nor of what the other lenses do or are refused. The one premise is that the
-- plan is one for all turns: nobody alters the list while a lens has blocks left. The law of turns is in TurnLaw, what a call gives in
-- walk's contracts and in Calls. ProofLenses and ProofDoors prove it all.
use Rattle.std.specs.Prelude.{Result, ℕ, ◌≤◌, min, ◌≡◌, List, ◌∷◌, ◌++◌, map, ℤ}
use seplogic.Ra.Ura.{Ura}
use base.Logic.{SProp, ent}
use prog.Memory.{Memory}
use prog.Routine.{Routine}
use types.Logic.{Logic}
use contract.Lifetimes.{Lfts}
use contract.Monad.{Fun, fact}
use Rattle.std.specs.Borrow.{Bor, MutBor}
use denote.Triple.Clauses.{AtExit}
use Rattle.laws.specs.Chain.{sum}
use Rattle.predict.specs.declared.scratch.AngularScratch.{AngularScratch}
use Rattle.plan.specs.declared.tiling.Block.{Block}
use Rattle.plan.specs.tiling.Plan.{Plan, plan_of, listed}
use Rattle.plan.specs.tiling.Tiling.{Covered}
use Rattle.walk.specs.declared.checks.Still.{Still}
use Rattle.walk.specs.declared.Progress.{Progress}
use Rattle.walk.specs.declared.Advance.{Advance}
use Rattle.walk.specs.declared.Rejected.{Rejected}
use Rattle.walk.specs.Answers.{Stepped, stepped_of}
use Rattle.walk.specs.checks.Checks.{Tables}
use Rattle.walk.specs.block.Predicted.{sample_at}
use Rattle.walk.specs.block.Walked.{World}
use Rattle.walk.specs.lossless.Picture.{Whole}
use Rattle.walk.specs.Lent.{tables, scratch_tables, world}
use Rattle.walk.specs.Door.{WalkGives, ReplayGives}
use Rattle.walk.specs.contracts.Progress.walk_numbers as walk-numbers
use Rattle.walk.proofs.Progress.walk_numbers.Reads as walk-numbers-contract
use Rattle.walk.specs.contracts.Progress.replay_numbers as replay-numbers
use Rattle.walk.proofs.Progress.replay_numbers.Reads as replay-numbers-contract
use Rattle.walk.specs.contracts.Progress.walk as walk-records
use Rattle.walk.specs.contracts.Progress.replay as replay-records
use Rattle.promises.specs.demand3.Calls.{Task, task, Each, Held, held, fresh, Served, count, blocks, walk_verdict_at, replay_verdict_at}
use Rattle.promises.specs.demand3.Demand3.{LosslessWalk, Replayed}
use Rattle.promises.specs.lenses.TurnLaw.{Turn, own, asks_in, answers_in, Alone, Together}

-- what a lens holds between its turns: its source, its walk's record with the work plane and the residuals, its replay's with the plane
pub record OfLens : Type 0 where
  pub source : List ℕ
  pub walking : Held World
  pub replaying : Held (List ℕ)

abbrev pub of_lens : List ℕ → Held World → Held (List ℕ) → OfLens
of_lens source walking replaying = record { source = source; walking = walking; replaying = replaying }

-- What a turn asks: first its owner does with the lens's own things what he likes, as to begin a new walk with a fresh record; then a call
-- of walk or of replay has such a grant.
pub data Request : Type 0 where
  to_walk : (OfLens → OfLens) → ℕ → Request
  to_replay : (OfLens → OfLens) → ℕ → Request

abbrev pub as_is : OfLens → OfLens
as_is x = x

-- what the call then begins with
unfoldable pub start_of : Request → OfLens → OfLens
start_of (to_walk first grant) x = first x
start_of (to_replay first grant) x = first x

-- turns for so many grants, before the first of which the owner does something
abbrev pub walk_turns : (OfLens → OfLens) → ℕ → List ℕ → List Request
walk_turns first g grants = to_walk first g ∷ map (to_walk as_is) grants

abbrev pub replay_turns : (OfLens → OfLens) → ℕ → List ℕ → List Request
replay_turns first g grants = to_replay first g ∷ map (to_replay as_is) grants

-- One plan, the stills of the lenses (each with its own depth, sides and CTU), and one scratch with tables of such lengths. A call for
-- lens l by its door's contract: k is what the scratch holds before it, m what it holds after, of which the contract says only that a
-- refusal keeps it.
module _ (plan : Plan) (stills : ℕ → Still) (t : Tables) where
  abbrev pub WalkTurn : ℕ → OfLens → ℕ → AngularScratch → Stepped → OfLens → AngularScratch → Type 0
  WalkTurn l x grant k r y m =
      (w : World) × WalkGives (stills l) plan t x.walking.progress grant x.source x.walking.world w r (m ≡ k)
      × (y ≡ of_lens x.source (held r.next w) x.replaying)

  abbrev pub ReplayTurn : ℕ → OfLens → ℕ → AngularScratch → Stepped → OfLens → AngularScratch → Type 0
  ReplayTurn l x grant k r y m =
      (d : List ℕ)
      × ReplayGives (stills l) plan t x.replaying.progress grant x.walking.world.residuals x.replaying.world d r (m ≡ k)
      × (y ≡ of_lens x.source x.walking (held r.next d))

  unfoldable pub LensGave : ℕ → OfLens → Request → AngularScratch → Stepped → OfLens → AngularScratch → Type 0
  LensGave l x (to_walk first grant) k r y m = WalkTurn l (first x) grant k r y m
  LensGave l x (to_replay first grant) k r y m = ReplayTurn l (first x) grant k r y m

-- what every lens holds
abbrev pub Lenses : Type 0
Lenses = ℕ → OfLens

abbrev pub Turns : Type 0
Turns = List (Turn Request Stepped)

-- the scratch as three lent slices have it
abbrev pub scratch_of : List ℕ → List ℕ → List ℕ → AngularScratch
scratch_of refs indices fractions = record { refs = refs; indices = indices; fractions = fractions }

-- all of one plan and one scratch
module _ (plan : Plan) (stills : ℕ → Still) (t : Tables) where
  abbrev lens_task : ℕ → Task
  lens_task l = task (stills l) plan

  abbrev Taken : Lenses → Turns → Lenses → Type 0
  Taken = Together (LensGave plan stills t)

  -- A lens that walks to the plan's end in a list of turns: what it begins with has a fresh record and is not refused, and its grants
  -- reach the count of blocks.
  pub record WalksOut (l : ℕ) (x : Lenses) (turns : Turns) (y : Lenses) : Type 0 where
    pub taken : Taken x turns y
    pub first : OfLens → OfLens
    pub grant : ℕ
    pub grants : List ℕ
    pub asked : asks_in (own l turns) ≡ walk_turns first grant grants
    pub world : World
    pub begun : (first (x l)).walking ≡ fresh world
    pub served : Served (walk_verdict_at (lens_task l) (first (x l)).source (fresh world) t)
    pub enough : count (lens_task l) ≤ sum (grant ∷ grants)

  -- a lens that replays such residuals over such a plane in a list of turns
  pub record ReplaysOut (l : ℕ) (residuals : List ℤ) (plane : List ℕ) (x : Lenses) (turns : Turns) (y : Lenses) : Type 0 where
    pub taken : Taken x turns y
    pub first : OfLens → OfLens
    pub grant : ℕ
    pub grants : List ℕ
    pub asked : asks_in (own l turns) ≡ replay_turns first grant grants
    pub given : (first (x l)).walking.world.residuals ≡ residuals
    pub begun : (first (x l)).replaying ≡ fresh plane

  -- as many blocks as it is granted
  abbrev pub blocks_granted : {l : ℕ} {residuals : List ℤ} {plane : List ℕ} {x : Lenses} {turns : Turns} {y : Lenses}
      → ReplaysOut l residuals plane x turns y → ℕ
  blocks_granted {l} h = min (sum (h.grant ∷ h.grants)) (count (lens_task l))

  -- every turn of the lens was answered with the number 0
  abbrev pub NoneRefused : ℕ → Turns → Type 0
  NoneRefused l turns = Each (λ (r : Stepped). r.no ≡ 0) (answers_in (own l turns))

  pub record LensesPromise : Type 0 where
    -- Whatever the lenses ask for, in whatever order, there are such turns.
    pub any_order : (x : Lenses) (wanted : List (ℕ × Request)) → (turns : Turns) × (y : Lenses) × Taken x turns y
        × (map (λ (u : Turn Request Stepped). (u.lens, u.ask)) turns ≡ wanted)
    -- Any list of turns: those of one lens, taken out of it, are turns of that lens alone, with these answers and this end.
    pub own_alone : (x : Lenses) (turns : Turns) (y : Lenses) → Taken x turns y → (l : ℕ)
        → Alone (LensGave plan stills t) l (x l) (own l turns) (y l)
    -- And whatever turns that lens takes alone, asking the same with a scratch that holds anything, are answered the same and end the same.
    pub as_if_alone : (x : Lenses) (turns : Turns) (y : Lenses) → Taken x turns y → (l : ℕ) (alone : Turns) (z : OfLens)
        → Alone (LensGave plan stills t) l (x l) alone z → asks_in alone ≡ asks_in (own l turns)
        → (answers_in alone ≡ answers_in (own l turns)) × (z ≡ y l)
    -- A refused turn leaves the lens and the scratch as they were when the call began.
    pub refused_turn : (l : ℕ) (x : OfLens) (a : Request) (k : AngularScratch) (r : Stepped) (y : OfLens) (m : AngularScratch)
        → LensGave plan stills t l x a k r y m → (r.no ≡ 0 → ⊥) → (y ≡ start_of a x) × (m ≡ k)
    -- A list of turns may be parted at any turn. So what follows is said too of a lens that begins, or begins again, where others are
    -- half done.
    pub from_there : (x : Lenses) (before after : Turns) (z : Lenses) → Taken x (before ++ after) z
        → (y : Lenses) × Taken x before y × Taken y after z
    -- Demand 3 of each lens, whatever turns the others take. Its walk to the plan's end is lossless.
    pub walk_each : (l : ℕ) (x : Lenses) (turns : Turns) (y : Lenses) (h : WalksOut l x turns y)
        → NoneRefused l turns × LosslessWalk (lens_task l) (h.first (x l)).source (y l).walking
    -- The residuals of that walk, replayed over a plane of any contents, among any turns of others: each block done holds the source again,
    -- and all blocks the whole of it.
    pub replay_each : (l : ℕ) (x : Lenses) (turns : Turns) (y : Lenses) (h : WalksOut l x turns y)
        → (plane : List ℕ) → Whole (stills l) plane
        → (u : Lenses) (more : Turns) (v : Lenses) (k : ReplaysOut l (y l).walking.world.residuals plane u more v)
        → NoneRefused l more × Replayed (lens_task l) (h.first (x l)).source plane (blocks_granted k) (v l).replaying
    pub same_each : (l : ℕ) (x : Lenses) (turns : Turns) (y : Lenses) (h : WalksOut l x turns y)
        → (plane : List ℕ) → Whole (stills l) plane
        → (u : Lenses) (more : Turns) (v : Lenses) (k : ReplaysOut l (y l).walking.world.residuals plane u more v)
        → blocks_granted k ≡ count (lens_task l) → (v l).replaying.world ≡ (h.first (x l)).source
    -- Any residuals that a replay takes: two replays of as many blocks agree on those blocks, however their planes began and whatever turns
    -- the others took beside the one and beside the other.
    pub altered_each : (l : ℕ) (residuals : List ℤ) (a b : List ℕ)
        → Served (replay_verdict_at (lens_task l) residuals (fresh a) t) → Whole (stills l) b
        → (x : Lenses) (turns : Turns) (y : Lenses) (h : ReplaysOut l residuals a x turns y)
        → (u : Lenses) (more : Turns) (v : Lenses) (k : ReplaysOut l residuals b u more v) → blocks_granted h ≡ blocks_granted k
        → (r c : ℕ) → Covered (blocks (lens_task l)) (blocks_granted h) r c
        → sample_at (stills l) (y l).replaying.world r c ≡ sample_at (stills l) (v l).replaying.world r c

-- The doors take such turns, by their contracts: what is lent is named as in the code, `now` is what it holds and e what there is at exit.
pub record LensDoors : Type 2 where
  pub turn_walk_numbers : (κs : Lfts 10) (stills : ℕ → Still) (l : ℕ) (self : Progress)
      (rows cols sides modes source : Bor (List ℕ)) (work : MutBor (List ℕ)) (residuals : MutBor (List ℤ)) (refs indices fractions : MutBor (List ℕ)) (grant : ℕ)
      (other : Held (List ℕ)) (a : Result Advance Rejected) (e : AtExit walk-numbers.ended κs)
      → walk-numbers-contract.Post κs
      (self, (stills l, (rows, (cols, (sides, (modes, (source, (work, (residuals, (refs, (indices, (fractions, (grant, tt))))))))))))) a e
      → let s = e.1.1.1.1.1.1.1 in
      LensGave (plan_of rows.now cols.now sides.now modes.now) stills (tables refs.now indices.now fractions.now) l
      (of_lens source.now (held self (world work.now residuals.now)) other) (to_walk as_is grant)
      (scratch_of refs.now indices.now fractions.now) (stepped_of a)
      (of_lens source.now (held (stepped_of a).next (world s.0.now s.1.0.now)) other)
      (scratch_of s.1.1.0.now s.1.1.1.0.now s.1.1.1.1.0.now)
  pub turn_replay_numbers : (κs : Lfts 9) (stills : ℕ → Still) (l : ℕ) (self : Progress) (rows cols sides modes : Bor (List ℕ))
      (residuals : Bor (List ℤ)) (plane refs indices fractions : MutBor (List ℕ)) (grant : ℕ)
      (source work : List ℕ) (other : Progress) (a : Result Advance Rejected) (e : AtExit replay-numbers.ended κs)
      → replay-numbers-contract.Post κs
      (self, (stills l, (rows, (cols, (sides, (modes, (residuals, (plane, (refs, (indices, (fractions, (grant, tt)))))))))))) a e
      → let s = e.1.1.1.1.1.1.1 in
      LensGave (plan_of rows.now cols.now sides.now modes.now) stills (tables refs.now indices.now fractions.now) l
      (of_lens source (held other (world work residuals.now)) (held self plane.now)) (to_replay as_is grant)
      (scratch_of refs.now indices.now fractions.now) (stepped_of a)
      (of_lens source (held other (world work residuals.now)) (held (stepped_of a).next s.0.now))
      (scratch_of s.1.0.now s.1.1.0.now s.1.1.1.0.now)
  -- the doors over records, said of their clauses: a clause is an assertion of any model, and entails the same
  pub turn_walk : {M : Type 1} {𝓤 : Ura M} (𝓛 : Logic 𝓤) (mem : Memory → SProp 𝓤) (run : Routine → Fun 𝓤) (κs : Lfts 5)
      (stills : ℕ → Still) (l : ℕ) (self : Progress) (plan : Bor (List Block)) (source : Bor (List ℕ)) (work : MutBor (List ℕ)) (residuals : MutBor (List ℤ))
      (scratch : MutBor AngularScratch) (grant : ℕ) (other : Held (List ℕ)) (a : Result Advance Rejected) (e : AtExit walk-records.ended κs)
      → let s = e.1.1.1.1 in
      ent 𝓤
      ((walk-records.clauses 𝓛 mem run κs
      (self, (stills l, (plan, (source, (work, (residuals, (scratch, (grant, tt))))))))).ensures tt a e)
      (fact 𝓤 (LensGave (listed plan.now) stills scratch_tables l
      (of_lens source.now (held self (world work.now residuals.now)) other) (to_walk as_is grant) scratch.now (stepped_of a)
      (of_lens source.now (held (stepped_of a).next (world s.0.now s.1.0.now)) other) s.1.1.0.now))
  pub turn_replay : {M : Type 1} {𝓤 : Ura M} (𝓛 : Logic 𝓤) (mem : Memory → SProp 𝓤) (run : Routine → Fun 𝓤) (κs : Lfts 4)
      (stills : ℕ → Still) (l : ℕ) (self : Progress) (plan : Bor (List Block)) (residuals : Bor (List ℤ)) (plane : MutBor (List ℕ))
      (scratch : MutBor AngularScratch) (grant : ℕ) (source work : List ℕ) (other : Progress) (a : Result Advance Rejected)
      (e : AtExit replay-records.ended κs)
      → let s = e.1.1.1.1 in
      ent 𝓤 ((replay-records.clauses 𝓛 mem run κs
      (self, (stills l, (plan, (residuals, (plane, (scratch, (grant, tt)))))))).ensures tt a e)
      (fact 𝓤 (LensGave (listed plan.now) stills scratch_tables l
      (of_lens source (held other (world work residuals.now)) (held self plane.now)) (to_replay as_is grant) scratch.now (stepped_of a)
      (of_lens source (held other (world work residuals.now)) (held (stepped_of a).next s.0.now)) s.1.0.now))
