-- A call of walk or of replay as its door has it, and a chain of calls, each given the progress record that the one before handed back.
-- Assumes nothing.
use Rattle.std.specs.Prelude.{ℕ, ◌+◌, ◌*◌, ◌≡◌, true, List, [], ◌∷◌, map, ℤ, pos, length, get_or}
use Rattle.laws.specs.Chain.{sum}
use Rattle.plan.specs.declared.tiling.Block.{Block}
use Rattle.plan.specs.Answers.{Verdict}
use Rattle.plan.specs.tiling.Tiling.{place}
use Rattle.plan.specs.tiling.Plan.{Plan}
use Rattle.walk.specs.declared.checks.Still.{Still}
use Rattle.walk.specs.declared.Progress.{Progress}
use Rattle.walk.specs.block.Walked.{World}
use Rattle.walk.specs.checks.Checks.{Tables, is_roomy}
use Rattle.walk.specs.calls.Door.{walk_verdict, walk_after, replay_verdict, replay_after}
use Rattle.walk.specs.Door.{stepped_by}

-- what all calls share: the still and its plan
pub record Task : Type 0 where
  pub still : Still
  pub plan : Plan

abbrev pub task : Still → Plan → Task
task s p = record { still = s; plan = p }

-- what one call is given beside the record: how many blocks it may do, and scratch tables of such lengths
pub record Ask : Type 0 where
  pub grant : ℕ
  pub tables : Tables

abbrev pub ask : ℕ → Tables → Ask
ask g t = record { grant = g; tables = t }

-- scratch that is long enough
abbrev pub Roomy : Ask → Type 0
Roomy a = is_roomy a.tables ≡ true

-- all that is granted
abbrev pub granted : List Ask → ℕ
granted asks = sum (map (λ (a : Ask). a.grant) asks)

-- the blocks of the plan, and their number
abbrev pub blocks : Task → ℕ → Block
blocks j = j.plan.block

abbrev pub count : Task → ℕ
count j = j.plan.count

-- residual (r, c) of block i: blocks consecutive in plan order, each in rows
abbrev pub residual_at : Task → List ℤ → ℕ → ℕ → ℕ → ℤ
residual_at j residuals i r c = get_or residuals (place (blocks j) i + r * (blocks j i).side + c) (pos 0)

-- between two calls: the progress record, and what the calls write
pub record Held (W : Type 0) : Type 0 where
  pub progress : Progress
  pub world : W

abbrev pub held : {W : Type 0} → Progress → W → Held W
held p w = record { progress = p; world = w }

-- at the start nothing is done
abbrev pub fresh : {W : Type 0} → W → Held W
fresh w = held (record { done = 0 }) w

-- a call of walk: the record that it hands back, the work plane and the residuals that it leaves
abbrev pub walk_verdict_at : Task → List ℕ → Held World → Tables → Verdict
walk_verdict_at j source x t = walk_verdict j.still j.plan t x.progress.done source x.world

abbrev pub walk_call : Task → List ℕ → Held World → Ask → Held World
walk_call j source x a =
    record {
      progress = (stepped_by (walk_verdict_at j source x a.tables) j.plan x.progress a.grant).next;
      world = walk_after j.still j.plan a.tables x.progress.done a.grant source x.world;
    }

-- a call of replay: the record that it hands back, the plane that it leaves
abbrev pub replay_verdict_at : Task → List ℤ → Held (List ℕ) → Tables → Verdict
replay_verdict_at j residuals x t = replay_verdict j.still j.plan t x.progress.done (length x.world) residuals

abbrev pub replay_call : Task → List ℤ → Held (List ℕ) → Ask → Held (List ℕ)
replay_call j residuals x a =
    record {
      progress = (stepped_by (replay_verdict_at j residuals x a.tables) j.plan x.progress a.grant).next;
      world = replay_after j.still j.plan a.tables x.progress.done a.grant residuals x.world;
    }

-- a call that is not refused
abbrev pub Served : Verdict → Type 0
Served v = v.no ≡ 0

-- a chain of calls, each given what the one before handed back
unfoldable pub calls : {S A : Type 0} → (S → A → S) → S → List A → S
calls call x [] = x
calls call x (a ∷ l) = calls call (call x a) l

-- calls that were made one after the other, each given what the one before handed back; `gave` says what one call gave
unfoldable pub Made : {S A : Type 0} → (S → A → S → Type 0) → S → List A → S → Type 0
Made gave x [] y = y ≡ x
Made {S} gave x (a ∷ l) y = (z : S) × gave x a z × Made gave z l y

-- every call of a chain has the number 0
unfoldable pub AllServed : {S A : Type 0} → (S → A → ℕ) → (S → A → S) → S → List A → Type 0
AllServed number call x [] = Unit {0}
AllServed number call x (a ∷ l) = (number x a ≡ 0) × AllServed number call (call x a) l

abbrev pub WalksServed : Task → List ℕ → Held World → List Ask → Type 0
WalksServed j source = AllServed (λ (x : Held World) (a : Ask). (walk_verdict_at j source x a.tables).no) (walk_call j source)

abbrev pub ReplaysServed : Task → List ℤ → Held (List ℕ) → List Ask → Type 0
ReplaysServed j residuals =
    AllServed (λ (x : Held (List ℕ)) (a : Ask). (replay_verdict_at j residuals x a.tables).no) (replay_call j residuals)

-- every entry of a list is so
unfoldable pub Each : {A : Type 0} → (A → Type 0) → List A → Type 0
Each p [] = Unit {0}
Each p (a ∷ l) = p a × Each p l
