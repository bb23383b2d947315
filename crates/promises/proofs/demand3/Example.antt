-- A walk that is served: document 01's example for the program, two blocks of 8 by 8 in mode 1, all samples 130. So demand 3 speaks of
-- something.
use Rattle.std.specs.Prelude.{ℕ, ◌+◌, ◌≤◌, ◌≡◌, refl, List, [], ◌∷◌, pos, replicate}
use Rattle.std.proofs.Common.{arith, le-leb}
use Rattle.laws.specs.Choose.{both_same}
use Rattle.laws.specs.Every.{every}
use Rattle.plan.specs.tiling.Plan.{plan_of}
use Rattle.plan.specs.tiling.Check.{ahead_by, ahead, block_number}
use Rattle.plan.specs.tiling.PlanCheck.{verdict_from}
use Rattle.h265.specs.Notation.{halvings}
use Rattle.walk.specs.block.Walked.{World}
use Rattle.walk.specs.Lent.{scratch_tables}
use Rattle.walk.specs.checks.Checks.{settle}
use Rattle.walk.specs.calls.Door.{verdict_of, walk_verdict}
use Rattle.promises.specs.demand3.Calls.{Task, Ask, Roomy, granted, Each, Served, count, fresh, calls, walk_verdict_at, walk_call}
use Rattle.promises.specs.demand3.Calls.{replay_call}
use Rattle.promises.specs.demand3.Chains.{sum_none, sum_more}
use Rattle.promises.specs.demand3.Demand3.{WalksAll}
use Rattle.promises.proofs.demand3.Proof3.{demand_3}

abbrev pub two : Task
two =
    record {
      still = record { bits = 8; frame = record { width = 16; height = 8; ctu = 16 } };
      plan = plan_of (0 ∷ 0 ∷ []) (0 ∷ 8 ∷ []) (8 ∷ 8 ∷ []) (1 ∷ 1 ∷ []);
    }

abbrev pub source : List ℕ
source = replicate 128 130

abbrev pub blank_world : World
blank_world = record { work = replicate 128 0; residuals = replicate 128 (pos 0) }

pub blank_served : Served (walk_verdict_at two source (fresh blank_world) scratch_tables)
unfolding walk_verdict verdict_of settle every verdict_from block_number ahead ahead_by halvings
blank_served = refl

-- block by block, both ways, with scratch of several lengths
abbrev one : ℕ → Ask
one more = record { grant = 1; tables = record { refs = 193 + more; indices = 32; fractions = 32 + more } }

abbrev pub there : List Ask
there = one 0 ∷ one 1 ∷ []

abbrev back : List Ask
back = one 7 ∷ one 0 ∷ []

room : (a b : ℕ) → Each Roomy (one a ∷ one b ∷ [])
unfolding Each
room a b = (wide a, (wide b, tt))
  where
    wide : (k : ℕ) → Roomy (one k)
    wide k = both_same (both_same (le-leb 193 (193 + k) (omega arith)) refl) (le-leb 32 (32 + k) (omega arith))

enough : (a b : ℕ) → count two ≤ granted (one a ∷ one b ∷ [])
enough a b = omega (arith, sum_more 1 (1 ∷ []), sum_more 1 [], sum_none)

pub walked : WalksAll two source blank_world there
walked = record { tables = scratch_tables; served = blank_served; room = room 0 1; enough = enough 0 1 }

-- over zeros
pub same : (calls (replay_call two (calls (walk_call two source) (fresh blank_world) there).world.residuals) (fresh (replicate 128 0))
    back).world
    ≡ source
same = demand_3.same two source blank_world there walked (replicate 128 0) refl back (room 7 0) (enough 7 0)
