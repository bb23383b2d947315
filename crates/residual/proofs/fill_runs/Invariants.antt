use Rattle.std.proofs.Common.{◌≡◌, ℕ, ◌+◌, ◌*◌, ◌<◌, get_or, replicate}
use Rattle.laws.specs.Fill.{fill, run}
use Rattle.residual.proofs.fill_runs.Given as goal

abbrev pub invariant-loop-r : goal.invariant-loop-r
invariant-loop-r g l =
    (f : ℕ → _) → ((i : ℕ) (v : _) → i < l.runs * 16 → goal.F-post g l.entry i v → v ≡ f i) → l.out ≡ fill f (l.r * 16) l.initial.out

abbrev pub invariant-loop-j : goal.invariant-loop-j
invariant-loop-j g l =
    (f : ℕ → _) → ((i : ℕ) (v : _) → i < l.runs * 16 → goal.F-post g l.entry i v → v ≡ f i)
    → l.run ≡ fill (λ (j : ℕ). f (l.r * 16 + j)) l.j (replicate 16 l.zero)

abbrev pub invariant-loop-j-2 : goal.invariant-loop-j-2
invariant-loop-j-2 g l = l.out ≡ run (λ (j : ℕ). get_or l.run j l.zero) (l.r * 16) l.j l.initial.out
