-- What a form over slices says at the tables of a scratch, and what the form over the struct says: the lengths are those of the struct's type. Assumes nothing.
use mathlib.Core.Path.{◌≡◌, ◌∙◌}
use Prim.Native.Nat.{ℕ}
use mathlib.Core.List.{List}
use lib.ListN.{length}
use Rattle.laws.specs.Choose.{served}
use Rattle.predict.specs.refusals.Refusals.{Lengths, lengths}
use Rattle.predict.specs.declared.scratch.AngularScratch.{AngularScratch}
use Rattle.predict.specs.Lent.{with_scratch}
use Rattle.predict.proofs.scratch.Tables.{Long}

-- the call's number by what is lent, the lengths of the rows, the work, the block and the scratch before; then the answer, and the scratch and the block after
module _ (number : Lengths → ℕ) (above left : ℕ) (work before : List ℕ) (h : AngularScratch) (r : ℕ) (h' : AngularScratch) (after : List ℕ) where
  abbrev pub Said : Type 0
  Said = (r ≡ number (lengths above left (length before) (length h.refs) (length h.indices) (length h.fractions)))
      × ((after ≡ served r work before) × ((r ≡ 0 → ⊥) → (h'.refs ≡ h.refs) × ((h'.indices ≡ h.indices) × (h'.fractions ≡ h.fractions))))

  abbrev pub Ends : Type 0
  Ends = (r ≡ number (with_scratch above left (length before))) × ((after ≡ served r work before) × ((r ≡ 0 → ⊥) → h' ≡ h))

  pub ends : Long h.refs h.indices h.fractions → Said → Ends
  ends long e = (
    e.0 ∙ (λ i. number (lengths above left (length before) (long.0 i) (long.1.0 i) (long.1.1 i))),
    (e.1.0, λ refused. λ i. record { refs = (e.1.1 refused).0 i; indices = (e.1.1 refused).1.0 i; fractions = (e.1.1 refused).1.1 i }),
  )
