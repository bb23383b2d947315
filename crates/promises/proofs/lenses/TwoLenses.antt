-- Document 02's figure of two lenses, turns A B A B: 16 by 8 samples in two blocks of 8 by 8 in mode 1, lens A (0) all 130, lens B (1)
-- with a sample of 256. A's walk is lossless; B is refused with 7 at each turn, and nothing of it changes. Rests on the page Lenses.
use Rattle.std.specs.Prelude.{ℕ, ◌≡◌, refl, replicate}
use Rattle.std.proofs.Common.{sym, ◌∙◌, arith}
use Rattle.std.proofs.Math.Path.{ap, subst}
use mathlib.Core.List.{List, [], ◌∷◌}
use Rattle.laws.specs.Every.{every}
use Rattle.predict.specs.declared.scratch.AngularScratch.{AngularScratch}
use Rattle.walk.specs.declared.checks.Still.{Still}
use Rattle.walk.specs.Answers.{Stepped}
use Rattle.walk.specs.checks.Checks.{settle}
use Rattle.walk.specs.calls.Door.{verdict_of, walk_verdict}
use Rattle.walk.specs.Lent.{scratch_tables}
use Rattle.promises.specs.demand3.Calls.{Held, Made, Served, fresh, walk_verdict_at}
use Rattle.promises.specs.demand3.Chains.{sum_none, sum_more}
use Rattle.promises.specs.demand3.Demand3.{LosslessWalk}
use Rattle.promises.proofs.demand3.Example.{two, source, blank_world, blank_served}
use Rattle.promises.specs.lenses.TurnLaw.{Turn, own, Alone, Together}
use Rattle.promises.specs.lenses.Lenses.{OfLens, of_lens, Request, to_walk, as_is, start_of, LensGave, Lenses, Turns}
use Rattle.promises.proofs.lenses.ProofLenses.{lenses_settled}

abbrev too_bright : List ℕ
too_bright = 256 ∷ replicate 127 130

abbrev both : ℕ → Still
both l = two.still

-- a block a turn
abbrev one_block : ℕ → Stepped → Turn Request Stepped
one_block l r = record { lens = l; ask = to_walk as_is 1; answer = r }

abbrev in_turns : Stepped → Stepped → Stepped → Stepped → Turns
in_turns a b c d = one_block 0 a ∷ one_block 1 b ∷ one_block 0 c ∷ one_block 1 d ∷ []

abbrev seven_at_first : Stepped
seven_at_first = record { no = 7; block = 0; did = 0; next = record { done = 0 } }

module _ (plane : Held (List ℕ)) where
  abbrev lens_b : OfLens
  lens_b = of_lens too_bright (fresh blank_world) plane

  turn_of_b : (k : AngularScratch) (r : Stepped) (y : OfLens) (m : AngularScratch)
      → LensGave two.plan both scratch_tables 1 lens_b (to_walk as_is 1) k r y m → (r ≡ seven_at_first) × (y ≡ lens_b)
  unfolding LensGave start_of walk_verdict verdict_of settle every
  turn_of_b k r y m p =
      let seven : r ≡ seven_at_first = p.1.0 in
      let refused : r.no ≡ 0 → ⊥ = λ z. let e : r.no ≡ 7 = ap (λ (s : Stepped). s.no) seven in absurd (omega (arith, e, z)) in
      (seven, ((lenses_settled two.plan both scratch_tables).refused_turn 1 lens_b (to_walk as_is 1) k r y m p refused).0)

  turns_of_b : (b d : Stepped) (y : OfLens) → Alone (LensGave two.plan both scratch_tables) 1 lens_b (one_block 1 b ∷ one_block 1 d ∷ []) y
      → (b ≡ seven_at_first) × (d ≡ seven_at_first) × (y ≡ lens_b)
  unfolding Made
  turns_of_b b d y m =
      let first = turn_of_b m.1.0 b m.0 m.1.1 m.1.2 in
      let n = m.2 in
      let then = turn_of_b n.1.0 d n.0 n.1.1
      (subst (λ (x : OfLens). LensGave two.plan both scratch_tables 1 x (to_walk as_is 1) n.1.0 d n.0 n.1.1) first.1
      n.1.2) in
      (first.0, then.0, n.2 ∙ then.1)

  pub figure : (x y : Lenses) (a b c d : Stepped) → Together (LensGave two.plan both scratch_tables) x (in_turns a b c d) y
      → x 0 ≡ of_lens source (fresh blank_world) plane → x 1 ≡ lens_b
      → LosslessWalk two source (y 0).walking × (b ≡ seven_at_first) × (d ≡ seven_at_first) × (y 1 ≡ lens_b)
  unfolding own
  figure x y a b c d m at-0 at_1 =
      let page = lenses_settled two.plan both scratch_tables in
      let lens-b = turns_of_b b d (y 1)
      (subst (λ (s : OfLens). Alone (LensGave two.plan both scratch_tables) 1 s (one_block 1 b ∷ one_block 1 d ∷ []) (y 1)) at_1
      (page.own_alone x (in_turns a b c d) y m 1)) in
      let of_a : (x 0).source ≡ source = ap (λ (s : OfLens). s.source) at-0 in
      let lens-a = (page.walk_each 0 x (in_turns a b c d) y (record {
        taken = m;
        first = as_is;
        grant = 1;
        grants = 1 ∷ [];
        asked = refl;
        world = blank_world;
        begun = ap (λ (s : OfLens). s.walking) at-0;
        served = subst (λ (l : List ℕ). Served (walk_verdict_at two l (fresh blank_world) scratch_tables)) (sym of_a) blank_served;
        enough = omega (arith, sum_more 1 (1 ∷ []), sum_more 1 [], sum_none);
      })).1 in
      (subst (λ (l : List ℕ). LosslessWalk two l (y 0).walking) of_a lens-a, lens-b.0, lens-b.1, lens-b.2)
