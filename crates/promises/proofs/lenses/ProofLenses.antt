-- The page Lenses, proved but for the doors (ProofDoors). The contracts' equations give a turn's answer and what it leaves, and name
-- nothing that the scratch holds: so the law of turns holds. A lens's own turns are then a chain of calls, of which demand 3 speaks.
-- Rests on both.
use Rattle.std.specs.Prelude.{◌≡◌, true, ℕ, ◌+◌, min, ℤ}
use Rattle.std.proofs.Math.Path.{refl, sym, ap, subst}
use Rattle.std.proofs.Common.{◌∙◌, arith}
use mathlib.Core.List.{List, [], ◌∷◌, map}
use Rattle.std.proofs.Math.ListN.{length}
use Rattle.laws.specs.Chain.{sum}
use Rattle.predict.specs.declared.scratch.AngularScratch.{AngularScratch}
use Rattle.predict.specs.Lent.{zero_scratch}
use Rattle.plan.specs.tiling.Plan.{Plan}
use Rattle.plan.specs.tiling.Tiling.{Covered}
use Rattle.walk.specs.declared.checks.Still.{Still}
use Rattle.walk.specs.Answers.{Stepped}
use Rattle.walk.specs.checks.Checks.{Tables, is_roomy}
use Rattle.walk.specs.block.Walked.{World}
use Rattle.walk.specs.calls.Laws.{walk_sound, replay_sound}
use Rattle.walk.specs.block.Predicted.{sample_at}
use Rattle.promises.specs.demand3.Calls.{Task, task, Ask, ask, Roomy, granted, Each, Held, fresh, AllServed, calls, Made}
use Rattle.promises.specs.demand3.Calls.{ReplaysServed, blocks, count, walk_verdict_at, walk_call, replay_verdict_at, replay_call}
use Rattle.promises.specs.demand3.Chains.{sum_more}
use Rattle.promises.specs.demand3.Gives.{walk_gave, replay_gave}
use Rattle.promises.specs.demand3.Demand3.{WalksAll, LosslessWalk, Replayed}
use Rattle.promises.proofs.demand3.Proof3.{demand_3}
use Rattle.promises.specs.lenses.TurnLaw.{own, asks_in, answers_in, Alone, Blind, Answered, same_head, same_tail}
use Rattle.promises.proofs.lenses.TurnLaw.{own_turns, taken_so, in_parts, as_alone}
use Rattle.promises.specs.lenses.Lenses.{OfLens, of_lens, Request, to_walk, to_replay, as_is, start_of, WalkTurn, ReplayTurn}
use Rattle.promises.specs.lenses.Lenses.{LensGave, Lenses, Turns, WalksOut, ReplaysOut, LensesPromise}

module _ (plan : Plan) (stills : ℕ → Still) (t : Tables) where
  abbrev task_of : ℕ → Task
  task_of l = task (stills l) plan

  -- no equation of a contract names what the scratch holds
  blind : Blind (LensGave plan stills t)
  unfolding LensGave
  blind l x (to_walk first grant) k k₂ r r₂ y y₂ m m₂ p q =
      let answers = p.1.0 ∙ sym q.1.0 in
      let worlds = p.1.1.0 ∙ sym q.1.1.0 in
      let s = first x in
      (answers, p.2 ∙ (λ i. of_lens s.source (record { progress = (answers i).next; world = worlds i }) s.replaying) ∙ sym q.2)
  blind l x (to_replay first grant) k k₂ r r₂ y y₂ m m₂ p q =
      let answers = p.1.0 ∙ sym q.1.0 in
      let planes = p.1.1.0 ∙ sym q.1.1.0 in
      let s = first x in
      (answers, p.2 ∙ (λ i. of_lens s.source s.walking (record { progress = (answers i).next; world = planes i })) ∙ sym q.2)

  -- its equations say what the answer is
  answered : Answered (LensGave plan stills t)
  unfolding LensGave
  answered l x (to_walk first grant) = (_, _, zero_scratch, zero_scratch, (_, (refl, (refl, λ _. refl)), refl))
  answered l x (to_replay first grant) = (_, _, zero_scratch, zero_scratch, (_, (refl, (refl, λ _. refl)), refl))

  refused_stays : (l : ℕ) (x : OfLens) (a : Request) (k : AngularScratch) (r : Stepped) (y : OfLens) (m : AngularScratch)
      → LensGave plan stills t l x a k r y m → (r.no ≡ 0 → ⊥) → (y ≡ start_of a x) × (m ≡ k)
  unfolding LensGave start_of
  refused_stays l x (to_walk first grant) k r y m p n =
      let s = first x in
      let gave = walk_gave (task_of l) s.source s.walking (ask grant t) r p.0 p.1.0 p.1.1.0 in
      (p.2 ∙ ap (λ (w : Held World). of_lens s.source w s.replaying) (gave.refused n).1, p.1.1.1 n)
  refused_stays l x (to_replay first grant) k r y m p n =
      let s = first x in
      let gave = replay_gave (task_of l) s.walking.world.residuals s.replaying (ask grant t) r p.0 p.1.0 p.1.1.0 in
      (p.2 ∙ ap (λ (w : Held (List ℕ)). of_lens s.source s.walking w) (gave.refused n).1, p.1.1.1 n)

  abbrev asks_for : List ℕ → List Ask
  asks_for = map (λ (g : ℕ). ask g t)

  abbrev Numbered0 : Stepped → Type 0
  Numbered0 r = r.no ≡ 0

  -- turns of one lens that all walk, or all replay, are a chain of calls on the part of it that they write
  module _ {W : Type 0} (l : ℕ) (lens : Held W → OfLens) (to : (OfLens → OfLens) → ℕ → Request) (call : Held W → Ask → Held W)
      (number : Held W → Ask → ℕ)
      (gives : (first : OfLens → OfLens) (x : OfLens) (h : Held W) (g : ℕ) (k : AngularScratch) (r : Stepped) (y : OfLens)
      (m : AngularScratch) → first x ≡ lens h → LensGave plan stills t l x (to first g) k r y m
      → (r.no ≡ number h (ask g t)) × (y ≡ lens (call h (ask g t))))
    where
      abbrev Chained : Held W → List ℕ → Turns → OfLens → Type 0
      Chained h grants turns y =
          (AllServed number call h (asks_for grants) → Each Numbered0 (answers_in turns)) × (y ≡ lens (calls call h (asks_for grants)))

      -- a first turn and the others
      phase_begun : (first : OfLens → OfLens) (x : OfLens) (h : Held W) → first x ≡ lens h → (g : ℕ) (grants : List ℕ) (turns : Turns)
          (y : OfLens) → Alone (LensGave plan stills t) l x turns y → asks_in turns ≡ to first g ∷ map (to as_is) grants
          → ((more : Turns) → Alone (LensGave plan stills t) l (lens (call h (ask g t))) more y
          → asks_in more ≡ map (to as_is) grants → Chained (call h (ask g t)) grants more y)
          → Chained h (g ∷ grants) turns y
      unfolding Made AllServed Each calls
      phase_begun first x h s g grants [] y n e more = absurd (let d = ap length e in omega arith)
      phase_begun first x h s g grants (u ∷ turns) y n e more =
          let gave = gives first x h g n.1.0 u.answer n.0 n.1.1 s
          (subst (λ (a : Request). LensGave plan stills t l x a n.1.0 u.answer n.0 n.1.1) (same_head e) n.1.2) in
          let rest = more turns (subst (λ (z : OfLens). Alone (LensGave plan stills t) l z turns y) gave.1 n.2) (same_tail e) in
          (λ served. (gave.0 ∙ served.0, rest.0 served.1), rest.1)

      phase_onward : (h : Held W) (grants : List ℕ) (turns : Turns) (y : OfLens) → Alone (LensGave plan stills t) l (lens h) turns y
          → asks_in turns ≡ map (to as_is) grants → Chained h grants turns y
      unfolding Made AllServed Each calls
      phase_onward h [] [] y n e = (λ _. tt, n)
      phase_onward h [] (u ∷ turns) y n e = absurd (let d = ap length e in omega arith)
      phase_onward h (g ∷ grants) turns y n e =
          phase_begun as_is (lens h) h refl g grants turns y n e (λ more. phase_onward (call h (ask g t)) grants more y)

      phase_chained : (first : OfLens → OfLens) (x : OfLens) (h : Held W) → first x ≡ lens h → (g : ℕ) (grants : List ℕ)
          (turns : Turns) (y : OfLens) → Alone (LensGave plan stills t) l x turns y
          → asks_in turns ≡ to first g ∷ map (to as_is) grants → Chained h (g ∷ grants) turns y
      phase_chained first x h s g grants turns y n e =
          phase_begun first x h s g grants turns y n e (λ more. phase_onward (call h (ask g t)) grants more y)

  -- what the chain is asked for
  all_roomy : is_roomy t ≡ true → (grants : List ℕ) → Each Roomy (asks_for grants)
  unfolding Each
  all_roomy h [] = tt
  all_roomy h (g ∷ grants) = (h, all_roomy h grants)

  all_granted : (grants : List ℕ) → granted (asks_for grants) ≡ sum grants
  all_granted [] = refl
  all_granted (g ∷ grants) = sum_more g _ ∙ ap (λ (n : ℕ). g + n) (all_granted grants) ∙ sym (sum_more g grants)

  -- a lens that walks
  module _ (l : ℕ) (x : Lenses) (turns : Turns) (y : Lenses) (h : WalksOut plan stills t l x turns y) where
    abbrev start : OfLens
    start = h.first (x l)

    abbrev grants : List ℕ
    grants = h.grant ∷ h.grants

    abbrev walked : Held World
    walked = calls (walk_call (task_of l) start.source) (fresh h.world) (asks_for grants)

    walks_gives : (first : OfLens → OfLens) (u : OfLens) (v : Held World) (g : ℕ) (k : AngularScratch) (r : Stepped) (z : OfLens)
        (m : AngularScratch) → first u ≡ of_lens start.source v start.replaying → LensGave plan stills t l u (to_walk first g) k r z m
        → (r.no ≡ (walk_verdict_at (task_of l) start.source v t).no)
        × (z ≡ of_lens start.source (walk_call (task_of l) start.source v (ask g t)) start.replaying)
    unfolding LensGave
    walks_gives first u v g k r z m e p =
        let q = subst (λ (b : OfLens). WalkTurn plan stills t l b g k r z m) e p in
        let gave = walk_gave (task_of l) start.source v (ask g t) r q.0 q.1.0 q.1.1.0 in
        (gave.number, q.2 ∙ ap (λ (w : Held World). of_lens start.source w start.replaying) gave.left)

    walk_chain : Chained l (λ (v : Held World). of_lens start.source v start.replaying) to_walk (walk_call (task_of l) start.source)
        (λ v a. (walk_verdict_at (task_of l) start.source v a.tables).no) walks_gives (fresh h.world) grants (own l turns) (y l)
    walk_chain =
        phase_chained l (λ (v : Held World). of_lens start.source v start.replaying) to_walk (walk_call (task_of l) start.source)
        (λ v a. (walk_verdict_at (task_of l) start.source v a.tables).no) walks_gives h.first (x l) (fresh h.world)
        (λ i. of_lens start.source (h.begun i) start.replaying) h.grant h.grants (own l turns) (y l)
        (own_turns (LensGave plan stills t) x turns y h.taken l) h.asked

    walk_end : (y l).walking ≡ walked
    walk_end = ap (λ (z : OfLens). z.walking) walk_chain.1

    roomy : is_roomy t ≡ true
    roomy = (walk_sound (stills l) plan t 0 start.source h.world h.served).0.tables

    walks_all : WalksAll (task_of l) start.source h.world (asks_for grants)
    walks_all = record {
      tables = t;
      served = h.served;
      room = all_roomy roomy grants;
      enough = omega (arith, h.enough, all_granted grants);
    }

    walk_lossless : Each Numbered0 (answers_in (own l turns)) × LosslessWalk (task_of l) start.source (y l).walking
    walk_lossless =
        let d = demand_3.walk (task_of l) start.source h.world (asks_for grants) walks_all in
        (walk_chain.0 d.0, subst (LosslessWalk (task_of l) start.source) (sym walk_end) d.1)

  -- a lens that replays
  module _ (l : ℕ) (residuals : List ℤ) (plane : List ℕ) (x : Lenses) (turns : Turns) (y : Lenses)
      (h : ReplaysOut plan stills t l residuals plane x turns y)
    where
      abbrev from : OfLens
      from = h.first (x l)

      abbrev times : List ℕ
      times = h.grant ∷ h.grants

      replays_gives : (first : OfLens → OfLens) (u : OfLens) (v : Held (List ℕ)) (g : ℕ) (k : AngularScratch) (r : Stepped) (z : OfLens)
          (m : AngularScratch) → first u ≡ of_lens from.source from.walking v → LensGave plan stills t l u (to_replay first g) k r z m
          → (r.no ≡ (replay_verdict_at (task_of l) from.walking.world.residuals v t).no)
          × (z ≡ of_lens from.source from.walking (replay_call (task_of l) from.walking.world.residuals v (ask g t)))
      unfolding LensGave
      replays_gives first u v g k r z m e p =
          let q = subst (λ (b : OfLens). ReplayTurn plan stills t l b g k r z m) e p in
          let gave = replay_gave (task_of l) from.walking.world.residuals v (ask g t) r q.0 q.1.0 q.1.1.0 in
          (gave.number, q.2 ∙ ap (λ (w : Held (List ℕ)). of_lens from.source from.walking w) gave.left)

      abbrev ReplayChained : List ℤ → Type 0
      ReplayChained v =
          (ReplaysServed (task_of l) v (fresh plane) (asks_for times) → Each Numbered0 (answers_in (own l turns)))
          × ((y l).replaying ≡ calls (replay_call (task_of l) v) (fresh plane) (asks_for times))

      replay_chain : ReplayChained residuals
      replay_chain =
          let c = phase_chained l (λ (v : Held (List ℕ)). of_lens from.source from.walking v) to_replay
          (replay_call (task_of l) from.walking.world.residuals)
          (λ v a. (replay_verdict_at (task_of l) from.walking.world.residuals v a.tables).no) replays_gives h.first (x l)
          (fresh plane)
          (λ i. of_lens from.source from.walking (h.begun i)) h.grant h.grants (own l turns) (y l)
          (own_turns (LensGave plan stills t) x turns y h.taken l) h.asked in
          subst ReplayChained h.given (c.0, ap (λ (z : OfLens). z.replaying) c.1)

  pub lenses_settled : LensesPromise plan stills t
  lenses_settled = record {
    any_order = taken_so (LensGave plan stills t) answered;
    own_alone = own_turns (LensGave plan stills t);
    as_if_alone = as_alone (LensGave plan stills t) blind;
    refused_turn = refused_stays;
    from_there = in_parts (LensGave plan stills t);
    walk_each = walk_lossless;
    replay_each = λ l x turns y h plane long u more v k.
        let j = task_of l in
        let source = (start l x turns y h).source in
        let again = asks_for (k.grant ∷ k.grants) in
        let c = replay_chain l _ plane u more v k in
        let d = demand_3.replay j source h.world (asks_for (h.grant ∷ h.grants)) (walks_all l x turns y h) plane long again
        (all_roomy (roomy l x turns y h) (k.grant ∷ k.grants)) in
        let e = subst (λ (w : Held World). ReplaysServed j w.world.residuals (fresh plane) again
        × Replayed j source plane (min (granted again) (count j)) (calls (replay_call j w.world.residuals) (fresh plane) again))
        (sym (walk_end l x turns y h)) d in
        let did = ap (λ (n : ℕ). min n (count j)) (all_granted (k.grant ∷ k.grants)) in (
          c.0 e.0,
          subst (λ (n : ℕ). Replayed j source plane n (v l).replaying) did
              (subst (Replayed j source plane (min (granted again) (count j))) (sym c.1) e.1),
        );
    same_each = λ l x turns y h plane long u more v k all.
        let j = task_of l in
        let again = asks_for (k.grant ∷ k.grants) in
        let c = replay_chain l _ plane u more v k in
        ap (λ (z : Held (List ℕ)). z.world) c.1
        ∙ ap (λ (w : Held World). (calls (replay_call j w.world.residuals) (fresh plane) again).world) (walk_end l x turns y h)
        ∙ demand_3.same j (start l x turns y h).source h.world (asks_for (h.grant ∷ h.grants)) (walks_all l x turns y h) plane long
        again (all_roomy (roomy l x turns y h) (k.grant ∷ k.grants)) (omega (arith, all, all_granted (k.grant ∷ k.grants)));
    altered_each = λ l residuals a b served long x turns y h u more v k e r c cov.
        let j = task_of l in
        let room = (replay_sound (stills l) plan t 0 (length a) residuals served).0.tables in
        let one = all_granted (h.grant ∷ h.grants) in
        let other = all_granted (k.grant ∷ k.grants) in
        let did = ap (λ (n : ℕ). min n (count j)) one in
        ap (λ (z : Held (List ℕ)). sample_at (stills l) z.world r c) (replay_chain l residuals a x turns y h).1
        ∙ demand_3.altered j residuals a b (asks_for (h.grant ∷ h.grants)) (asks_for (k.grant ∷ k.grants)) t served long
        (all_roomy room (h.grant ∷ h.grants)) (all_roomy room (k.grant ∷ k.grants))
        (did ∙ e ∙ sym (ap (λ (n : ℕ). min n (count j)) other)) r c
        (subst (λ (n : ℕ). Covered (blocks j) n r c) (sym did) cov)
        ∙ sym (ap (λ (z : Held (List ℕ)). sample_at (stills l) z.world r c) (replay_chain l residuals b u more v k).1);
  }
