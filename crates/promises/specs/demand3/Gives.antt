-- What one call of a door gives, from the two equations of its contract: the call of Calls, and, of one that is served, the blocks that it
-- does. Rests on what a run of blocks leaves (Blocks) and on what it means that a call is served (Accept).
use Rattle.std.specs.Prelude.{◌≡◌, refl, List, ℕ, ◌-◌, ◌<◌, min, ℤ}
use Rattle.std.proofs.Math.Path.{sym}
use Rattle.std.proofs.Common.{ap, ◌∙◌, subst, arith}
use Rattle.std.proofs.Math.Decide.{ℕ_discrete}
use Rattle.laws.specs.Choose.{worked, unserved}
use Rattle.laws.specs.Every.{most_at}
use Rattle.plan.specs.Answers.{Verdict}
use Rattle.plan.specs.tiling.Plan.{Plan}
use Rattle.plan.specs.tiling.Tiling.{place}
use Rattle.walk.specs.declared.checks.Still.{Still}
use Rattle.walk.specs.declared.Progress.{Progress}
use Rattle.walk.specs.Answers.{Stepped}
use Rattle.walk.specs.block.Predicted.{sample_at}
use Rattle.walk.specs.block.Rebuilt.{replay_unit}
use Rattle.walk.specs.block.Walked.{World, stored, walked, walk_unit}
use Rattle.walk.specs.calls.Door.{replay_after, walk_after}
use Rattle.walk.specs.Door.{stepped_by}
use Rattle.walk.specs.lossless.Picture.{rebuild_out, store_out, replays, sourced}
use Rattle.walk.proofs.Walks.{walks_plan}
use Rattle.walk.specs.lossless.Replay.{units_kept}
use Rattle.promises.specs.demand3.Calls.{Task, Ask, Held, held, blocks, count, residual_at, walk_verdict_at, walk_call}
use Rattle.promises.specs.demand3.Calls.{replay_verdict_at, replay_call}
use Rattle.promises.specs.demand3.Chains.{next, does, refuses}
use Rattle.promises.specs.demand3.Accept.{Walking, Replaying, walk_told, replay_told, walk_steps, replay_steps}
use Rattle.promises.specs.demand3.Blocks.{replay_settled, walk_settled}
use Rattle.promises.specs.demand3.Spots.{at, spot, spot_of, spot_residual, spot_less, spot_added}
use Rattle.promises.specs.demand3.Demand3.{WalkDoes, ReplayDoes, WalkGave, ReplayGave}

-- what calls that are served do together
module _ (j : Task) where
  abbrev s : Still
  s = j.still

  pub walk_done : (source : List ℕ) (x : Held World) (grant : ℕ) → Walking j source x
      → WalkDoes j source x (min grant (count j - x.progress.done)) (next (walk_unit s (blocks j) source) (count j) x grant)
  unfolding walked
  walk_done source x grant f =
      let ok = f.asked.plan_ok in
      let depth = f.asked.depth in
      let few = f.asked.few in
      let unit = walk_unit s (blocks j) source in
      let y = next unit (count j) x grant in
      let settled = walk_settled (replays s (blocks j) (count j) ok depth)
      (sourced s (blocks j) (count j) ok depth source f.source_whole (λ t. most_at _ source f.samples _))
      (walks_plan s (blocks j) (count j) ok depth source) x.progress.done (min grant (count j - x.progress.done)) x.world
      (omega arith) f.work_whole f.residuals_whole in
      record {
        done = refl;
        residuals = λ i r c d hr hc.
            let l : i < count j = omega (arith, d.1) in
            spot_less s (blocks j) (count j) ok i r c l hr hc _ y.world.residuals y.world.work
            (settled i (spot s (blocks j) (count j) ok i r c l hr hc) d.0 d.1 (spot_of s (blocks j) (count j) ok i r c l hr hc)).1;
        reconstructed = λ i r c d hr hc.
            let l : i < count j = omega (arith, d.1) in
            (settled i (spot s (blocks j) (count j) ok i r c l hr hc) d.0 d.1 (spot_of s (blocks j) (count j) ok i r c l hr hc)).0;
        samples_kept = λ r c h n.
            units_kept unit (λ (u : World). sample_at s u.work r c) _ _ x.world
            (λ i u a b. rebuild_out s (blocks j) (count j) ok depth i _ u.work (omega arith) (at r c h) (λ o. n i (a, b) o));
        residuals_kept = λ i r c l hr hc n.
            units_kept unit (λ (u : World). residual_at j u.residuals i r c) _ _ x.world
            (λ m u a b.
            sym (spot_residual s (blocks j) (count j) ok i r c l hr hc
            (stored s source (blocks j m) (place (blocks j) m) u.work u.residuals))
            ∙ store_out s (blocks j) (count j) ok depth source m u.work u.residuals i (spot s (blocks j) (count j) ok i r c l hr hc)
            (λ e. n (omega (arith, e), omega (arith, e))) (spot_of s (blocks j) (count j) ok i r c l hr hc)
            ∙ spot_residual s (blocks j) (count j) ok i r c l hr hc u.residuals);
      }

  pub replay_done : (residuals : List ℤ) (x : Held (List ℕ)) (grant : ℕ) → Replaying j residuals x
      → ReplayDoes j residuals x (min grant (count j - x.progress.done)) (next (replay_unit s (blocks j) residuals) (count j) x grant)
  replay_done residuals x grant f =
      let ok = f.asked.plan_ok in
      let depth = f.asked.depth in
      let few = f.asked.few in
      let unit = replay_unit s (blocks j) residuals in
      let y = next unit (count j) x grant in
      record {
        done = refl;
        rebuilt = λ i r c d hr hc.
            let l : i < count j = omega (arith, d.1) in
            spot_added s (blocks j) (count j) ok i r c l hr hc _ residuals y.world
            (replay_settled (replays s (blocks j) (count j) ok depth) residuals x.progress.done
            (min grant (count j - x.progress.done)) x.world (omega arith) f.plane_whole
            i (spot s (blocks j) (count j) ok i r c l hr hc) d.0 d.1 (spot_of s (blocks j) (count j) ok i r c l hr hc));
        samples_kept = λ r c h n.
            units_kept unit (λ (u : List ℕ). sample_at s u r c) _ _ x.world
            (λ i u a b. rebuild_out s (blocks j) (count j) ok depth i residuals u (omega arith) (at r c h) (λ o. n i (a, b) o));
      }

-- an answer by its verdict
module _ (v : Verdict) (plan : Plan) (p : Progress) (grant : ℕ) {r : Stepped} (e : r ≡ stepped_by v plan p grant) where
  number_of : r.no ≡ v.no
  number_of = go (ℕ_discrete v.no 0)
    where
      go : Dec (v.no ≡ 0) → r.no ≡ v.no
      go (yes z) = ap (λ (t : Stepped). t.no) (e ∙ sym (worked v.no _ _ z)) ∙ sym z
      go (no n) = ap (λ (t : Stepped). t.no) (e ∙ sym (unserved v.no _ _ n))

  did_served : v.no ≡ 0 → r.did ≡ min grant (plan.count - p.done)
  did_served z = ap (λ (t : Stepped). t.did) (e ∙ sym (worked v.no _ _ z))

  did_refused : (v.no ≡ 0 → ⊥) → r.did ≡ 0
  did_refused n = ap (λ (t : Stepped). t.did) (e ∙ sym (unserved v.no _ _ n))

pub walk_gave : (j : Task) (source : List ℕ) (x : Held World) (a : Ask) (r : Stepped) (after : World)
    → r ≡ stepped_by (walk_verdict_at j source x a.tables) j.plan x.progress a.grant
    → after ≡ walk_after j.still j.plan a.tables x.progress.done a.grant source x.world
    → WalkGave j source x a r (held r.next after)
walk_gave j source x a r after e f =
    let v = walk_verdict_at j source x a.tables in
    let no = number_of v j.plan x.progress a.grant e in
    let left : held r.next after ≡ walk_call j source x a = λ i. held (e i).next (f i) in
    record {
      number = no;
      left = left;
      counted = λ z.
          let zero = sym no ∙ z in
          let did = did_served v j.plan x.progress a.grant e zero in (
            did,
            subst (WalkDoes j source x r.did) (sym (left ∙ does (walk_steps j source) x a zero))
                (subst (λ (k : ℕ). WalkDoes j source x k (next (walk_unit j.still (blocks j) source) (count j) x a.grant)) (sym did)
                (walk_done j source x a.grant (walk_told j source x a.tables zero))),
          );
      refused = λ n.
          let nonzero : v.no ≡ 0 → ⊥ = λ z. n (no ∙ z) in
          (did_refused v j.plan x.progress a.grant e nonzero, left ∙ refuses (walk_steps j source) x a nonzero);
    }

pub replay_gave : (j : Task) (residuals : List ℤ) (x : Held (List ℕ)) (a : Ask) (r : Stepped) (after : List ℕ)
    → r ≡ stepped_by (replay_verdict_at j residuals x a.tables) j.plan x.progress a.grant
    → after ≡ replay_after j.still j.plan a.tables x.progress.done a.grant residuals x.world
    → ReplayGave j residuals x a r (held r.next after)
replay_gave j residuals x a r after e f =
    let v = replay_verdict_at j residuals x a.tables in
    let no = number_of v j.plan x.progress a.grant e in
    let left : held r.next after ≡ replay_call j residuals x a = λ i. held (e i).next (f i) in
    record {
      number = no;
      left = left;
      counted = λ z.
          let zero = sym no ∙ z in
          let did = did_served v j.plan x.progress a.grant e zero in (
            did,
            subst (ReplayDoes j residuals x r.did) (sym (left ∙ does (replay_steps j residuals) x a zero))
                (subst (λ (k : ℕ). ReplayDoes j residuals x k (next (replay_unit j.still (blocks j) residuals) (count j) x a.grant))
                (sym did)
                (replay_done j residuals x a.grant (replay_told j residuals x a.tables zero))),
          );
      refused = λ n.
          let nonzero : v.no ≡ 0 → ⊥ = λ z. n (no ∙ z) in
          (did_refused v j.plan x.progress a.grant e nonzero, left ∙ refuses (replay_steps j residuals) x a nonzero);
    }
