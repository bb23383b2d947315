-- Demand 3 holds on bytes. Rests on demand 3, on what one call on bytes leaves (camera's replay, Spelt), and on words as bytes.
use Rattle.std.specs.Prelude.{◌≡◌, true, ◌&&◌, ℕ, ◌+◌, ◌-◌, ◌*◌, ◌≤◌, ◌<◌, min, leb, ℤ, length}
use Rattle.std.proofs.Math.Path.{refl, sym, ap}
use Rattle.std.proofs.Common.{◌∙◌, subst, arith, SFits, eq-eqb, le-leb, leb-true}
use mathlib.Core.List.{List, [], ◌∷◌, map}
use Rattle.std.proofs.Math.Decide.{ℕ_discrete}
use Rattle.std.specs.Int.{w32}
use Rattle.laws.specs.Choose.{passed, worked, unserved, both_same, both_true}
use Rattle.laws.specs.Every.{every}
use Rattle.octets.specs.Bytes.{samples_of, bytes_of, residuals_of}
use Rattle.octets.specs.Laws.{length_samples, length_bytes, bytes_back}
use Rattle.plan.specs.Answers.{Verdict}
use Rattle.plan.specs.RecordPlan.{records_of}
use Rattle.walk.specs.declared.Progress.{Progress}
use Rattle.walk.specs.Answers.{Stepped}
use Rattle.samples.specs.deltas.Deltas.{residual_ok}
use Rattle.walk.specs.block.Predicted.{sample_at}
use Rattle.walk.specs.block.Walked.{World}
use Rattle.walk.specs.calls.Laws.{accepted_small}
use Rattle.walk.specs.calls.Steps.{doing_of}
use Rattle.walk.specs.Door.{stepped_by}
use Rattle.walk.specs.Lent.{scratch_tables}
use Rattle.camera.specs.replay.Verdict.{Lent, whole_by, bytes_fit, byte_verdict}
use Rattle.camera.specs.replay.VerdictLaws.{fitting}
use Rattle.camera.specs.replay.Door.{After, next_written, plane_after, result_after, replayed}
use Rattle.camera.specs.replay.Blocks.{samples_back, are_bytes}
use Rattle.camera.specs.replay.Laws.{served_fits}
use Rattle.camera.specs.replay.Spelt.{spelt_verdict, left}
use Rattle.promises.specs.demand3.Calls.{Task, Ask, ask, Roomy, Each, AllServed, ReplaysServed, Held, held, count, fresh, calls}
use Rattle.promises.specs.demand3.Calls.{walk_call, replay_verdict_at, replay_call}
use Rattle.promises.specs.demand3.Chains.{does, made_calls}
use Rattle.promises.specs.demand3.Accept.{walk_told, replay_told, replay_steps}
use Rattle.promises.specs.demand3.Demand3.{Replayed, ReplayDoes, WalksAll}
use Rattle.promises.specs.demand3.Gives.{replay_done}
use Rattle.promises.specs.demand3.Forms.{bytes_listed}
use Rattle.promises.specs.demand3.Words.{words_of, length_words, words_are, residuals_back, in_words, read_back}
use Rattle.promises.proofs.demand3.Proof3.{demand_3}
use Rattle.promises.specs.OnBytes.{ByteJob, ByteAsk, spelt_task, spelt_ask, bytes_granted, spelt, record_in, byte_after, byte_call}
use Rattle.promises.specs.OnBytes.{EachServed, InType, Fits, Long, ByteGave, OnBytes}

-- the scratch that a call makes for itself is long enough
own_room : (asks : List ByteAsk) → Each Roomy (map spelt_ask asks)
unfolding Each
own_room [] = tt
own_room (a ∷ l) = (refl, own_room l)

module _ (b : ByteJob) where
  abbrev j : Task
  j = spelt_task b

  abbrev v : List ℤ
  v = residuals_of b.residuals

  -- one call
  module _ (x : Held (List ℕ)) (a : ByteAsk) where
    abbrev given : Lent
    given = record { plan = b.plan; residuals = b.residuals; plane = length x.world; result = length a.result }

    abbrev verdict : Verdict
    verdict = byte_verdict b.still x.progress.done given

    number_is : (byte_after b x a).number ≡ verdict.no
    unfolding replayed
    number_is = refl

    plane_is : (byte_after b x a).plane ≡ plane_after b.still x.progress.done given a.grant x.world
    unfolding replayed
    plane_is = refl

    module _ (f : Fits b x) (long : Long a) where
      fit : bytes_fit b.still given ≡ true
      fit = both_same (both_same (both_same (eq-eqb _ _ f.plane) (eq-eqb _ _ f.residuals)) f.records)
          (le-leb 8 (length a.result) long)

      verdict_is : verdict ≡ replay_verdict_at j v (spelt x) scratch_tables
      verdict_is = spelt_verdict b.still x.progress.done given a.grant x.world refl fit f.in_type.0

      -- the next record is a word, and it is the one that the replay hands back
      next_is : record { done = next_written b.still x.progress.done given a.grant }
          ≡ (stepped_by verdict (records_of b.plan) x.progress a.grant).next
      next_is = go (ℕ_discrete verdict.no 0)
        where
          go : Dec (verdict.no ≡ 0) → record { done = next_written b.still x.progress.done given a.grant }
              ≡ (stepped_by verdict (records_of b.plan) x.progress a.grant).next
          go (yes z) =
              ap (λ (k : ℕ). record { done = k }) (sym (worked verdict.no _ _ z))
              ∙ ap (λ (t : Stepped). t.next) (worked verdict.no _ _ z)
          go (no n) =
              ap (λ (k : ℕ). record { done = k }) (sym (unserved verdict.no _ _ n))
              ∙ ap (λ (t : Stepped). t.next) (unserved verdict.no _ _ n)

      next_word : next_written b.still x.progress.done given a.grant < 4294967296
      next_word = go (ℕ_discrete verdict.no 0)
        where
          go : Dec (verdict.no ≡ 0) → next_written b.still x.progress.done given a.grant < 4294967296
          go (yes z) =
              let t = replay_told j v (spelt x) scratch_tables (ap (λ (u : Verdict). u.no) (sym verdict_is) ∙ z) in
              let small = accepted_small b.still.frame (records_of b.plan) t.asked.plan_ok in
              let few = t.asked.few in
              subst (λ (k : ℕ). k < 4294967296) (worked verdict.no _ _ z) (omega arith)
          go (no n) = subst (λ (k : ℕ). k < 4294967296) (unserved verdict.no _ _ n) f.in_type.1

      record_is : record_in (byte_after b x a).result ≡ record { done = next_written b.still x.progress.done given a.grant }
      unfolding replayed result_after
      record_is = read_back _ _ a.result long next_word

      call_spells : spelt (byte_call b x a) ≡ replay_call j v (spelt x) (spelt_ask a)
      call_spells =
          let l = left b.still x.progress.done given a.grant x.world refl fit f.in_type.0 in
          let p = record_is ∙ next_is ∙ ap (λ (u : Verdict). (stepped_by u (records_of b.plan) x.progress a.grant).next) verdict_is in
          let q = ap samples_of plane_is ∙ l.spells in
          λ i. held (p i) (q i)

      call_fits : Fits b (byte_call b x a)
      call_fits =
          let l = left b.still x.progress.done given a.grant x.world refl fit f.in_type.0 in
          record {
            plane = ap length plane_is ∙ l.long ∙ f.plane;
            residuals = f.residuals;
            records = f.records;
            in_type = (λ i. rw plane_is (l.are i), subst (λ (p : Progress). p.done < 4294967296) (sym record_is) next_word);
          }

      served_is : (byte_after b x a).number ≡ (replay_verdict_at j v (spelt x) scratch_tables).no
      served_is = number_is ∙ ap (λ (u : Verdict). u.no) verdict_is

    -- a call that is served fits
    fits_of : (byte_after b x a).number ≡ 0 → InType x → Fits b x × Long a
    fits_of z lent =
        let e = served_fits b.still x.progress.done given (sym number_is ∙ z) in
        let f = fitting b.still given e in
        let fitted = whole_by b.still 2 (length x.world) && whole_by b.still 4 (length b.residuals) && (records_of
        b.plan).whole in (
          record { plane = f.plane; residuals = f.residuals; records = f.records; in_type = lent },
          leb-true 8 (length a.result)
              (both_true fitted (leb 8 (length a.result)) e).1,
        )

    -- one that is refused changes nothing
    refused_keeps : ((byte_after b x a).number ≡ 0 → ⊥) → InType x → ((byte_after b x a).plane ≡ x.world)
        × (Long a → record_in (byte_after b x a).result ≡ x.progress)
    unfolding replayed plane_after result_after
    refused_keeps n lent =
        let next = unserved verdict.no (x.progress.done + doing_of (records_of b.plan).count x.progress.done a.grant)
        x.progress.done n in (
          sym (unserved verdict.no _ x.world n),
          λ long. read_back _ _ a.result long (subst (λ (k : ℕ). k < 4294967296) next lent.1)
              ∙ ap (λ (k : ℕ). record { done = k }) (sym next),
        )

  -- any calls
  chain_spells : (x : Held (List ℕ)) (asks : List ByteAsk) → Fits b x → Each Long asks
      → (spelt (calls (byte_call b) x asks) ≡ calls (replay_call j v) (spelt x) (map spelt_ask asks)) × Fits b (calls (byte_call b) x asks)
  unfolding calls Each
  chain_spells x [] f h = (refl, f)
  chain_spells x (a ∷ l) f h =
      let r = chain_spells (byte_call b x a) l (call_fits x a f h.0) h.1 in
      (r.0 ∙ ap (λ (y : Held (List ℕ)). calls (replay_call j v) y (map spelt_ask l)) (call_spells x a f h.0), r.1)

  chain_served : (x : Held (List ℕ)) (asks : List ByteAsk) → Fits b x → Each Long asks → ReplaysServed j v (spelt x) (map spelt_ask asks)
      → EachServed b x asks
  unfolding AllServed Each
  chain_served x [] f h s = tt
  chain_served x (a ∷ l) f h s = (
    served_is x a f h.0 ∙ s.0,
    chain_served (byte_call b x a) l (call_fits x a f h.0) h.1
        (subst (λ (y : Held (List ℕ)). ReplaysServed j v y (map spelt_ask l)) (sym (call_spells x a f h.0)) s.1),
  )

  samples_whole : (plane : List ℕ) → Fits b (fresh plane) → length (samples_of plane) ≡ b.still.frame.height * b.still.frame.width
  samples_whole plane f = omega (arith, length_samples plane, f.plane)

  -- bytes that spell the same are the same
  as_bytes : (x y : Held (List ℕ)) → Fits b x → Fits b y → spelt x ≡ spelt y → x ≡ y
  as_bytes x y f g e =
      let p = ap (λ (z : Held (List ℕ)). z.progress) e in
      let even : (z : Held (List ℕ)) → Fits b z → bytes_of (samples_of z.world)
      ≡ z.world = λ z h. bytes_back z.world (omega (arith, h.plane)) h.in_type.0 in
      let q = sym (even x f) ∙ ap (λ (z : Held (List ℕ)). bytes_of z.world) e ∙ even y g in
      λ i. held (p i) (q i)

  -- what one call gives, from its contract
  gave : (x : Held (List ℕ)) (a : ByteAsk) (r : ℕ) (plane result : List ℕ)
      → record { number = r; plane = plane; result = result } ≡ byte_after b x a
      → InType x → ByteGave b x a r (held (record_in result) plane)
  gave x a r plane result e lent =
      let no = ap (λ (y : After). y.number) e in
      let left : held (record_in result) plane ≡ byte_call b x a = ap (λ (y : After). held (record_in y.result) y.plane) e in
      record {
        number = no;
        left = left;
        counted = λ z.
            let f = fits_of x a (sym no ∙ z) lent in
            let zero = sym (served_is x a f.0 f.1) ∙ sym no ∙ z in
            subst (ReplayDoes j v (spelt x) (min a.grant (count j - x.progress.done)))
            (sym (ap spelt left ∙ call_spells x a f.0 f.1 ∙ does (replay_steps j v) (spelt x) (spelt_ask a) zero))
            (replay_done j v (spelt x) a.grant (replay_told j v (spelt x) scratch_tables zero));
        refused = λ n.
            let k = refused_keeps x a (λ z. n (no ∙ z)) lent in
            (ap (λ (y : Held (List ℕ)). y.world) left ∙ k.0, λ long. left ∙ (λ i. held (k.1 long i) (k.0 i)));
      }

-- demand 3 for the task that the bytes spell
module _ (b : ByteJob) (source : List ℕ) (w : World) (asks : List Ask) (all : WalksAll (spelt_task b) source w asks)
    (spell : residuals_of b.residuals ≡ (calls (walk_call (spelt_task b) source) (fresh w) asks).world.residuals) (plane : List ℕ)
    (f : Fits b (fresh plane)) (again : List ByteAsk)
    (long : Each Long again)
  where
    out : spelt (calls (byte_call b) (fresh plane) again)
        ≡ calls (replay_call (spelt_task b) (residuals_of b.residuals)) (fresh (samples_of plane)) (map spelt_ask again)
    out = (chain_spells b (fresh plane) again f long).0

    back : EachServed b (fresh plane) again
        × Replayed (spelt_task b) source (samples_of plane) (min (bytes_granted again) (count (spelt_task b)))
        (spelt (calls (byte_call b) (fresh plane) again))
    back =
        let d = subst (λ (r : List ℤ). ReplaysServed (spelt_task b) r (fresh (samples_of plane)) (map spelt_ask again)
        × Replayed (spelt_task b) source (samples_of plane) (min (bytes_granted again) (count (spelt_task b)))
        (calls (replay_call (spelt_task b) r) (fresh (samples_of plane)) (map spelt_ask again)))
        (sym spell) (demand_3.replay (spelt_task b) source w asks all (samples_of plane) (samples_whole b plane f) (map spelt_ask again)
        (own_room again)) in (
          chain_served b (fresh plane) again f long d.0,
          subst
              (Replayed (spelt_task b) source (samples_of plane) (min (bytes_granted again) (count (spelt_task b)))) (sym out) d.1,
        )

    whole : count (spelt_task b) ≤ bytes_granted again → samples_of (calls (byte_call b) (fresh plane) again).world ≡ source
    whole enough =
        ap (λ (x : Held (List ℕ)). x.world) out
        ∙ ap (λ (r : List ℤ). (calls (replay_call (spelt_task b) r) (fresh (samples_of plane)) (map spelt_ask again)).world) spell
        ∙ demand_3.same (spelt_task b) source w asks all (samples_of plane) (samples_whole b plane f) (map spelt_ask again)
        (own_room again) enough

-- a walk's residuals are a replay's
in_range : (j : Task) (source : List ℕ) (w : World) (asks : List Ask) → WalksAll j source w asks
    → Each (SFits w32) (calls (walk_call j source) (fresh w) asks).world.residuals
unfolding AllServed Each
in_range j source w asks all =
    let residuals = (calls (walk_call j source) (fresh w) asks).world.residuals in
    let d = demand_3.replay j source w asks all source (walk_told j source (fresh w) all.tables all.served).source_whole
    (ask 0 scratch_tables ∷ []) (refl, tt) in
    in_words residuals (passed (every residual_ok residuals) _ 8 (omega arith)
    (replay_told j residuals (fresh source) scratch_tables d.0.0).in_range).0

pub on_bytes : OnBytes
on_bytes = record {
  by_replay = λ κs done bits width height ctu grant plan residuals plane result r e p lent. gave _ _ _ r _ _ p lent;
  made = λ b x asks y m. made_calls (λ x a y g. g.1.left) x asks y m;
  replay = λ j source w asks all b e spell plane f again long.
      subst (λ (k : Task). (all : WalksAll k source w asks) → residuals_of b.residuals
      ≡ (calls (walk_call k source) (fresh w) asks).world.residuals
      → EachServed b (fresh plane) again
      × Replayed k source (samples_of plane) (min (bytes_granted again) (count k)) (spelt (calls (byte_call b) (fresh plane) again))) e
      (λ all spell. back b source w asks all spell plane f again long) all spell;
  same = λ j source w asks all b e spell plane f again long enough.
      subst (λ (k : Task). (all : WalksAll k source w asks) → residuals_of b.residuals
      ≡ (calls (walk_call k source) (fresh w) asks).world.residuals → count k ≤ bytes_granted again
      → samples_of (calls (byte_call b) (fresh plane) again).world ≡ source) e
      (λ all spell enough. whole b source w asks all spell plane f again long enough) all spell enough;
  altered = λ b plane other f g first z asks others long too e r c cov.
      let v = residuals_of b.residuals in
      let k = fits_of b (fresh plane) first z f.in_type in
      ap (λ (x : Held (List ℕ)). sample_at b.still x.world r c) (chain_spells b (fresh plane) asks f long).0
      ∙ demand_3.altered (spelt_task b) v (samples_of plane) (samples_of other) (map spelt_ask asks) (map spelt_ask others) scratch_tables
      (sym (served_is b (fresh plane) first k.0 k.1) ∙ z)
      (samples_whole b other g) (own_room asks) (own_room others) e r c cov
      ∙ sym (ap (λ (x : Held (List ℕ)). sample_at b.still x.world r c) (chain_spells b (fresh other) others g too).0);
  split = λ b x f asks a long one e.
      let chain = chain_spells b x asks f long in
      as_bytes b (calls (byte_call b) x asks) (byte_call b x a) chain.1 (call_fits b x a f one)
      (chain.0 ∙ demand_3.replay_split (spelt_task b) (residuals_of b.residuals) (spelt x) (map spelt_ask asks) scratch_tables
      (own_room asks) refl
      ∙ ap (λ (k : ℕ). replay_call (spelt_task b) (residuals_of b.residuals) (spelt x) (ask k scratch_tables)) (sym e)
      ∙ sym (call_spells b x a f one));
  sample_spelling = λ l h. (bytes_of l, are_bytes l, length_bytes l, samples_back l h);
  spelling = λ v h. (words_of v, words_are v, length_words v, residuals_back v h);
  walk_spelt = in_range;
  one_plan = bytes_listed;
}
