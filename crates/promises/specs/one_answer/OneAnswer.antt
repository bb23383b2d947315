-- Document 01, 'What the contracts settle': for each public function at most one answer, and one later content of what it writes, meets its
-- contract. Stated over the contract itself as the prover reads it: `Post` takes the arguments, the answer and what is lent at exit. What
-- lent scratch holds after a served call is the one exception. tests/doors finds a public function that is missing here. Assumes nothing.
use Rattle.std.specs.Prelude.{ℕ, ◌≡◌, refl, Bool, true, false, List, [], ◌∷◌, eqb, Result, Ok, Err, IfOk, ⊤}
use Rattle.std.proofs.Common.{sym, ap, ap₂, ◌∙◌, eqb-true}
use Rattle.std.proofs.lemmas.Bool.{eqb-false}
use seplogic.Ra.Ura.{Ura}
use base.Logic.{SProp, ent, sep, via, fst∗, snd∗}
use prog.Memory.{Memory}
use prog.Routine.{Routine}
use types.Logic.{Logic}
use contract.Lifetimes.{Lfts}
use contract.Monad.{Fun, fact, fact_use, fact_mono}
use denote.Triple.Clauses.{Ended, AtExit, Clauses}
use denote.Triple.Entry.{Args, Res}
use Rattle.laws.specs.Choose.{served}
use Rattle.laws.specs.Least.{least_once}
use Rattle.domain.specs.declared.refusal.Refusal.{Refusal}
use Rattle.domain.specs.declared.rows.Rows.{Rows}
use Rattle.domain.specs.Refusal.{number, no_of}
use Rattle.domain.specs.Refused.{never_0, same_refusal, same_answer, same_outcome}
use Rattle.domain.specs.rows.Neighbours.{level_rows, zero_rows}
use Rattle.order.specs.declared.Reach.{Reach}
use Rattle.order.specs.Answers.{Numbered, Flagged, Reached, numbered, flagged, reached, held}
use Rattle.refs.specs.declared.Layout.{Layout}
use Rattle.smooth.specs.declared.RowPair.{RowPair}
use Rattle.smooth.specs.Answers.{Rule, FilteredRows, Smoothed, zero_pair, rule_given, rows_given, smoothed_given}
use Rattle.refs.specs.Answers.{Gathered, GatheredPair, Laid, gathered, gathered_pair, laid}
use Rattle.checksum.specs.Answers.{answered_same}
use Rattle.plan.specs.declared.tiling.Fault.{Fault}
use Rattle.plan.specs.Answers.{Verdict, verdict_of}
use Rattle.errors.specs.declared.Report.{Report}
use Rattle.errors.specs.declared.Rejected as errors-refused
use Rattle.errors.specs.Answers.{Counted, counted_of}
use Rattle.walk.specs.declared.Advance.{Advance}
use Rattle.walk.specs.declared.Rejected.{Rejected}
use Rattle.walk.specs.Answers.{Step, Stepped, step_in, stepped_of}
use Rattle.choose.specs.declared.Best.{Best}
use Rattle.choose.specs.Answers.{Chosen, no_best, chosen_of}
use Rattle.choose.specs.Choose.{Chooses}
use Rattle.octets.specs.Bytes.{pair_into}
use Rattle.camera.specs.choice.Entry.{ChoosesInto}
use Rattle.probes.specs.declared.predict_probes.Choice.{Choice}
use Rattle.walk.specs.block.Walked.{World}
use Rattle.camera.specs.replay.Door.{After}
use Rattle.camera.specs.Written.{Written, wrote}
use Rattle.octets.proofs.sample.Reads as bytes-sample
use Rattle.octets.proofs.whole_in.Reads as bytes-whole-in
use Rattle.octets.proofs.residual.Reads as bytes-residual
use Rattle.octets.proofs.lent.samples_ok.Reads as lent-samples-ok
use Rattle.octets.proofs.lent.RefSliceU16Samples.count.Reads as lent-count
use Rattle.octets.proofs.lent.RefSliceU16Samples.sample.Reads as lent-sample
use Rattle.octets.proofs.lent.RefSliceU16Samples.exactly.Reads as lent-exactly
use Rattle.octets.proofs.lent.RefSliceU8Samples.count.Reads as lent-bytes-count
use Rattle.octets.proofs.lent.RefSliceU8Samples.sample.Reads as lent-bytes-sample
use Rattle.octets.proofs.lent.RefSliceU8Samples.exactly.Reads as lent-bytes-exactly
use Rattle.domain.proofs.depth_ok.Reads as domain-depth-ok
use Rattle.domain.proofs.size_ok.Reads as domain-size-ok
use Rattle.domain.proofs.mode_ok.Reads as domain-mode-ok
use Rattle.domain.proofs.plane_side_ok.Reads as domain-plane-side-ok
use Rattle.domain.proofs.picture_ok.Reads as domain-picture-ok
use Rattle.domain.proofs.unit_ok.Reads as domain-unit-ok
use Rattle.domain.proofs.refusal.Refusal.number.Reads as refusal-number
use Rattle.domain.proofs.refusal.no_of.Reads as refusal-no-of
use Rattle.samples.proofs.taps.interp.Reads as taps-interp
use Rattle.samples.proofs.taps.mean.Reads as taps-mean
use Rattle.samples.proofs.taps.edge.Reads as taps-edge
use Rattle.samples.proofs.taps.blend.Reads as taps-blend
use Rattle.samples.proofs.taps.corner.Reads as taps-corner
use Rattle.listing.proofs.word.Reads as listing-word
use Rattle.listing.proofs.other.Reads as listing-other
use Rattle.listing.proofs.sample.Reads as listing-sample
use Rattle.listing.proofs.draw_into.Reads as listing-draw-into
use Rattle.listing.proofs.row.Reads as listing-row
use Rattle.listing.proofs.same_run.Reads as listing-same-run
use Rattle.listing.proofs.Count.with.Reads as listing-with
use Rattle.fmt.proofs.depth.BitDepth.from_bits.Reads as depth-from-bits
use Rattle.fmt.proofs.depth.BitDepth.bits.Reads as depth-bits
use Rattle.fmt.proofs.depth.BitDepth.max_val.Reads as depth-max-val
use Rattle.fmt.proofs.depth.BitDepth.neutral.Reads as depth-neutral
use Rattle.fmt.proofs.depth.largest_of.Reads as depth-largest-of
use Rattle.fmt.proofs.depth.neutral_of.Reads as depth-neutral-of
use Rattle.fmt.proofs.ChromaFormat.from_idc.Reads as fmt-from-idc
use Rattle.fmt.proofs.ChromaFormat.sub_w.Reads as fmt-sub-w
use Rattle.fmt.proofs.ChromaFormat.sub_h.Reads as fmt-sub-h
use Rattle.fmt.proofs.ChromaFormat.luma_row.Reads as fmt-luma-row
use Rattle.fmt.proofs.ChromaFormat.luma_col.Reads as fmt-luma-col
use Rattle.fmt.proofs.ChromaFormat.chroma_row.Reads as fmt-chroma-row
use Rattle.fmt.proofs.ChromaFormat.chroma_col.Reads as fmt-chroma-col
use Rattle.checksum.proofs.picture_checksum.Reads as checksum-picture-checksum
use Rattle.choose.proofs.choose_mode.Reads as choose-choose-mode
use Rattle.choose.proofs.choose_early.Reads as choose-choose-early
use Rattle.checksum.proofs.on_bytes.picture_checksum_bytes.Reads as on-bytes-picture-checksum-bytes
use Rattle.errors.proofs.Report.fresh.Reads as errors-fresh
use Rattle.errors.proofs.Report.count_numbers.Reads as errors-count-numbers
use Rattle.errors.specs.contracts.Report.count as errors-count
use Rattle.errors.proofs.Report.join.Reads as errors-join
use Rattle.errors.proofs.on_bytes.count_bytes.Reads as on-bytes-count-bytes
use Rattle.errors.proofs.record.count_into.Reads as record-count-into
use Rattle.errors.proofs.record.join_into.Reads as record-join-into
use Rattle.errors.specs.RecordBytes.{Entered, entered}
use Rattle.order.proofs.decode_order.Reads as order-decode-order
use Rattle.order.proofs.is_available.Reads as order-is-available
use Rattle.order.proofs.luma_reach.Reads as order-luma-reach
use Rattle.order.proofs.chroma_reach.Reads as order-chroma-reach
use Rattle.domain.proofs.rows.level_rows.Reads as rows-level-rows
use Rattle.domain.proofs.helpers.min.Reads as helpers-min
use Rattle.domain.proofs.helpers.min_len.Reads as helpers-min-len
use Rattle.domain.proofs.helpers.abs_diff.Reads as helpers-abs-diff
use Rattle.domain.proofs.helpers.abs.Reads as helpers-abs
use Rattle.domain.proofs.helpers.clamp.Reads as helpers-clamp
use Rattle.samples.proofs.filters.smooths.Reads as filters-smooths
use Rattle.samples.proofs.filters.tap.Reads as filters-tap
use Rattle.samples.proofs.filters.ramp.Reads as filters-ramp
use Rattle.samples.proofs.filters.is_straight.Reads as filters-is-straight
use Rattle.samples.proofs.deltas.less.Reads as deltas-less
use Rattle.samples.proofs.deltas.restored.Reads as deltas-restored
use Rattle.samples.proofs.deltas.raised.Reads as deltas-raised
use Rattle.samples.proofs.deltas.residual_within.Reads as deltas-residual-within
use Rattle.samples.proofs.deltas.residual_ok.Reads as deltas-residual-ok
use Rattle.smooth.proofs.should_filter_refs.Reads as smooth-should-filter-refs
use Rattle.smooth.proofs.filter_references.Reads as smooth-filter-references
use Rattle.smooth.proofs.filter_luma_refs.Reads as smooth-filter-luma-refs
use Rattle.refs.proofs.substitution.substitute_refs.Reads as substitution-substitute-refs
use Rattle.refs.proofs.get_reference_samples.Reads as refs-get-reference-samples
use Rattle.refs.proofs.get_reference_samples_chroma_pair.Reads as refs-get-reference-samples-chroma-pair
use Rattle.refs.proofs.check_gather.Reads as refs-check-gather
use Rattle.refs.proofs.luma_layout.Reads as refs-luma-layout
use Rattle.refs.proofs.chroma_layout.Reads as refs-chroma-layout
use Rattle.plan.proofs.records.record_at.Reads as records-record-at
use Rattle.plan.proofs.check.Reads as plan-check
use Rattle.plan.proofs.blocks.NumbersBlocks.block.Reads as plan-block-at
use Rattle.plan.proofs.blocks.NumbersBlocks.whole.Reads as plan-is-whole
use Rattle.plan.proofs.blocks.NumbersBlocks.count.Reads as plan-count
use Rattle.plan.proofs.blocks.RefSliceBlockBlocks.block.Reads as plan-records-block
use Rattle.plan.proofs.blocks.RefSliceBlockBlocks.whole.Reads as plan-records-whole
use Rattle.plan.proofs.blocks.RefSliceBlockBlocks.count.Reads as plan-records-count
use Rattle.plan.proofs.blocks.RefSliceU8Blocks.block.Reads as plan-bytes-block
use Rattle.plan.proofs.blocks.RefSliceU8Blocks.whole.Reads as plan-bytes-whole
use Rattle.plan.proofs.blocks.RefSliceU8Blocks.count.Reads as plan-bytes-count
use Rattle.plan.proofs.check_plan_bytes.Reads as plan-check-plan-bytes
use Rattle.plan.proofs.check_plan_numbers.Reads as plan-check-plan-numbers
use Rattle.plan.specs.contracts.check_plan as plan-check-plan
use Rattle.walk.proofs.calls.doing_of.Reads as calls-doing-of
use Rattle.walk.proofs.Progress.fresh.Reads as walk-fresh
use Rattle.walk.proofs.checks.check_opening.Reads as checks-check-opening
use Rattle.walk.proofs.granted.Reads as walk-granted
use Rattle.walk.proofs.block.geometry.Reads as block-geometry
use Rattle.walk.proofs.block.base_of.Reads as block-base-of
use Rattle.probes.proofs.salvrunde_probe_picture_checksum.Reads as probes-salvrunde-probe-picture-checksum
use Rattle.probes.proofs.salvrunde_probe_depth.Reads as probes-salvrunde-probe-depth
use Rattle.probes.proofs.salvrunde_probe_format.Reads as probes-salvrunde-probe-format
use Rattle.probes.proofs.salvrunde_probe_on_luma.Reads as probes-salvrunde-probe-on-luma
use Rattle.probes.proofs.salvrunde_probe_on_chroma.Reads as probes-salvrunde-probe-on-chroma
use Rattle.probes.proofs.salvrunde_probe_decode_order.Reads as probes-salvrunde-probe-decode-order
use Rattle.probes.proofs.salvrunde_probe_is_available.Reads as probes-salvrunde-probe-is-available
use Rattle.probes.proofs.salvrunde_probe_should_filter_refs.Reads as probes-salvrunde-probe-should-filter-refs
use Rattle.probes.proofs.salvrunde_probe_filter_references.Reads as probes-salvrunde-probe-filter-references
use Rattle.probes.proofs.salvrunde_probe_filter_luma_refs.Reads as probes-salvrunde-probe-filter-luma-refs
use Rattle.probes.proofs.salvrunde_probe_substitute_refs.Reads as probes-salvrunde-probe-substitute-refs
use Rattle.probes.proofs.salvrunde_probe_get_reference_samples.Reads as probes-salvrunde-probe-get-reference-samples
use Rattle.probes.proofs.salvrunde_probe_get_reference_samples_chroma_pair.Reads as probes-salvrunde-probe-get-reference-samples-chroma-pair
use Rattle.probes.proofs.error_probes.salvrunde_probe_count_errors.Reads as error-probes-salvrunde-probe-count-errors
use Rattle.probes.proofs.walk_probes.salvrunde_probe_check_plan.Reads as walk-probes-salvrunde-probe-check-plan
use Rattle.predict.proofs.planar_dc.predict_planar_into.Reads as planar-dc-predict-planar-into
use Rattle.predict.proofs.planar_dc.predict_dc_into.Reads as planar-dc-predict-dc-into
use Rattle.predict.proofs.angular.predict_angular_slices.Reads as angular-predict-angular-slices
use Rattle.predict.proofs.angular.vertical_refs.Reads as angular-vertical-refs
use Rattle.predict.proofs.angular.vertical_rows.Reads as angular-vertical-rows
use Rattle.predict.proofs.predict_chroma_tb_slices.Reads as predict-predict-chroma-tb-slices
use Rattle.predict.proofs.predict_luma_tb_slices.Reads as predict-predict-luma-tb-slices
use Rattle.predict.proofs.scratch.AngularScratch.new.Reads as scratch-new
use Rattle.predict.specs.contracts.scratch_angular.predict_angular_into as scratch-angular-predict-angular-into
use Rattle.predict.specs.contracts.scratch_predict.predict_chroma_tb_into as scratch-predict-predict-chroma-tb-into
use Rattle.predict.specs.contracts.scratch_predict.predict_luma_tb_into as scratch-predict-predict-luma-tb-into
use Rattle.predict.proofs.scratch_angular.predict_angular_fresh.Reads as scratch-angular-predict-angular-fresh
use Rattle.predict.proofs.scratch_predict.predict_chroma_tb_fresh.Reads as scratch-predict-predict-chroma-tb-fresh
use Rattle.predict.proofs.scratch_predict.predict_luma_tb_fresh.Reads as scratch-predict-predict-luma-tb-fresh
use Rattle.residual.proofs.compute_residual_i32_into.Reads as residual-compute-residual-i32-into
use Rattle.residual.proofs.reconstruct_into.Reads as residual-reconstruct-into
use Rattle.probes.proofs.predict_probes.salvrunde_probe_predict_planar_into.Reads as predict-probes-salvrunde-probe-predict-planar-into
use Rattle.probes.proofs.predict_probes.salvrunde_probe_predict_dc_into.Reads as predict-probes-salvrunde-probe-predict-dc-into
use Rattle.probes.proofs.predict_probes.salvrunde_probe_predict_angular_slices.Reads as predict-probes-salvrunde-probe-predict-angular-slices
use Rattle.probes.proofs.predict_probes.salvrunde_probe_predict_chroma_tb_slices.Reads as predict-probes-salvrunde-probe-predict-chroma-tb-slices
use Rattle.probes.proofs.predict_probes.salvrunde_probe_predict_luma_tb_slices.Reads as predict-probes-salvrunde-probe-predict-luma-tb-slices
use Rattle.probes.proofs.predict_probes.salvrunde_probe_choose_mode.Reads as predict-probes-salvrunde-probe-choose-mode
use Rattle.probes.proofs.predict_probes.salvrunde_probe_choose_early.Reads as predict-probes-salvrunde-probe-choose-early
use Rattle.probes.proofs.predict_probes.salvrunde_probe_predict_angular_scratch.Reads as predict-probes-salvrunde-probe-predict-angular-scratch
use Rattle.probes.proofs.predict_probes.salvrunde_probe_predict_chroma_tb_scratch.Reads as predict-probes-salvrunde-probe-predict-chroma-tb-scratch
use Rattle.probes.proofs.predict_probes.salvrunde_probe_predict_luma_tb_scratch.Reads as predict-probes-salvrunde-probe-predict-luma-tb-scratch
use Rattle.probes.proofs.predict_probes.salvrunde_probe_compute_residual_i32_into.Reads as predict-probes-salvrunde-probe-compute-residual-i32-into
use Rattle.probes.proofs.predict_probes.salvrunde_probe_reconstruct_into.Reads as predict-probes-salvrunde-probe-reconstruct-into
use Rattle.probes.proofs.walk_probes.salvrunde_probe_walk.Reads as walk-probes-salvrunde-probe-walk
use Rattle.probes.proofs.walk_probes.salvrunde_probe_replay.Reads as walk-probes-salvrunde-probe-replay
use Rattle.probes.specs.contracts.walk_probes.salvrunde_probe_walk_records as walk-probes-salvrunde-probe-walk-records
use Rattle.probes.specs.contracts.walk_probes.salvrunde_probe_replay_records as walk-probes-salvrunde-probe-replay-records
use Rattle.octets.proofs.pairs.read.Reads as pairs-read
use Rattle.octets.proofs.pairs.store.Reads as pairs-store
use Rattle.camera.proofs.salvrunde_luma_refs.Reads as camera-salvrunde-luma-refs
use Rattle.camera.proofs.salvrunde_chroma_refs_ctu.Reads as camera-salvrunde-chroma-refs-ctu
use Rattle.camera.proofs.salvrunde_planar.Reads as camera-salvrunde-planar
use Rattle.camera.proofs.salvrunde_dc.Reads as camera-salvrunde-dc
use Rattle.camera.proofs.salvrunde_angular.Reads as camera-salvrunde-angular
use Rattle.camera.proofs.salvrunde_chroma_block.Reads as camera-salvrunde-chroma-block
use Rattle.camera.proofs.salvrunde_luma_block.Reads as camera-salvrunde-luma-block
use Rattle.camera.proofs.salvrunde_choose.Reads as camera-salvrunde-choose
use Rattle.camera.proofs.salvrunde_choose_early.Reads as camera-salvrunde-choose-early
use Rattle.camera.proofs.salvrunde_checksum.Reads as camera-salvrunde-checksum
use Rattle.camera.proofs.salvrunde_count_errors.Reads as camera-salvrunde-count-errors
use Rattle.camera.proofs.salvrunde_join_errors.Reads as camera-salvrunde-join-errors
use Rattle.camera.proofs.salvrunde_replay.Reads as camera-salvrunde-replay
use Rattle.report.proofs.report.Reads as report-report
use Rattle.walk.proofs.Progress.replay_numbers.Reads as walk-replay-numbers
use Rattle.walk.proofs.Progress.walk_numbers.Reads as walk-walk-numbers
use Rattle.walk.specs.contracts.Progress.replay as walk-replay
use Rattle.walk.specs.contracts.Progress.walk as walk-walk

-- at most one answer meets a contract
abbrev Once : {A X S : Type 0} → (A → X → S → Type 0) → Type 0
Once {A} {X} {S} post = (a : A) (x y : X) (s t : S) → post a x s → post a y t → x ≡ y

-- and at most one later content
abbrev OnceLeft : {A X S L : Type 0} → (S → L) → (A → X → S → Type 0) → Type 0
OnceLeft {A} {X} {S} lent post = (a : A) (x y : X) (s t : S) → post a x s → post a y t → (x ≡ y) × (lent s ≡ lent t)

-- where scratch is lent too: one later content of the rest, and of the scratch where the call is refused
abbrev OnceRefused : {A X S L K : Type 0} → (X → ℕ) → (S → L) → (S → K) → (A → X → S → Type 0) → Type 0
OnceRefused {A} {X} {S} number lent scratch post =
    (a : A) (x y : X) (s t : S) → post a x s → post a y t
    → (x ≡ y) × ((lent s ≡ lent t) × (¬ (number x ≡ 0) → scratch s ≡ scratch t))

and_scratch : {X L K : Type 0} (number : X → ℕ) {x y : X} {l m : L} {was k j : K} → (x ≡ y) × (l ≡ m)
    → (¬ (number x ≡ 0) → k ≡ was) → (¬ (number y ≡ 0) → j ≡ was) → (x ≡ y) × ((l ≡ m) × (¬ (number x ≡ 0) → k ≡ j))
and_scratch number e u v = (e.0, (e.1, λ h. u h ∙ sym (v (λ z. h (ap number e.0 ∙ z)))))

-- three tables
abbrev Three : Type 0
Three = List ℕ × (List ℕ × List ℕ)

together : {k was : Three} → (k.0 ≡ was.0) × ((k.1.0 ≡ was.1.0) × (k.1.1 ≡ was.1.1)) → k ≡ was
together p = λ i. (p.0 i, (p.1.0 i, p.1.1 i))

all_four : {k was : List ℕ × Three} → (k.0 ≡ was.0) × ((k.1.0 ≡ was.1.0)
    × ((k.1.1.0 ≡ was.1.1.0) × (k.1.1.1 ≡ was.1.1.1))) → k ≡ was
all_four p = λ i. (p.0 i, together p.1 i)

-- contents that go by the answer's number
by_number : {L : Type 0} (work kept : L) {n x y : ℕ} {l m : L} → x ≡ n → y ≡ n
    → l ≡ served x work kept → m ≡ served y work kept → (x ≡ y) × (l ≡ m)
by_number work kept p q u v = (p ∙ sym q, u ∙ ap (λ (k : ℕ). served k work kept) (p ∙ sym q) ∙ sym v)

-- an answer is known by what it says in the paper's terms
numbered_same : (x y : Result ℕ Refusal) → numbered x ≡ numbered y → x ≡ y
numbered_same x y e = same_answer 0 x y (ap (λ (r : Numbered). r.no) e) (ap (λ (r : Numbered). r.value) e)

flagged_same : (x y : Result Bool Refusal) → flagged x ≡ flagged y → x ≡ y
flagged_same x y e = same_answer false x y (ap (λ (r : Flagged). r.no) e) (ap (λ (r : Flagged). r.yes) e)

reached_same : (x y : Result Reach Refusal) → reached x ≡ reached y → x ≡ y
reached_same x y e = same_answer (record { corner = false; above = 0; left = 0 }) x y (ap (λ (r : Reached). r.no) e) (ap held e)

gathered_same : (x y : Result Rows Refusal) → gathered x ≡ gathered y → x ≡ y
gathered_same x y e = same_answer (level_rows 0) x y (ap (λ (g : Gathered). g.no) e) (ap (λ (g : Gathered). g.rows) e)

gathered_pair_same : (x y : Result (List Rows) Refusal) → gathered_pair x ≡ gathered_pair y → x ≡ y
gathered_pair_same x y e =
    same_answer (level_rows 0 ∷ level_rows 0 ∷ []) x y (ap (λ (g : GatheredPair). g.no) e) (ap (λ (g : GatheredPair). g.planes) e)

rule_same : (x y : Result Bool Refusal) → rule_given x ≡ rule_given y → x ≡ y
rule_same x y e = same_answer false x y (ap (λ (r : Rule). r.no) e) (ap (λ (r : Rule). r.yes) e)

row_pair_same : (x y : Result RowPair Refusal) → rows_given x ≡ rows_given y → x ≡ y
row_pair_same x y e = same_answer zero_pair x y (ap (λ (r : FilteredRows). r.no) e) (λ i. record { above = (e i).above; left = (e i).left })

smoothed_same : (x y : Result Rows Refusal) → smoothed_given x ≡ smoothed_given y → x ≡ y
smoothed_same x y e = same_answer zero_rows x y (ap (λ (r : Smoothed). r.no) e) (ap (λ (r : Smoothed). r.rows) e)

pub chosen_same : (x y : Result Best Refusal) → chosen_of x ≡ chosen_of y → x ≡ y
chosen_same x y e = same_answer no_best x y (ap (λ (c : Chosen). c.no) e) (λ i. record { mode = (e i).mode; sum = (e i).sum })

laid_same : (x y : Layout) → laid x ≡ laid y → x ≡ y
laid_same x y e =
    let r = reached_same x.reach y.reach (ap (λ (l : Laid). l.reach) e) in
    λ i. record { reach = r i; spot = (e i).spot; length = (e i).length }

fault_same : (v w : Fault) → number v.why ≡ number w.why → v.block ≡ w.block → v ≡ w
fault_same v w e b = let k = same_refusal v.why w.why e in λ i. record { why = k i; block = b i }

verdict_same : (x y : Result ⊤ Fault) → verdict_of x ≡ verdict_of y → x ≡ y
verdict_same (Ok v) (Ok w) e = refl
verdict_same (Ok v) (Err w) e = absurd (never_0 w.why (sym (ap (λ (r : Verdict). r.no) e)))
verdict_same (Err v) (Ok w) e = absurd (never_0 v.why (ap (λ (r : Verdict). r.no) e))
verdict_same (Err v) (Err w) e = ap Err (fault_same v w (ap (λ (r : Verdict). r.no) e) (ap (λ (r : Verdict). r.block) e))

granted_same : (x y : Result Advance Fault) → step_in x ≡ step_in y → x ≡ y
granted_same (Ok v) (Ok w) e = λ i. Ok (record { did = (e i).did; next = record { done = (e i).upto } })
granted_same (Ok v) (Err w) e = absurd (never_0 w.why (sym (ap (λ (r : Step). r.no) e)))
granted_same (Err v) (Ok w) e = absurd (never_0 v.why (ap (λ (r : Step). r.no) e))
granted_same (Err v) (Err w) e = ap Err (fault_same v w (ap (λ (r : Step). r.no) e) (ap (λ (r : Step). r.block) e))

stepped_same : (x y : Result Advance Rejected) → stepped_of x ≡ stepped_of y → x ≡ y
stepped_same (Ok v) (Ok w) e = λ i. Ok (record { did = (e i).did; next = (e i).next })
stepped_same (Ok v) (Err w) e = absurd (never_0 w.fault.why (sym (ap (λ (r : Stepped). r.no) e)))
stepped_same (Err v) (Ok w) e = absurd (never_0 v.fault.why (ap (λ (r : Stepped). r.no) e))
stepped_same (Err v) (Err w) e =
    let f = fault_same v.fault w.fault (ap (λ (r : Stepped). r.no) e) (ap (λ (r : Stepped). r.block) e) in
    λ i. Err (record { fault = f i; progress = (e i).next })

counted_same : (x y : Result Report errors-refused.Rejected) → counted_of x ≡ counted_of y → x ≡ y
counted_same (Ok v) (Ok w) e = λ i. Ok (e i).next
counted_same (Ok v) (Err w) e = absurd (never_0 w.fault.why (sym (ap (λ (r : Counted). r.no) e)))
counted_same (Err v) (Ok w) e = absurd (never_0 v.fault.why (ap (λ (r : Counted). r.no) e))
counted_same (Err v) (Err w) e =
    let f = fault_same v.fault w.fault (ap (λ (r : Counted). r.no) e) (ap (λ (r : Counted). r.block) e) in
    λ i. Err (record { fault = f i; report = (e i).next })

-- one that is another's own where it is not refused
own_once : (found x y : Result Reach Refusal) → no_of x ≡ no_of y → IfOk x (λ r. found ≡ Ok r) → IfOk y (λ r. found ≡ Ok r) → x ≡ y
own_once found (Ok r) (Ok t) e p q = sym p ∙ q
own_once found (Ok r) (Err w) e p q = absurd (never_0 w (sym e))
own_once found (Err v) (Ok t) e p q = absurd (never_0 v e)
own_once found (Err v) (Err w) e p q = ap Err (same_refusal v w e)

-- and of an answer that says nothing else
by_answer : {L : Type 0} (work kept : L) {n : ℕ} {x y : Result ⊤ Refusal} {l m : L} → no_of x ≡ n → no_of y ≡ n
    → l ≡ served (no_of x) work kept → m ≡ served (no_of y) work kept → (x ≡ y) × (l ≡ m)
by_answer work kept {x = x} {y = y} p q u v = let e = by_number work kept p q u v in (same_outcome x y e.0, e.1)

-- the mode and the sum that the chooser's contract names
pub chosen_once : (k : ℕ) (sums : ℕ → ℕ) {x y : Chosen} → Chooses k sums x → Chooses k sums y → x ≡ y
chosen_once k sums {x} {y} p q = λ i. record { no = (p.number ∙ sym q.number) i; mode = pair.0 i; sum = pair.1 i }
  where
    go : (b : Bool) → eqb k 0 ≡ b → (x.mode ≡ y.mode) × (x.sum ≡ y.sum)
    go true e = let z = eqb-true k 0 e in least_once sums 35 (p.best z) (q.best z)
    go false e =
        let z = eqb-false k 0 e in
        let l = p.nothing z in
        let r = q.nothing z in
        (l.0 ∙ sym r.0, l.1 ∙ sym r.1)

    pair : (x.mode ≡ y.mode) × (x.sum ≡ y.sum)
    pair = go (eqb k 0) refl

-- bytes
bytes_sample_once : Once (bytes-sample.Post tt)
bytes_sample_once a x y s t p q = p ∙ sym q

bytes_whole_in_once : Once (bytes-whole-in.Post tt)
bytes_whole_in_once a x y s t p q = p ∙ sym q

bytes_residual_once : Once (bytes-residual.Post tt)
bytes_residual_once a x y s t p q = p ∙ sym q

-- of any lent samples: as a list of them, or as their bytes
lent_samples_ok_once : (S : _) (laws : _) (copy : _) (samples : _) (methods : _) (clone : _) (cloned : _) (κs : Lfts 1)
    → Once (lent-samples-ok.Post S laws copy samples methods clone cloned κs)
lent_samples_ok_once S laws copy samples methods clone cloned κs a x y s t p q = p ∙ sym q

-- of a list of samples
lent_count_once : (κs : Lfts 1) → Once (lent-count.Post κs)
lent_count_once κs a x y s t p q = p ∙ sym q

lent_sample_once : (κs : Lfts 1) → Once (lent-sample.Post κs)
lent_sample_once κs a x y s t p q = p ∙ sym q

lent_exactly_once : (κs : Lfts 1) → Once (lent-exactly.Post κs)
lent_exactly_once κs a x y s t p q = p ∙ sym q

-- of samples' bytes
lent_bytes_count_once : (κs : Lfts 1) → Once (lent-bytes-count.Post κs)
lent_bytes_count_once κs a x y s t p q = p ∙ sym q

lent_bytes_sample_once : (κs : Lfts 1) → Once (lent-bytes-sample.Post κs)
lent_bytes_sample_once κs a x y s t p q = p ∙ sym q

lent_bytes_exactly_once : (κs : Lfts 1) → Once (lent-bytes-exactly.Post κs)
lent_bytes_exactly_once κs a x y s t p q = p ∙ sym q

pairs_read_once : (κs : Lfts 2) → OnceLeft (λ s. s.1.1.0.now) (pairs-read.Post κs)
pairs_read_once κs a x y s t p q = (refl, p ∙ sym q)

pairs_store_once : (κs : Lfts 2) → OnceLeft (λ s. s.1.1.0.now) (pairs-store.Post κs)
pairs_store_once κs a x y s t p q = (refl, p ∙ sym q)

-- domain
domain_depth_ok_once : Once (domain-depth-ok.Post tt)
domain_depth_ok_once a x y s t p q = p ∙ sym q

domain_size_ok_once : Once (domain-size-ok.Post tt)
domain_size_ok_once a x y s t p q = p ∙ sym q

domain_plane_side_ok_once : Once (domain-plane-side-ok.Post tt)
domain_plane_side_ok_once a x y s t p q = p ∙ sym q

domain_mode_ok_once : Once (domain-mode-ok.Post tt)
domain_mode_ok_once a x y s t p q = p ∙ sym q

domain_picture_ok_once : Once (domain-picture-ok.Post tt)
domain_picture_ok_once a x y s t p q = p ∙ sym q

domain_unit_ok_once : Once (domain-unit-ok.Post tt)
domain_unit_ok_once a x y s t p q = p ∙ sym q

-- refusal
refusal_number_once : Once (refusal-number.Post tt)
refusal_number_once a x y s t p q = p ∙ sym q

refusal_no_of_once : Once (refusal-no-of.Post tt)
refusal_no_of_once a x y s t p q = p ∙ sym q

-- taps
taps_interp_once : Once (taps-interp.Post tt)
taps_interp_once a x y s t p q = p ∙ sym q

taps_mean_once : Once (taps-mean.Post tt)
taps_mean_once a x y s t p q = p ∙ sym q

taps_edge_once : Once (taps-edge.Post tt)
taps_edge_once a x y s t p q = p ∙ sym q

taps_blend_once : Once (taps-blend.Post tt)
taps_blend_once a x y s t p q = p ∙ sym q

taps_corner_once : Once (taps-corner.Post tt)
taps_corner_once a x y s t p q = p ∙ sym q

-- listing
listing_word_once : (κs : Lfts 1) → Once (listing-word.Post κs)
listing_word_once κs a x y s t p q = p ∙ sym q

listing_other_once : Once (listing-other.Post tt)
listing_other_once a x y s t p q = p ∙ sym q

listing_sample_once : Once (listing-sample.Post tt)
listing_sample_once a x y s t p q = p ∙ sym q

listing_draw_into_once : (κs : Lfts 1) → OnceLeft (λ s. s.1.1.0.now) (listing-draw-into.Post κs)
listing_draw_into_once κs a x y s t p q = (refl, p ∙ sym q)

listing_row_once : Once (listing-row.Post tt)
listing_row_once a x y s t p q = p ∙ sym q

listing_same_run_once : (κs : Lfts 2) → Once (listing-same-run.Post κs)
listing_same_run_once κs a x y s t p q = p ∙ sym q

listing_with_once : Once (listing-with.Post tt)
listing_with_once a x y s t p q = p ∙ sym q

-- depth
depth_from_bits_once : Once (depth-from-bits.Post tt)
depth_from_bits_once a x y s t p q = p ∙ sym q

depth_bits_once : Once (depth-bits.Post tt)
depth_bits_once a x y s t p q = p ∙ sym q

depth_max_val_once : Once (depth-max-val.Post tt)
depth_max_val_once a x y s t p q = p ∙ sym q

depth_neutral_once : Once (depth-neutral.Post tt)
depth_neutral_once a x y s t p q = p ∙ sym q

depth_largest_of_once : Once (depth-largest-of.Post tt)
depth_largest_of_once a x y s t p q = p ∙ sym q

depth_neutral_of_once : Once (depth-neutral-of.Post tt)
depth_neutral_of_once a x y s t p q = p ∙ sym q

-- fmt
fmt_from_idc_once : Once (fmt-from-idc.Post tt)
fmt_from_idc_once a x y s t p q = p ∙ sym q

fmt_sub_w_once : Once (fmt-sub-w.Post tt)
fmt_sub_w_once a x y s t p q = p ∙ sym q

fmt_sub_h_once : Once (fmt-sub-h.Post tt)
fmt_sub_h_once a x y s t p q = p ∙ sym q

fmt_luma_row_once : Once (fmt-luma-row.Post tt)
fmt_luma_row_once a x y s t p q = p ∙ sym q

fmt_luma_col_once : Once (fmt-luma-col.Post tt)
fmt_luma_col_once a x y s t p q = p ∙ sym q

fmt_chroma_row_once : Once (fmt-chroma-row.Post tt)
fmt_chroma_row_once a x y s t p q = p ∙ sym q

fmt_chroma_col_once : Once (fmt-chroma-col.Post tt)
fmt_chroma_col_once a x y s t p q = p ∙ sym q

-- order
order_decode_order_once : Once (order-decode-order.Post tt)
order_decode_order_once a x y s t p q = numbered_same x y (p ∙ sym q)

order_is_available_once : Once (order-is-available.Post tt)
order_is_available_once a x y s t p q = flagged_same x y (p ∙ sym q)

order_luma_reach_once : Once (order-luma-reach.Post tt)
order_luma_reach_once a x y s t p q = reached_same x y (p ∙ sym q)

order_chroma_reach_once : Once (order-chroma-reach.Post tt)
order_chroma_reach_once a x y s t p q = reached_same x y (p ∙ sym q)

-- rows
rows_level_rows_once : Once (rows-level-rows.Post tt)
rows_level_rows_once a x y s t p q = p ∙ sym q

-- helpers
helpers_min_once : Once (helpers-min.Post tt)
helpers_min_once a x y s t p q = p ∙ sym q

helpers_min_len_once : Once (helpers-min-len.Post tt)
helpers_min_len_once a x y s t p q = p ∙ sym q

helpers_abs_diff_once : Once (helpers-abs-diff.Post tt)
helpers_abs_diff_once a x y s t p q = p ∙ sym q

helpers_abs_once : Once (helpers-abs.Post tt)
helpers_abs_once a x y s t p q = p ∙ sym q

helpers_clamp_once : Once (helpers-clamp.Post tt)
helpers_clamp_once a x y s t p q = p ∙ sym q

-- filters
filters_smooths_once : Once (filters-smooths.Post tt)
filters_smooths_once a x y s t p q = p ∙ sym q

filters_tap_once : Once (filters-tap.Post tt)
filters_tap_once a x y s t p q = p ∙ sym q

filters_ramp_once : Once (filters-ramp.Post tt)
filters_ramp_once a x y s t p q = p ∙ sym q

filters_is_straight_once : Once (filters-is-straight.Post tt)
filters_is_straight_once a x y s t p q = p ∙ sym q

-- deltas
deltas_less_once : Once (deltas-less.Post tt)
deltas_less_once a x y s t p q = p ∙ sym q

deltas_restored_once : Once (deltas-restored.Post tt)
deltas_restored_once a x y s t p q = p ∙ sym q

deltas_raised_once : Once (deltas-raised.Post tt)
deltas_raised_once a x y s t p q = p ∙ sym q

deltas_residual_within_once : Once (deltas-residual-within.Post tt)
deltas_residual_within_once a x y s t p q = p ∙ sym q

deltas_residual_ok_once : Once (deltas-residual-ok.Post tt)
deltas_residual_ok_once a x y s t p q = p ∙ sym q

-- checksum
checksum_picture_checksum_once : (κs : Lfts 1) → Once (checksum-picture-checksum.Post κs)
checksum_picture_checksum_once κs a x y s t p q = answered_same x y (p ∙ sym q)

on_bytes_picture_checksum_bytes_once : (κs : Lfts 1) → Once (on-bytes-picture-checksum-bytes.Post κs)
on_bytes_picture_checksum_bytes_once κs a x y s t p q = answered_same x y (p ∙ sym q)

-- errors
errors_fresh_once : Once (errors-fresh.Post tt)
errors_fresh_once a x y s t p q = p ∙ sym q

errors_count_numbers_once : (κs : Lfts 6) → Once (errors-count-numbers.Post κs)
errors_count_numbers_once κs a x y s t p q = counted_same x y (p ∙ sym q)

errors_join_once : Once (errors-join.Post tt)
errors_join_once a x y s t p q = counted_same x y (p ∙ sym q)

on_bytes_count_bytes_once : (κs : Lfts 3) → Once (on-bytes-count-bytes.Post κs)
on_bytes_count_bytes_once κs a x y s t p q = counted_same x y (p ∙ sym q)

by_entered : {x y : ℕ} {l m : List ℕ} {w : Entered} → entered x l ≡ w → entered y m ≡ w → (x ≡ y) × (l ≡ m)
by_entered p q = (ap (λ (v : Entered). v.number) (p ∙ sym q), ap (λ (v : Entered). v.bytes) (p ∙ sym q))

record_count_into_once : (κs : Lfts 4) → OnceLeft (λ s. s.1.1.1.0.now) (record-count-into.Post κs)
record_count_into_once κs a x y s t p q = by_entered p q

record_join_into_once : (κs : Lfts 2) → OnceLeft (λ s. s.1.0.now) (record-join-into.Post κs)
record_join_into_once κs a x y s t p q = by_entered p q

-- smooth
smooth_should_filter_refs_once : Once (smooth-should-filter-refs.Post tt)
smooth_should_filter_refs_once a x y s t p q = rule_same x y (p ∙ sym q)

smooth_filter_references_once : (κs : Lfts 2) → Once (smooth-filter-references.Post κs)
smooth_filter_references_once κs a x y s t p q = row_pair_same x y (p ∙ sym q)

smooth_filter_luma_refs_once : (κs : Lfts 2) → Once (smooth-filter-luma-refs.Post κs)
smooth_filter_luma_refs_once κs a x y s t p q = smoothed_same x y (p ∙ sym q)

-- substitution

substitution_substitute_refs_once : Once (substitution-substitute-refs.Post tt)
substitution_substitute_refs_once a x y s t p q = gathered_same x y (p ∙ sym q)

-- refs
refs_get_reference_samples_once : (κs : Lfts 1) → Once (refs-get-reference-samples.Post κs)
refs_get_reference_samples_once κs a x y s t p q = gathered_same x y (p ∙ sym q)

refs_get_reference_samples_chroma_pair_once : (κs : Lfts 2) → Once (refs-get-reference-samples-chroma-pair.Post κs)
refs_get_reference_samples_chroma_pair_once κs a x y s t p q = gathered_pair_same x y (p ∙ sym q)

refs_check_gather_once : Once (refs-check-gather.Post tt)
refs_check_gather_once a x y s t p q = own_once a.1.0 x y (p.0 ∙ sym q.0) p.1 q.1

refs_luma_layout_once : Once (refs-luma-layout.Post tt)
refs_luma_layout_once a x y s t p q = laid_same x y (p ∙ sym q)

refs_chroma_layout_once : Once (refs-chroma-layout.Post tt)
refs_chroma_layout_once a x y s t p q = laid_same x y (p ∙ sym q)

-- records
records_record_at_once : (κs : Lfts 1) → Once (records-record-at.Post κs)
records_record_at_once κs a x y s t p q = p ∙ sym q

-- plan
-- of a plan of numbers
plan_block_at_once : (κs : Lfts 1) → Once (plan-block-at.Post κs)
plan_block_at_once κs a x y s t p q = p ∙ sym q

plan_is_whole_once : (κs : Lfts 1) → Once (plan-is-whole.Post κs)
plan_is_whole_once κs a x y s t p q = p ∙ sym q

plan_count_once : (κs : Lfts 1) → Once (plan-count.Post κs)
plan_count_once κs a x y s t p q = p ∙ sym q

-- of a plan of block records
plan_records_block_once : (κs : Lfts 1) → Once (plan-records-block.Post κs)
plan_records_block_once κs a x y s t p q = p ∙ sym q

plan_records_whole_once : (κs : Lfts 1) → Once (plan-records-whole.Post κs)
plan_records_whole_once κs a x y s t p q = p ∙ sym q

plan_records_count_once : (κs : Lfts 1) → Once (plan-records-count.Post κs)
plan_records_count_once κs a x y s t p q = p ∙ sym q

-- of a plan of bytes
plan_bytes_block_once : (κs : Lfts 1) → Once (plan-bytes-block.Post κs)
plan_bytes_block_once κs a x y s t p q = p ∙ sym q

plan_bytes_whole_once : (κs : Lfts 1) → Once (plan-bytes-whole.Post κs)
plan_bytes_whole_once κs a x y s t p q = p ∙ sym q

plan_bytes_count_once : (κs : Lfts 1) → Once (plan-bytes-count.Post κs)
plan_bytes_count_once κs a x y s t p q = p ∙ sym q

-- of a plan in any form
plan_check_once : (P : _) (laws : _) (copy : _) (blocks : _) (methods : _) (clone : _) (cloned : _) (κs : Lfts 1)
    → Once (plan-check.Post P laws copy blocks methods clone cloned κs)
plan_check_once P laws copy blocks methods clone cloned κs a x y s t p q = verdict_same x y (p ∙ sym q)

plan_check_plan_numbers_once : (κs : Lfts 4) → Once (plan-check-plan-numbers.Post κs)
plan_check_plan_numbers_once κs a x y s t p q = verdict_same x y (p ∙ sym q)

plan_check_plan_bytes_once : (κs : Lfts 1) → Once (plan-check-plan-bytes.Post κs)
plan_check_plan_bytes_once κs a x y s t p q = verdict_same x y (p ∙ sym q)

-- calls
calls_doing_of_once : Once (calls-doing-of.Post tt)
calls_doing_of_once a x y s t p q = p ∙ sym q

-- walk
walk_fresh_once : Once (walk-fresh.Post tt)
walk_fresh_once a x y s t p q = p ∙ sym q

-- checks

checks_check_opening_once : Once (checks-check-opening.Post tt)
checks_check_opening_once a x y s t p q = same_outcome x y (p ∙ sym q)

walk_granted_once : (P : _) (laws : _) (copy : _) (blocks : _) (methods : _) (clone : _) (cloned : _) (κs : Lfts 1)
    → Once (walk-granted.Post P laws copy blocks methods clone cloned κs)
walk_granted_once P laws copy blocks methods clone cloned κs a x y s t p q = granted_same x y (p ∙ sym q)

-- block
block_geometry_once : Once (block-geometry.Post tt)
block_geometry_once a x y s t p q = p ∙ sym q

block_base_of_once : Once (block-base-of.Post tt)
block_base_of_once a x y s t p q = p ∙ sym q

-- probes
probes_salvrunde_probe_depth_once : Once (probes-salvrunde-probe-depth.Post tt)
probes_salvrunde_probe_depth_once a x y s t p q = p ∙ sym q

probes_salvrunde_probe_format_once : Once (probes-salvrunde-probe-format.Post tt)
probes_salvrunde_probe_format_once a x y s t p q = p ∙ sym q

probes_salvrunde_probe_on_luma_once : Once (probes-salvrunde-probe-on-luma.Post tt)
probes_salvrunde_probe_on_luma_once a x y s t p q = p ∙ sym q

probes_salvrunde_probe_on_chroma_once : Once (probes-salvrunde-probe-on-chroma.Post tt)
probes_salvrunde_probe_on_chroma_once a x y s t p q = p ∙ sym q

probes_salvrunde_probe_decode_order_once : Once (probes-salvrunde-probe-decode-order.Post tt)
probes_salvrunde_probe_decode_order_once a x y s t p q = p ∙ sym q

probes_salvrunde_probe_is_available_once : Once (probes-salvrunde-probe-is-available.Post tt)
probes_salvrunde_probe_is_available_once a x y s t p q = p ∙ sym q

probes_salvrunde_probe_should_filter_refs_once : Once (probes-salvrunde-probe-should-filter-refs.Post tt)
probes_salvrunde_probe_should_filter_refs_once a x y s t p q = p ∙ sym q

probes_salvrunde_probe_filter_references_once : (κs : Lfts 2) → Once (probes-salvrunde-probe-filter-references.Post κs)
probes_salvrunde_probe_filter_references_once κs a x y s t p q = p ∙ sym q

probes_salvrunde_probe_filter_luma_refs_once : (κs : Lfts 2) → Once (probes-salvrunde-probe-filter-luma-refs.Post κs)
probes_salvrunde_probe_filter_luma_refs_once κs a x y s t p q = p ∙ sym q

probes_salvrunde_probe_substitute_refs_once : (κs : Lfts 4) → Once (probes-salvrunde-probe-substitute-refs.Post κs)
probes_salvrunde_probe_substitute_refs_once κs a x y s t p q = p ∙ sym q

probes_salvrunde_probe_picture_checksum_once : (κs : Lfts 1) → Once (probes-salvrunde-probe-picture-checksum.Post κs)
probes_salvrunde_probe_picture_checksum_once κs a x y s t p q = p ∙ sym q

probes_salvrunde_probe_get_reference_samples_once : (κs : Lfts 1) → Once (probes-salvrunde-probe-get-reference-samples.Post κs)
probes_salvrunde_probe_get_reference_samples_once κs a x y s t p q = p ∙ sym q

probes_salvrunde_probe_get_reference_samples_chroma_pair_once : (κs : Lfts 2)
    → Once (probes-salvrunde-probe-get-reference-samples-chroma-pair.Post κs)
probes_salvrunde_probe_get_reference_samples_chroma_pair_once κs a x y s t p q = p ∙ sym q

error_probes_salvrunde_probe_count_errors_once : (κs : Lfts 9) → Once (error-probes-salvrunde-probe-count-errors.Post κs)
error_probes_salvrunde_probe_count_errors_once κs a x y s t p q = p ∙ sym q

walk_probes_salvrunde_probe_check_plan_once : (κs : Lfts 4) → Once (walk-probes-salvrunde-probe-check-plan.Post κs)
walk_probes_salvrunde_probe_check_plan_once κs a x y s t p q = p ∙ sym q

-- planar and DC
planar_dc_predict_planar_into_once : (κs : Lfts 3) → OnceLeft (λ s. s.1.1.1.0.now) (planar-dc-predict-planar-into.Post κs)
planar_dc_predict_planar_into_once κs a x y s t p q = by_answer _ _ p.0 q.0 p.1 q.1

planar_dc_predict_dc_into_once : (κs : Lfts 3) → OnceLeft (λ s. s.1.1.1.1.0.now) (planar-dc-predict-dc-into.Post κs)
planar_dc_predict_dc_into_once κs a x y s t p q = by_answer _ _ p.0 q.0 p.1 q.1

-- angular
angular_predict_angular_slices_once : (κs : Lfts 6)
    → OnceRefused {K = Three} (λ r. no_of r) (λ s. s.1.1.1.1.1.1.1.0.now)
    (λ s. let l = s.1.1.1.1.1.1.1.1 in (l.0.now, (l.1.0.now, l.1.1.0.now)))
    (angular-predict-angular-slices.Post κs)
angular_predict_angular_slices_once κs a x y s t p q =
    and_scratch (λ r. no_of r) (by_answer _ _ p.0 q.0 p.1.0 q.1.0) (λ h. together (p.1.1 h)) (λ h. together (q.1.1 h))

angular_vertical_refs_once : (κs : Lfts 3) → OnceLeft (λ s. s.1.1.1.1.1.0.now) (angular-vertical-refs.Post κs)
angular_vertical_refs_once κs a x y s t p q = by_answer _ _ p.0 q.0 p.1 q.1

angular_vertical_rows_once : (κs : Lfts 3) → OnceLeft (λ s. s.1.1.1.1.1.1.0.now) (angular-vertical-rows.Post κs)
angular_vertical_rows_once κs a x y s t p q = by_answer _ _ p.0 q.0 p.1 q.1

-- predict
predict_predict_chroma_tb_slices_once : (κs : Lfts 6)
    → OnceRefused {K = Three} (λ r. no_of r) (λ s. s.1.1.1.1.1.1.0.now)
    (λ s. let l = s.1.1.1.1.1.1.1 in (l.0.now, (l.1.0.now, l.1.1.0.now)))
    (predict-predict-chroma-tb-slices.Post κs)
predict_predict_chroma_tb_slices_once κs a x y s t p q =
    and_scratch (λ r. no_of r) (by_answer _ _ p.0 q.0 p.1.0 q.1.0) (λ h. together (p.1.1 h)) (λ h. together (q.1.1 h))

predict_predict_luma_tb_slices_once : (κs : Lfts 4)
    → OnceRefused {K = Three} (λ r. no_of r) (λ s. s.1.1.1.1.0.now)
    (λ s. let l = s.1.1.1.1.1 in (l.0.now, (l.1.0.now, l.1.1.0.now)))
    (predict-predict-luma-tb-slices.Post κs)
predict_predict_luma_tb_slices_once κs a x y s t p q =
    and_scratch (λ r. no_of r) (by_answer _ _ p.0 q.0 p.1.0 q.1.0) (λ h. together (p.1.1 h)) (λ h. together (q.1.1 h))

-- as the probe hands it over
abbrev handed_over : Chosen → Choice
handed_over c = record { no = c.no; mode = c.mode; sum = c.sum }

-- choose: all that is lent to be written is scratch
choose_choose_mode_once : (κs : Lfts 7)
    → OnceRefused {L = Unit {0}} {K = List ℕ × Three} (λ r. no_of r) (λ s. tt)
    (λ s. let l = s.1.1.1.1.1.1 in (l.0.now, (l.1.0.now, (l.1.1.0.now, l.1.1.1.0.now))))
    (choose-choose-mode.Post κs)
choose_choose_mode_once κs a x y s t p q =
    and_scratch (λ r. no_of r) (chosen_same x y (chosen_once _ _ p.0 q.0), refl) (λ h. all_four (p.1 h)) (λ h. all_four (q.1 h))

choose_choose_early_once : (κs : Lfts 7)
    → OnceRefused {L = Unit {0}} {K = List ℕ × Three} (λ r. no_of r) (λ s. tt)
    (λ s. let l = s.1.1.1.1.1.1 in (l.0.now, (l.1.0.now, (l.1.1.0.now, l.1.1.1.0.now))))
    (choose-choose-early.Post κs)
choose_choose_early_once κs a x y s t p q =
    and_scratch (λ r. no_of r) (chosen_same x y (chosen_once _ _ p.0 q.0), refl) (λ h. all_four (p.1 h)) (λ h. all_four (q.1 h))

-- scratch
scratch_new_once : Once (scratch-new.Post tt)
scratch_new_once a x y s t p q = p ∙ sym q

scratch_angular_predict_angular_fresh_once : (κs : Lfts 3)
    → OnceLeft (λ s. s.1.1.1.1.1.1.1.0.now) (scratch-angular-predict-angular-fresh.Post κs)
scratch_angular_predict_angular_fresh_once κs a x y s t p q = by_answer _ _ p.0 q.0 p.1 q.1

scratch_predict_predict_chroma_tb_fresh_once : (κs : Lfts 3)
    → OnceLeft (λ s. s.1.1.1.1.1.1.0.now) (scratch-predict-predict-chroma-tb-fresh.Post κs)
scratch_predict_predict_chroma_tb_fresh_once κs a x y s t p q = by_answer _ _ p.0 q.0 p.1 q.1

scratch_predict_predict_luma_tb_fresh_once : (κs : Lfts 1)
    → OnceLeft (λ s. s.1.1.1.1.0.now) (scratch-predict-predict-luma-tb-fresh.Post κs)
scratch_predict_predict_luma_tb_fresh_once κs a x y s t p q = by_answer _ _ p.0 q.0 p.1 q.1

-- residual
residual_compute_residual_i32_into_once : (κs : Lfts 3) → OnceLeft (λ s. s.1.1.1.0.now) (residual-compute-residual-i32-into.Post κs)
residual_compute_residual_i32_into_once κs a x y s t p q = (same_outcome x y (p.0 ∙ sym q.0), p.1 ∙ sym q.1)

residual_reconstruct_into_once : (κs : Lfts 3) → OnceLeft (λ s. s.1.1.1.1.0.now) (residual-reconstruct-into.Post κs)
residual_reconstruct_into_once κs a x y s t p q = (same_outcome x y (p.0 ∙ sym q.0), p.1 ∙ sym q.1)

-- probes
predict_probes_salvrunde_probe_predict_planar_into_once : (κs : Lfts 3)
    → OnceLeft (λ s. s.1.1.1.0.now) (predict-probes-salvrunde-probe-predict-planar-into.Post κs)
predict_probes_salvrunde_probe_predict_planar_into_once κs a x y s t p q = by_number _ _ p.0 q.0 p.1 q.1

predict_probes_salvrunde_probe_predict_dc_into_once : (κs : Lfts 3)
    → OnceLeft (λ s. s.1.1.1.1.0.now) (predict-probes-salvrunde-probe-predict-dc-into.Post κs)
predict_probes_salvrunde_probe_predict_dc_into_once κs a x y s t p q = by_number _ _ p.0 q.0 p.1 q.1

predict_probes_salvrunde_probe_predict_angular_slices_once : (κs : Lfts 6)
    → OnceRefused {K = Three} (λ r. r) (λ s. s.1.1.1.1.1.1.1.0.now)
    (λ s. let l = s.1.1.1.1.1.1.1.1 in (l.0.now, (l.1.0.now, l.1.1.0.now)))
    (predict-probes-salvrunde-probe-predict-angular-slices.Post κs)
predict_probes_salvrunde_probe_predict_angular_slices_once κs a x y s t p q =
    and_scratch (λ r. r) (by_number _ _ p.0 q.0 p.1.0 q.1.0) (λ h. together (p.1.1 h)) (λ h. together (q.1.1 h))

predict_probes_salvrunde_probe_predict_chroma_tb_slices_once : (κs : Lfts 6)
    → OnceRefused {K = Three} (λ r. r) (λ s. s.1.1.1.1.1.1.0.now)
    (λ s. let l = s.1.1.1.1.1.1.1 in (l.0.now, (l.1.0.now, l.1.1.0.now)))
    (predict-probes-salvrunde-probe-predict-chroma-tb-slices.Post κs)
predict_probes_salvrunde_probe_predict_chroma_tb_slices_once κs a x y s t p q =
    and_scratch (λ r. r) (by_number _ _ p.0 q.0 p.1.0 q.1.0) (λ h. together (p.1.1 h)) (λ h. together (q.1.1 h))

predict_probes_salvrunde_probe_predict_luma_tb_slices_once : (κs : Lfts 6)
    → OnceRefused {K = Three} (λ r. r) (λ s. s.1.1.1.1.1.1.0.now)
    (λ s. let l = s.1.1.1.1.1.1.1 in (l.0.now, (l.1.0.now, l.1.1.0.now)))
    (predict-probes-salvrunde-probe-predict-luma-tb-slices.Post κs)
predict_probes_salvrunde_probe_predict_luma_tb_slices_once κs a x y s t p q =
    and_scratch (λ r. r) (by_number _ _ p.0 q.0 p.1.0 q.1.0) (λ h. together (p.1.1 h)) (λ h. together (q.1.1 h))

predict_probes_salvrunde_probe_choose_mode_once : (κs : Lfts 7)
    → OnceRefused {L = Unit {0}} {K = List ℕ × Three} (λ r. r.no) (λ s. tt)
    (λ s. let l = s.1.1.1.1.1.1 in (l.0.now, (l.1.0.now, (l.1.1.0.now, l.1.1.1.0.now))))
    (predict-probes-salvrunde-probe-choose-mode.Post κs)
predict_probes_salvrunde_probe_choose_mode_once κs a x y s t p q =
    and_scratch (λ r. r.no) (ap handed_over (chosen_once _ _ p.0 q.0), refl) (λ h. all_four (p.1 h)) (λ h. all_four (q.1 h))

predict_probes_salvrunde_probe_choose_early_once : (κs : Lfts 7)
    → OnceRefused {L = Unit {0}} {K = List ℕ × Three} (λ r. r.no) (λ s. tt)
    (λ s. let l = s.1.1.1.1.1.1 in (l.0.now, (l.1.0.now, (l.1.1.0.now, l.1.1.1.0.now))))
    (predict-probes-salvrunde-probe-choose-early.Post κs)
predict_probes_salvrunde_probe_choose_early_once κs a x y s t p q =
    and_scratch (λ r. r.no) (ap handed_over (chosen_once _ _ p.0 q.0), refl) (λ h. all_four (p.1 h)) (λ h. all_four (q.1 h))

predict_probes_salvrunde_probe_predict_angular_scratch_once : (κs : Lfts 3)
    → OnceLeft (λ s. s.1.1.1.1.1.1.1.0.now) (predict-probes-salvrunde-probe-predict-angular-scratch.Post κs)
predict_probes_salvrunde_probe_predict_angular_scratch_once κs a x y s t p q = by_number _ _ p.0 q.0 p.1 q.1

predict_probes_salvrunde_probe_predict_chroma_tb_scratch_once : (κs : Lfts 3)
    → OnceLeft (λ s. s.1.1.1.1.1.1.0.now) (predict-probes-salvrunde-probe-predict-chroma-tb-scratch.Post κs)
predict_probes_salvrunde_probe_predict_chroma_tb_scratch_once κs a x y s t p q = by_number _ _ p.0 q.0 p.1 q.1

predict_probes_salvrunde_probe_predict_luma_tb_scratch_once : (κs : Lfts 3)
    → OnceLeft (λ s. s.1.1.1.1.1.1.0.now) (predict-probes-salvrunde-probe-predict-luma-tb-scratch.Post κs)
predict_probes_salvrunde_probe_predict_luma_tb_scratch_once κs a x y s t p q = by_number _ _ p.0 q.0 p.1 q.1

predict_probes_salvrunde_probe_compute_residual_i32_into_once : (κs : Lfts 3)
    → OnceLeft (λ s. s.1.1.1.0.now) (predict-probes-salvrunde-probe-compute-residual-i32-into.Post κs)
predict_probes_salvrunde_probe_compute_residual_i32_into_once κs a x y s t p q = (p.0 ∙ sym q.0, p.1 ∙ sym q.1)

predict_probes_salvrunde_probe_reconstruct_into_once : (κs : Lfts 3)
    → OnceLeft (λ s. s.1.1.1.1.0.now) (predict-probes-salvrunde-probe-reconstruct-into.Post κs)
predict_probes_salvrunde_probe_reconstruct_into_once κs a x y s t p q = (p.0 ∙ sym q.0, p.1 ∙ sym q.1)

walk_probes_salvrunde_probe_walk_once : (κs : Lfts 10)
    → OnceRefused {L = World} {K = Three} (λ r. r.no)
    (λ s. record { work = s.1.1.1.1.1.1.1.1.1.1.0.now; residuals = s.1.1.1.1.1.1.1.1.1.1.1.0.now })
    (λ s. let l = s.1.1.1.1.1.1.1.1.1.1.1.1 in (l.0.now, (l.1.0.now, l.1.1.0.now)))
    (walk-probes-salvrunde-probe-walk.Post κs)
walk_probes_salvrunde_probe_walk_once κs a x y s t p q =
    and_scratch (λ r. r.no) (p.0 ∙ sym q.0, p.1.0 ∙ sym q.1.0) (λ h. together (p.1.1 h)) (λ h. together (q.1.1 h))

walk_probes_salvrunde_probe_replay_once : (κs : Lfts 9)
    → OnceRefused {K = Three} (λ r. r.no) (λ s. s.1.1.1.1.1.1.1.1.1.1.0.now)
    (λ s. let l = s.1.1.1.1.1.1.1.1.1.1.1 in (l.0.now, (l.1.0.now, l.1.1.0.now)))
    (walk-probes-salvrunde-probe-replay.Post κs)
walk_probes_salvrunde_probe_replay_once κs a x y s t p q =
    and_scratch (λ r. r.no) (p.0 ∙ sym q.0, p.1.0 ∙ sym q.1.0) (λ h. together (p.1.1 h)) (λ h. together (q.1.1 h))

-- camera: what an entry on bytes gives back and writes
by_written : {x y : ℕ} {l m : List ℕ} {w : Written} → wrote x l ≡ w → wrote y m ≡ w → (x ≡ y) × (l ≡ m)
by_written p q = (ap (λ (v : Written). v.number) (p ∙ sym q), ap (λ (v : Written). v.bytes) (p ∙ sym q))

by_after : {x y : ℕ} {d e f g : List ℕ} {a : After}
    → ◌≡◌ {A = After} (record { number = x; plane = d; result = f }) a → ◌≡◌ {A = After} (record { number = y; plane = e; result = g }) a
    → (x ≡ y) × (◌≡◌ {A = List ℕ × List ℕ} (d, f) (e, g))
by_after p q = (ap (λ (v : After). v.number) (p ∙ sym q), ap (λ (v : After). (v.plane, v.result)) (p ∙ sym q))

camera_salvrunde_luma_refs_once : (κs : Lfts 2) → OnceLeft (λ s. s.1.1.1.1.1.1.1.1.1.0.now) (camera-salvrunde-luma-refs.Post κs)
camera_salvrunde_luma_refs_once κs a x y s t p q = by_written p q

camera_salvrunde_chroma_refs_ctu_once : (κs : Lfts 3)
    → OnceLeft (λ s. s.1.1.1.1.1.1.1.1.1.1.1.1.1.0.now) (camera-salvrunde-chroma-refs-ctu.Post κs)
camera_salvrunde_chroma_refs_ctu_once κs a x y s t p q = by_written p q

camera_salvrunde_checksum_once : (κs : Lfts 2) → OnceLeft (λ s. s.1.1.1.1.1.1.1.0.now) (camera-salvrunde-checksum.Post κs)
camera_salvrunde_checksum_once κs a x y s t p q = by_written p q

camera_salvrunde_count_errors_once : (κs : Lfts 4) → OnceLeft (λ s. s.1.1.1.0.now) (camera-salvrunde-count-errors.Post κs)
camera_salvrunde_count_errors_once κs a x y s t p q = by_entered p q

camera_salvrunde_join_errors_once : (κs : Lfts 2) → OnceLeft (λ s. s.1.0.now) (camera-salvrunde-join-errors.Post κs)
camera_salvrunde_join_errors_once κs a x y s t p q = by_entered p q

camera_salvrunde_planar_once : (κs : Lfts 3) → OnceLeft (λ s. s.1.1.1.0.now) (camera-salvrunde-planar.Post κs)
camera_salvrunde_planar_once κs a x y s t p q = by_written p q

camera_salvrunde_dc_once : (κs : Lfts 3) → OnceLeft (λ s. s.1.1.1.1.0.now) (camera-salvrunde-dc.Post κs)
camera_salvrunde_dc_once κs a x y s t p q = by_written p q

camera_salvrunde_angular_once : (κs : Lfts 3) → OnceLeft (λ s. s.1.1.1.1.1.1.1.0.now) (camera-salvrunde-angular.Post κs)
camera_salvrunde_angular_once κs a x y s t p q = by_written p q

camera_salvrunde_chroma_block_once : (κs : Lfts 3) → OnceLeft (λ s. s.1.1.1.1.1.1.0.now) (camera-salvrunde-chroma-block.Post κs)
camera_salvrunde_chroma_block_once κs a x y s t p q = by_written p q

camera_salvrunde_luma_block_once : (κs : Lfts 3) → OnceLeft (λ s. s.1.1.1.1.1.1.0.now) (camera-salvrunde-luma-block.Post κs)
camera_salvrunde_luma_block_once κs a x y s t p q = by_written p q

-- the mode and the sum that the entry writes
chosen_into_once : (k : ℕ) (sums : ℕ → ℕ) (d : List ℕ) {x y : ℕ} {l m : List ℕ} → ChoosesInto k sums d (wrote x l)
    → ChoosesInto k sums d (wrote y m) → (x ≡ y) × (l ≡ m)
chosen_into_once k sums d {l = l} {m = m} p q = (p.number ∙ sym q.number, go (eqb k 0) refl)
  where
    go : (b : Bool) → eqb k 0 ≡ b → l ≡ m
    go true e =
        let z = eqb-true k 0 e in
        let a = p.best z in
        let b = q.best z in
        let same = least_once sums 35 a.best b.best in
        a.stored ∙ ap₂ (λ (v w : ℕ). pair_into v w d) same.0 same.1 ∙ sym b.stored
    go false e = let z = eqb-false k 0 e in p.kept z ∙ sym (q.kept z)

camera_salvrunde_choose_once : (κs : Lfts 4) → OnceLeft (λ s. s.1.1.1.1.1.1.0.now) (camera-salvrunde-choose.Post κs)
camera_salvrunde_choose_once κs a x y s t p q = chosen_into_once _ _ _ p q

camera_salvrunde_choose_early_once : (κs : Lfts 4) → OnceLeft (λ s. s.1.1.1.1.1.1.0.now) (camera-salvrunde-choose-early.Post κs)
camera_salvrunde_choose_early_once κs a x y s t p q = chosen_into_once _ _ _ p q

camera_salvrunde_replay_once : (κs : Lfts 4)
    → OnceLeft {L = List ℕ × List ℕ} (λ s. (s.1.1.1.1.1.1.1.1.0.now, s.1.1.1.1.1.1.1.1.1.0.now))
    (camera-salvrunde-replay.Post κs)
camera_salvrunde_replay_once κs a x y s t p q = by_after p q

-- walk
walk_replay_numbers_once : (κs : Lfts 9)
    → OnceRefused {K = Three} (λ r. (stepped_of r).no) (λ s. s.1.1.1.1.1.1.1.0.now)
    (λ s. let l = s.1.1.1.1.1.1.1.1 in (l.0.now, (l.1.0.now, l.1.1.0.now)))
    (walk-replay-numbers.Post κs)
walk_replay_numbers_once κs a x y s t p q =
    and_scratch (λ r. (stepped_of r).no) (stepped_same x y (p.0 ∙ sym q.0), p.1.0 ∙ sym q.1.0) (λ h. together (p.1.1 h)) (λ h. together (q.1.1 h))

walk_walk_numbers_once : (κs : Lfts 10)
    → OnceRefused {L = World} {K = Three} (λ r. (stepped_of r).no)
    (λ s. record { work = s.1.1.1.1.1.1.1.0.now; residuals = s.1.1.1.1.1.1.1.1.0.now })
    (λ s. let l = s.1.1.1.1.1.1.1.1.1 in (l.0.now, (l.1.0.now, l.1.1.0.now)))
    (walk-walk-numbers.Post κs)
walk_walk_numbers_once κs a x y s t p q =
    and_scratch (λ r. (stepped_of r).no) (stepped_same x y (p.0 ∙ sym q.0), p.1.0 ∙ sym q.1.0) (λ h. together (p.1.1 h)) (λ h. together (q.1.1 h))

-- report
report_report_once : (κs : Lfts 1) → Once (report-report.Post κs)
report_report_once κs a x y s t p q = p ∙ sym q

-- The functions that hold a reference to a struct or to records, said of their clauses: a clause is an assertion of any model, and two
-- answers that both meet it there are one.
module _ {M : Type 1} {𝓤 : Ura M} (𝓛 : Logic 𝓤) (mem : Memory → SProp 𝓤) (run : Routine → Fun 𝓤) where
  abbrev OnceHeld : (T : Ended) (κs : Lfts T.signature.lifetimes) {L : Type 0} → (AtExit T κs → L) → Clauses 𝓤 T → Type 1
  OnceHeld T κs lent c = (a : Args T.signature κs) (g : (c κs a).ghost) (x y : Res T.signature κs) (s t : AtExit T κs)
      → ent 𝓤 (sep 𝓤 ((c κs a).ensures g x s) ((c κs a).ensures g y t)) (fact 𝓤 ((x ≡ y) × (lent s ≡ lent t)))

  abbrev OnceHeldRefused : (T : Ended) (κs : Lfts T.signature.lifetimes) {L K : Type 0}
      → (Res T.signature κs → ℕ) → (AtExit T κs → L) → (AtExit T κs → K) → Clauses 𝓤 T → Type 1
  OnceHeldRefused T κs number lent scratch c =
      (a : Args T.signature κs) (g : (c κs a).ghost) (x y : Res T.signature κs) (s t : AtExit T κs)
      → ent 𝓤 (sep 𝓤 ((c κs a).ensures g x s) ((c κs a).ensures g y t))
      (fact 𝓤 ((x ≡ y) × ((lent s ≡ lent t) × (¬ (number x ≡ 0) → scratch s ≡ scratch t))))

  held_both : (φ ψ χ : Type 0) → (φ → ψ → χ) → ent 𝓤 (sep 𝓤 (fact 𝓤 φ) (fact 𝓤 ψ)) (fact 𝓤 χ)
  held_both φ ψ χ f =
      fact_use 𝓤 φ (fst∗ 𝓤 (fact 𝓤 φ) (fact 𝓤 ψ)) (λ p. via 𝓤 (fact 𝓤 ψ) (snd∗ 𝓤 (fact 𝓤 φ) (fact 𝓤 ψ)) (fact_mono 𝓤 ψ χ (f p)))

  -- scratch
  scratch_angular_predict_angular_into_once : (κs : Lfts 4)
      → OnceHeldRefused scratch-angular-predict-angular-into.ended κs (λ r. no_of r)
      (λ s. s.1.1.1.1.1.1.1.0.now) (λ s. s.1.1.1.1.1.1.1.1.0.now)
      (scratch-angular-predict-angular-into.clauses 𝓛 mem run)
  scratch_angular_predict_angular_into_once κs a g x y s t =
      held_both _ _ _ (λ p q. and_scratch (λ r. no_of r) (by_answer _ _ p.0 q.0 p.1.0 q.1.0) p.1.1 q.1.1)

  scratch_predict_predict_chroma_tb_into_once : (κs : Lfts 4)
      → OnceHeldRefused scratch-predict-predict-chroma-tb-into.ended κs (λ r. no_of r)
      (λ s. s.1.1.1.1.1.1.0.now) (λ s. s.1.1.1.1.1.1.1.0.now)
      (scratch-predict-predict-chroma-tb-into.clauses 𝓛 mem run)
  scratch_predict_predict_chroma_tb_into_once κs a g x y s t =
      held_both _ _ _ (λ p q. and_scratch (λ r. no_of r) (by_answer _ _ p.0 q.0 p.1.0 q.1.0) p.1.1 q.1.1)

  scratch_predict_predict_luma_tb_into_once : (κs : Lfts 2)
      → OnceHeldRefused scratch-predict-predict-luma-tb-into.ended κs (λ r. no_of r)
      (λ s. s.1.1.1.1.0.now) (λ s. s.1.1.1.1.1.0.now)
      (scratch-predict-predict-luma-tb-into.clauses 𝓛 mem run)
  scratch_predict_predict_luma_tb_into_once κs a g x y s t =
      held_both _ _ _ (λ p q. and_scratch (λ r. no_of r) (by_answer _ _ p.0 q.0 p.1.0 q.1.0) p.1.1 q.1.1)

  -- plan
  plan_check_plan_once : (κs : Lfts 1) → OnceHeld plan-check-plan.ended κs {L = Unit {0}} (λ _. tt) (plan-check-plan.clauses 𝓛 mem run)
  plan_check_plan_once κs a g x y s t = held_both _ _ _ (λ p q. (verdict_same x y (p ∙ sym q), refl))

  -- errors
  errors_count_once : (κs : Lfts 3) → OnceHeld errors-count.ended κs {L = Unit {0}} (λ _. tt) (errors-count.clauses 𝓛 mem run)
  errors_count_once κs a g x y s t = held_both _ _ _ (λ p q. (counted_same x y (p ∙ sym q), refl))

  -- walk
  walk_replay_once : (κs : Lfts 4)
      → OnceHeldRefused walk-replay.ended κs (λ r. (stepped_of r).no) (λ s. s.1.1.1.1.0.now)
      (λ s. s.1.1.1.1.1.0.now) (walk-replay.clauses 𝓛 mem run)
  walk_replay_once κs a g x y s t =
      held_both _ _ _ (λ p q. and_scratch (λ r. (stepped_of r).no) (stepped_same x y (p.0 ∙ sym q.0), p.1.0 ∙ sym q.1.0) p.1.1 q.1.1)

  walk_walk_once : (κs : Lfts 5)
      → OnceHeldRefused walk-walk.ended κs {L = World} (λ r. (stepped_of r).no)
      (λ s. record { work = s.1.1.1.1.0.now; residuals = s.1.1.1.1.1.0.now })
      (λ s. s.1.1.1.1.1.1.0.now) (walk-walk.clauses 𝓛 mem run)
  walk_walk_once κs a g x y s t =
      held_both _ _ _ (λ p q. and_scratch (λ r. (stepped_of r).no) (stepped_same x y (p.0 ∙ sym q.0), p.1.0 ∙ sym q.1.0) p.1.1 q.1.1)

  -- probes
  walk_probes_salvrunde_probe_replay_records_once : (κs : Lfts 4)
      → OnceHeldRefused walk-probes-salvrunde-probe-replay-records.ended κs (λ r. r.no) (λ s. s.1.1.1.1.1.1.1.0.now)
      (λ s. s.1.1.1.1.1.1.1.1.0.now) (walk-probes-salvrunde-probe-replay-records.clauses 𝓛 mem run)
  walk_probes_salvrunde_probe_replay_records_once κs a g x y s t =
      held_both _ _ _ (λ p q. and_scratch (λ r. r.no) (p.0 ∙ sym q.0, p.1.0 ∙ sym q.1.0) p.1.1 q.1.1)

  walk_probes_salvrunde_probe_walk_records_once : (κs : Lfts 5)
      → OnceHeldRefused walk-probes-salvrunde-probe-walk-records.ended κs {L = World} (λ r. r.no)
      (λ s. record { work = s.1.1.1.1.1.1.1.0.now; residuals = s.1.1.1.1.1.1.1.1.0.now })
      (λ s. s.1.1.1.1.1.1.1.1.1.0.now) (walk-probes-salvrunde-probe-walk-records.clauses 𝓛 mem run)
  walk_probes_salvrunde_probe_walk_records_once κs a g x y s t =
      held_both _ _ _ (λ p q. and_scratch (λ r. r.no) (p.0 ∙ sym q.0, p.1.0 ∙ sym q.1.0) p.1.1 q.1.1)
