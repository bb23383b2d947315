-- Demand 1: document 01's table of numbers at every public function that gives one, over its contract as the prover reads it. Whatever
-- answer meets the contract has the number that the rows of the theorem named last give, exactly when they give it. A function that hands
-- on another's number has its rows. `Post` takes the arguments, the answer and what is lent at exit: `a.0` is the first argument,
-- `a.1.0` the second; `b`, `c` and `d` begin with the fifth, the ninth and the thirteenth. tests/doors finds a public function that
-- gives a number and has no theorem here. What a refusal leaves: tables/Refused and run_tables/Refused. Rests on the rows of tables and
-- run_tables.
use Rattle.std.specs.Prelude.{◌≡◌, refl, Bool, true, false, cond, List, ℕ, leb, eqb, length, Result, Ok, Err}
use Rattle.std.proofs.Common.{sym, ◌∙◌, subst}
use Rattle.std.proofs.Math.Path.{ap}
use seplogic.Ra.Ura.{Ura}
use base.Logic.{SProp, ent, via}
use prog.Memory.{Memory}
use prog.Routine.{Routine}
use types.Logic.{Logic}
use contract.Lifetimes.{Lfts}
use contract.Monad.{Fun, fact, fact_mono}
use denote.Triple.Clauses.{Ended, AtExit, Clauses}
use denote.Triple.Entry.{Args, Res}
use Rattle.domain.specs.declared.refusal.Refusal.{Refusal}
use Rattle.domain.specs.Refusal.{no_of}
use Rattle.domain.specs.Refused.{never_0}
use Rattle.std.proofs.lemmas.Bool.{eqb-false}
use Rattle.fmt.specs.declared.depth.BitDepth.{BitDepth}
use Rattle.fmt.specs.depth.Depth.{depth_from, depth_number}
use Rattle.refs.specs.Door.{luma_block, luma_geometry, chroma_block, chroma_geometry}
use Rattle.checksum.specs.Checksum.{row_range}
use Rattle.errors.specs.Answers.{Counted, counted_of}
use Rattle.errors.specs.Errors.{counted_by}
use Rattle.errors.specs.RecordBytes.{Entered, count_entry}
use Rattle.predict.specs.refusals.Refusals.{lengths}
use Rattle.plan.specs.declared.tiling.Fault.{Fault}
use Rattle.plan.specs.Answers.{Verdict, verdict_of}
use Rattle.plan.specs.tiling.PlanCheck.{plan_verdict}
use Rattle.walk.specs.declared.Advance.{Advance}
use Rattle.walk.specs.Answers.{stepped_of, step_in}
use Rattle.walk.specs.checks.Checks.{settle}
use Rattle.walk.specs.calls.Steps.{step_of, step_granted, step_refused}
use Rattle.plan.proofs.check.Reads as plan-check
use Rattle.plan.specs.tiling.Plan.{plan_of, listed}
use Rattle.walk.specs.declared.checks.Still.{Still}
use Rattle.walk.specs.Lent.{tables, scratch_tables, world}
use Rattle.camera.specs.Written.{Written}
use Rattle.camera.specs.replay.Verdict.{Lent}
use Rattle.camera.specs.replay.Door.{After, block_written, replayed}
use Rattle.report.specs.declared.Printout.{Printout}
use Rattle.report.specs.Told.{report_of}
use Rattle.probes.specs.error_probes.Probes.{report_with}
use Rattle.probes.specs.Probes.{figures_of}
use Rattle.probes.specs.walk_probes.Probes.{still_of}
use Rattle.promises.specs.tables.Exact.{Row, Exact, ExactFirst}
use Rattle.promises.specs.tables.Table.{depth-from, decode-order, is-available, luma-reach, chroma-reach, substitute-refs}
use Rattle.promises.specs.tables.Table.{gather_number, chroma_gather, should-filter-refs, filter-references}
use Rattle.promises.proofs.tables.Table.{luma_gather}
use Rattle.promises.specs.tables.Table.{filter-luma-refs, predict_flat, predict_luma}
use Rattle.promises.proofs.tables.Table.{predict_angular, predict_chroma}
use Rattle.promises.specs.tables.Table.{vertical_refs, vertical_rows}
use Rattle.promises.specs.tables.Table.{predict_angular_scratch, predict_chroma_scratch, predict_luma_scratch, compute_residual}
use Rattle.promises.specs.tables.Table.{reconstruct}
use Rattle.promises.specs.run_tables.TableWalk.{about, verdict_in, opening, settled}
use Rattle.promises.proofs.run_tables.TableWalk.{check_plan, check_plan_numbers, check_plan_bytes}
use Rattle.promises.proofs.run_tables.TableWalk.{walk, replay}
use Rattle.promises.proofs.run_tables.TableBytes.{luma_refs, chroma_refs, planar, dc, angular, chroma-block, luma-block}
use Rattle.promises.proofs.run_tables.TableBytes as bytes
use Rattle.promises.specs.run_tables.TableProgram.{ProgramTable}
use Rattle.promises.proofs.run_tables.TableProgram.{program}
use Rattle.promises.specs.run_tables.TableChecksum as sums
use Rattle.promises.specs.run_tables.TableChoose.{choose_mode, choose}
use Rattle.promises.specs.run_tables.TableErrors.{entry_verdict}
use Rattle.promises.proofs.run_tables.TableErrors as pairs
use Rattle.camera.proofs.salvrunde_angular.Reads as camera-salvrunde-angular
use Rattle.camera.proofs.salvrunde_checksum.Reads as camera-salvrunde-checksum
use Rattle.camera.proofs.salvrunde_count_errors.Reads as camera-salvrunde-count-errors
use Rattle.camera.proofs.salvrunde_join_errors.Reads as camera-salvrunde-join-errors
use Rattle.camera.proofs.salvrunde_chroma_block.Reads as camera-salvrunde-chroma-block
use Rattle.camera.proofs.salvrunde_luma_block.Reads as camera-salvrunde-luma-block
use Rattle.camera.proofs.salvrunde_choose.Reads as camera-salvrunde-choose
use Rattle.camera.proofs.salvrunde_choose_early.Reads as camera-salvrunde-choose-early
use Rattle.camera.proofs.salvrunde_chroma_refs_ctu.Reads as camera-salvrunde-chroma-refs-ctu
use Rattle.camera.proofs.salvrunde_dc.Reads as camera-salvrunde-dc
use Rattle.camera.proofs.salvrunde_luma_refs.Reads as camera-salvrunde-luma-refs
use Rattle.camera.proofs.salvrunde_planar.Reads as camera-salvrunde-planar
use Rattle.camera.proofs.salvrunde_replay.Reads as camera-salvrunde-replay
use Rattle.checksum.proofs.on_bytes.picture_checksum_bytes.Reads as on-bytes-picture-checksum-bytes
use Rattle.checksum.proofs.picture_checksum.Reads as checksum-picture-checksum
use Rattle.choose.proofs.choose_early.Reads as choose-choose-early
use Rattle.choose.proofs.choose_mode.Reads as choose-choose-mode
use Rattle.errors.proofs.Report.count_numbers.Reads as errors-count-numbers
use Rattle.errors.specs.contracts.Report.count as errors-count
use Rattle.errors.proofs.Report.join.Reads as errors-join
use Rattle.errors.proofs.on_bytes.count_bytes.Reads as on-bytes-count-bytes
use Rattle.errors.proofs.record.count_into.Reads as record-count-into
use Rattle.errors.proofs.record.join_into.Reads as record-join-into
use Rattle.fmt.proofs.depth.BitDepth.from_bits.Reads as depth-from-bits
use Rattle.order.proofs.chroma_reach.Reads as order-chroma-reach
use Rattle.order.proofs.decode_order.Reads as order-decode-order
use Rattle.order.proofs.is_available.Reads as order-is-available
use Rattle.order.proofs.luma_reach.Reads as order-luma-reach
use Rattle.plan.specs.contracts.check_plan as plan-check-plan
use Rattle.plan.proofs.check_plan_bytes.Reads as plan-check-plan-bytes
use Rattle.plan.proofs.check_plan_numbers.Reads as plan-check-plan-numbers
use Rattle.predict.proofs.angular.predict_angular_slices.Reads as angular-predict-angular-slices
use Rattle.predict.proofs.angular.vertical_refs.Reads as angular-vertical-refs
use Rattle.predict.proofs.angular.vertical_rows.Reads as angular-vertical-rows
use Rattle.predict.proofs.planar_dc.predict_dc_into.Reads as planar-dc-predict-dc-into
use Rattle.predict.proofs.planar_dc.predict_planar_into.Reads as planar-dc-predict-planar-into
use Rattle.predict.proofs.predict_chroma_tb_slices.Reads as predict-predict-chroma-tb-slices
use Rattle.predict.proofs.predict_luma_tb_slices.Reads as predict-predict-luma-tb-slices
use Rattle.predict.proofs.scratch_angular.predict_angular_fresh.Reads as scratch-angular-predict-angular-fresh
use Rattle.predict.specs.contracts.scratch_angular.predict_angular_into as scratch-angular-predict-angular-into
use Rattle.predict.proofs.scratch_predict.predict_chroma_tb_fresh.Reads as scratch-predict-predict-chroma-tb-fresh
use Rattle.predict.specs.contracts.scratch_predict.predict_chroma_tb_into as scratch-predict-predict-chroma-tb-into
use Rattle.predict.proofs.scratch_predict.predict_luma_tb_fresh.Reads as scratch-predict-predict-luma-tb-fresh
use Rattle.predict.specs.contracts.scratch_predict.predict_luma_tb_into as scratch-predict-predict-luma-tb-into
use Rattle.probes.proofs.predict_probes.salvrunde_probe_compute_residual_i32_into.Reads as predict-probes-salvrunde-probe-compute-residual-i32-into
use Rattle.probes.proofs.predict_probes.salvrunde_probe_predict_angular_scratch.Reads as predict-probes-salvrunde-probe-predict-angular-scratch
use Rattle.probes.proofs.predict_probes.salvrunde_probe_predict_angular_slices.Reads as predict-probes-salvrunde-probe-predict-angular-slices
use Rattle.probes.proofs.predict_probes.salvrunde_probe_predict_chroma_tb_scratch.Reads as predict-probes-salvrunde-probe-predict-chroma-tb-scratch
use Rattle.probes.proofs.predict_probes.salvrunde_probe_predict_chroma_tb_slices.Reads as predict-probes-salvrunde-probe-predict-chroma-tb-slices
use Rattle.probes.proofs.predict_probes.salvrunde_probe_predict_dc_into.Reads as predict-probes-salvrunde-probe-predict-dc-into
use Rattle.probes.proofs.predict_probes.salvrunde_probe_predict_luma_tb_scratch.Reads as predict-probes-salvrunde-probe-predict-luma-tb-scratch
use Rattle.probes.proofs.predict_probes.salvrunde_probe_predict_luma_tb_slices.Reads as predict-probes-salvrunde-probe-predict-luma-tb-slices
use Rattle.probes.proofs.predict_probes.salvrunde_probe_choose_early.Reads as predict-probes-salvrunde-probe-choose-early
use Rattle.probes.proofs.predict_probes.salvrunde_probe_choose_mode.Reads as predict-probes-salvrunde-probe-choose-mode
use Rattle.probes.proofs.predict_probes.salvrunde_probe_predict_planar_into.Reads as predict-probes-salvrunde-probe-predict-planar-into
use Rattle.probes.proofs.predict_probes.salvrunde_probe_reconstruct_into.Reads as predict-probes-salvrunde-probe-reconstruct-into
use Rattle.probes.proofs.salvrunde_probe_decode_order.Reads as probes-salvrunde-probe-decode-order
use Rattle.probes.proofs.salvrunde_probe_depth.Reads as probes-salvrunde-probe-depth
use Rattle.probes.proofs.salvrunde_probe_filter_luma_refs.Reads as probes-salvrunde-probe-filter-luma-refs
use Rattle.probes.proofs.salvrunde_probe_filter_references.Reads as probes-salvrunde-probe-filter-references
use Rattle.probes.proofs.salvrunde_probe_get_reference_samples.Reads as probes-salvrunde-probe-get-reference-samples
use Rattle.probes.proofs.salvrunde_probe_get_reference_samples_chroma_pair.Reads as probes-salvrunde-probe-get-reference-samples-chroma-pair
use Rattle.probes.proofs.salvrunde_probe_is_available.Reads as probes-salvrunde-probe-is-available
use Rattle.probes.proofs.salvrunde_probe_picture_checksum.Reads as probes-salvrunde-probe-picture-checksum
use Rattle.probes.proofs.salvrunde_probe_should_filter_refs.Reads as probes-salvrunde-probe-should-filter-refs
use Rattle.probes.proofs.salvrunde_probe_substitute_refs.Reads as probes-salvrunde-probe-substitute-refs
use Rattle.probes.proofs.error_probes.salvrunde_probe_count_errors.Reads as error-probes-salvrunde-probe-count-errors
use Rattle.probes.proofs.walk_probes.salvrunde_probe_check_plan.Reads as walk-probes-salvrunde-probe-check-plan
use Rattle.probes.proofs.walk_probes.salvrunde_probe_replay.Reads as walk-probes-salvrunde-probe-replay
use Rattle.probes.specs.contracts.walk_probes.salvrunde_probe_replay_records as walk-probes-salvrunde-probe-replay-records
use Rattle.probes.proofs.walk_probes.salvrunde_probe_walk.Reads as walk-probes-salvrunde-probe-walk
use Rattle.probes.specs.contracts.walk_probes.salvrunde_probe_walk_records as walk-probes-salvrunde-probe-walk-records
use Rattle.refs.proofs.chroma_layout.Reads as refs-chroma-layout
use Rattle.refs.proofs.check_gather.Reads as refs-check-gather
use Rattle.refs.proofs.get_reference_samples.Reads as refs-get-reference-samples
use Rattle.refs.proofs.get_reference_samples_chroma_pair.Reads as refs-get-reference-samples-chroma-pair
use Rattle.refs.proofs.luma_layout.Reads as refs-luma-layout
use Rattle.refs.proofs.substitution.substitute_refs.Reads as substitution-substitute-refs
use Rattle.report.proofs.report.Reads as report-report
use Rattle.residual.proofs.compute_residual_i32_into.Reads as residual-compute-residual-i32-into
use Rattle.residual.proofs.reconstruct_into.Reads as residual-reconstruct-into
use Rattle.smooth.proofs.filter_luma_refs.Reads as smooth-filter-luma-refs
use Rattle.smooth.proofs.filter_references.Reads as smooth-filter-references
use Rattle.smooth.proofs.should_filter_refs.Reads as smooth-should-filter-refs
use Rattle.walk.specs.contracts.Progress.replay as walk-replay
use Rattle.walk.proofs.Progress.replay_numbers.Reads as walk-replay-numbers
use Rattle.walk.specs.contracts.Progress.walk as walk-walk
use Rattle.walk.proofs.Progress.walk_numbers.Reads as walk-walk-numbers
use Rattle.walk.proofs.checks.check_opening.Reads as checks-check-opening
use Rattle.walk.proofs.granted.Reads as walk-granted

-- the number in every answer that meets a contract, by the rows of a theorem
record Tabled {A X S : Type 0} (post : A → X → S → Type 0) (number : X → ℕ) {of : A → ℕ} {rows : A → List (Row ℕ)}
    (table : (a : A) → Exact (of a) (rows a)) : Type 0 where
  given : (a : A) (x : X) (s : S) → post a x s → Exact (number x) (rows a)

tabled : {A X S : Type 0} {post : A → X → S → Type 0} {number : X → ℕ} {of : A → ℕ} {rows : A → List (Row ℕ)}
    {table : (a : A) → Exact (of a) (rows a)} → ((a : A) (x : X) (s : S) → post a x s → number x ≡ of a) → Tabled post number table
tabled {rows = rows} {table = table} is =
    record { given = λ a x s p. subst (λ (k : ℕ). Exact k (rows a)) (sym (is a x s p)) (table a) }

-- the same of a number that carries a block
record TabledFirst {A X S B : Type 0} (post : A → X → S → Type 0) (answer : A → X → B) {done of : A → B} {rows : A → List (Row B)}
    (table : (a : A) → ExactFirst (done a) (of a) (rows a)) : Type 0 where
  given : (a : A) (x : X) (s : S) → post a x s → ExactFirst (done a) (answer a x) (rows a)

tabled_first : {A X S B : Type 0} {post : A → X → S → Type 0} {answer : A → X → B} {done of : A → B} {rows : A → List (Row B)}
    {table : (a : A) → ExactFirst (done a) (of a) (rows a)} → ((a : A) (x : X) (s : S) → post a x s → answer a x ≡ of a)
    → TabledFirst post answer table
tabled_first {B = B} {done = done} {rows = rows} {table = table} is =
    record { given = λ a x s p. subst (λ (v : B). ExactFirst (done a) v (rows a)) (sym (is a x s p)) (table a) }

-- a text that tells the number and the block
abbrev Prints : {A S : Type 0} → (A → Printout → S → Type 0) → (A → List ℕ) → Type 0
Prints {A} {S} post input = (a : A) (x : Printout) (s : S) → post a x s → (x ≡ report_of (input a)) × ProgramTable (input a)

-- a depth's figures have the number of the answer that they are read from
figures_number : (d : Result BitDepth Refusal) → (figures_of d).no ≡ depth_number d
figures_number (Ok d) = refl
figures_number (Err why) = refl

-- fmt
depth_from_bits_row : Tabled (depth-from-bits.Post tt) depth_number (λ a. depth-from a.0)
depth_from_bits_row = tabled (λ a x s p. ap depth_number p)

-- order
order_decode_order_row : Tabled (order-decode-order.Post tt) (λ r. no_of r) (λ a. decode-order a.1.1.0 a.0 a.1.0)
order_decode_order_row = tabled (λ a x s p. ap (λ r. r.no) p)

order_is_available_row : Tabled (order-is-available.Post tt) (λ r. no_of r) (λ a. is-available a.1.1.1.0 a.1.0 a.1.1.0 a.0)
order_is_available_row = tabled (λ a x s p. ap (λ r. r.no) p)

order_luma_reach_row : Tabled (order-luma-reach.Post tt) (λ r. no_of r) (λ a. luma-reach a.0)
order_luma_reach_row = tabled (λ a x s p. ap (λ r. r.no) p)

order_chroma_reach_row : Tabled (order-chroma-reach.Post tt) (λ r. no_of r) (λ a. chroma-reach a.0)
order_chroma_reach_row = tabled (λ a x s p. ap (λ r. r.no) p)

-- refs
substitution_substitute_refs_row : Tabled (substitution-substitute-refs.Post tt) (λ r. no_of r)
    (λ a. substitute-refs a.0 a.1.0 a.1.1.0 a.1.1.1.0)
substitution_substitute_refs_row = tabled (λ a x s p. ap (λ r. r.no) p)

refs_check_gather_row : TabledFirst (refs-check-gather.Post tt) (λ a r. no_of r) (λ a. gather_number a.0 (no_of a.1.0) a.1.1.0)
refs_check_gather_row = tabled_first (λ a x s p. p.0)

refs_luma_layout_row : Tabled (refs-luma-layout.Post tt) (λ r. no_of r.reach) (λ a. luma-reach (luma_block a.0))
refs_luma_layout_row = tabled (λ a x s p. ap (λ r. r.reach.no) p)

refs_chroma_layout_row : Tabled (refs-chroma-layout.Post tt) (λ r. no_of r.reach) (λ a. chroma-reach (chroma_block a.0))
refs_chroma_layout_row = tabled (λ a x s p. ap (λ r. r.reach.no) p)

refs_get_reference_samples_row : (κs : Lfts 1)
    → Tabled (refs-get-reference-samples.Post κs) (λ r. no_of r) (λ a. luma_gather a.0.now a.1.0)
refs_get_reference_samples_row κs = tabled (λ a x s p. ap (λ r. r.no) p)

refs_get_reference_samples_chroma_pair_row : (κs : Lfts 2)
    → Tabled (refs-get-reference-samples-chroma-pair.Post κs) (λ r. no_of r) (λ a. chroma_gather a.0.now a.1.0.now a.1.1.0)
refs_get_reference_samples_chroma_pair_row κs = tabled (λ a x s p. ap (λ r. r.no) p)

-- checksum
checksum_picture_checksum_row : (κs : Lfts 1)
    → Tabled (checksum-picture-checksum.Post κs) (λ r. no_of r) (λ a. sums.picture-checksum a.1.0 a.0.now a.1.1.0)
checksum_picture_checksum_row κs = tabled (λ a x s p. ap (λ r. r.no) p)

on_bytes_picture_checksum_bytes_row : (κs : Lfts 1)
    → Tabled (on-bytes-picture-checksum-bytes.Post κs) (λ r. no_of r)
    (λ a. sums.picture_checksum_bytes a.1.0 a.1.1.1.0 a.0.now a.1.1.0)
on_bytes_picture_checksum_bytes_row κs = tabled (λ a x s p. ap (λ r. r.no) p)

-- errors: number and block of an answer, and of an entry the number beside the block that stands in its record
abbrev counted_in : Counted → Verdict
counted_in v = about v.no v.block

errors_count_numbers_row : (κs : Lfts 6)
    → TabledFirst (errors-count-numbers.Post κs) (λ a r. counted_in (counted_of r))
    (λ a. let b = a.1.1.1.1 in
    pairs.count-pair a.0 a.1.0.now a.1.1.0.now
    (plan_of a.1.1.1.0.now b.0.now b.1.0.now b.1.1.0.now))
unfolding counted_by
errors_count_numbers_row κs = tabled_first (λ a x s p. ap counted_in p)

on_bytes_count_bytes_row : (κs : Lfts 3)
    → TabledFirst (on-bytes-count-bytes.Post κs) (λ a r. counted_in (counted_of r))
    (λ a. pairs.count-bytes a.0 a.1.0.now a.1.1.0.now a.1.1.1.0.now)
unfolding counted_by
on_bytes_count_bytes_row κs = tabled_first (λ a x s p. ap counted_in p)

errors_join_row : Tabled (errors-join.Post tt) (λ r. (counted_of r).no) (λ a. pairs.join a.0 a.1.0)
errors_join_row = tabled (λ a x s p. ap (λ r. r.no) p)

-- the number that an entry gives, with its block
abbrev entered_in : List ℕ → List ℕ → List ℕ → List ℕ → ℕ → Verdict
entered_in a b plan d number = about number (entry_verdict a b plan d).block

entered_number : (a b plan d : List ℕ) {number : ℕ} {after : List ℕ} → record { number = number; bytes = after } ≡ count_entry a b plan d
    → entered_in a b plan d number ≡ entry_verdict a b plan d
entered_number a b plan d p = ap (entered_in a b plan d) (ap (λ (w : Entered). w.number) p ∙ pairs.entry_number a b plan d)

record_count_into_row : (κs : Lfts 4)
    → TabledFirst (record-count-into.Post κs) (λ a r. entered_in a.0.now a.1.0.now a.1.1.0.now a.1.1.1.0.now r)
    (λ a. pairs.count-entry a.0.now a.1.0.now a.1.1.0.now a.1.1.1.0.now)
record_count_into_row κs = tabled_first (λ a x s p. entered_number _ _ _ _ p)

record_join_into_row : (κs : Lfts 2)
    → Tabled (record-join-into.Post κs) (λ r. r) (λ a. pairs.join-entry a.0.now a.1.0.now)
record_join_into_row κs = tabled (λ a x s p. ap (λ (w : Entered). w.number) p)

-- smooth
smooth_should_filter_refs_row : Tabled (smooth-should-filter-refs.Post tt) (λ r. no_of r) (λ a. should-filter-refs a.0 a.1.0)
smooth_should_filter_refs_row = tabled (λ a x s p. ap (λ r. r.no) p)

smooth_filter_references_row : (κs : Lfts 2)
    → Tabled (smooth-filter-references.Post κs) (λ r. no_of r)
    (λ a. filter-references a.0 a.1.0.now a.1.1.0.now a.1.1.1.0)
smooth_filter_references_row κs = tabled (λ a x s p. ap (λ r. r.no) p)

smooth_filter_luma_refs_row : (κs : Lfts 2)
    → Tabled (smooth-filter-luma-refs.Post κs) (λ r. no_of r)
    (λ a. let b = a.1.1.1.1 in filter-luma-refs a.0 a.1.0.now a.1.1.0.now a.1.1.1.0 b.0)
smooth_filter_luma_refs_row κs = tabled (λ a x s p. ap (λ r. r.no) p)

-- predict
planar_dc_predict_planar_into_row : (κs : Lfts 3)
    → Tabled (planar-dc-predict-planar-into.Post κs) (λ r. no_of r)
    (λ a. predict_flat a.1.1.0 a.0.now a.1.0.now a.1.1.1.0.now)
planar_dc_predict_planar_into_row κs = tabled (λ a x s p. p.0)

planar_dc_predict_dc_into_row : (κs : Lfts 3)
    → Tabled (planar-dc-predict-dc-into.Post κs) (λ r. no_of r)
    (λ a. let b = a.1.1.1.1 in predict_flat a.1.1.0 a.0.now a.1.0.now b.0.now)
planar_dc_predict_dc_into_row κs = tabled (λ a x s p. p.0)

angular_predict_angular_slices_row : (κs : Lfts 6)
    → Tabled (angular-predict-angular-slices.Post κs) (λ r. no_of r)
    (λ a. let b = a.1.1.1.1 in let c = b.1.1.1.1 in
    predict_angular b.1.1.0 a.1.1.1.0 b.0 (lengths (length a.1.0.now) (length a.1.1.0.now) (length b.1.1.1.0.now) (length c.0.now) (length c.1.0.now) (length c.1.1.0.now)))
angular_predict_angular_slices_row κs = tabled (λ a x s p. p.0)

angular_vertical_refs_row : (κs : Lfts 3)
    → Tabled (angular-vertical-refs.Post κs) (λ r. no_of r)
    (λ a. let b = a.1.1.1.1 in vertical_refs a.1.1.1.0 b.0 a.1.0.now a.1.1.0.now b.1.0.now)
angular_vertical_refs_row κs = tabled (λ a x s p. p.0)

angular_vertical_rows_row : (κs : Lfts 3)
    → Tabled (angular-vertical-rows.Post κs) (λ r. no_of r)
    (λ a. let b = a.1.1.1.1 in
    vertical_rows a.1.1.0 a.1.1.1.0 b.0 b.1.0 a.0.now a.1.0.now b.1.1.0.now)
angular_vertical_rows_row κs = tabled (λ a x s p. p.0)

predict_predict_chroma_tb_slices_row : (κs : Lfts 6)
    → Tabled (predict-predict-chroma-tb-slices.Post κs) (λ r. no_of r)
    (λ a. let b = a.1.1.1.1 in let c = b.1.1.1.1 in
    predict_chroma b.1.0 b.0 a.0 (lengths (length a.1.1.0.now) (length a.1.1.1.0.now) (length b.1.1.0.now)
    (length b.1.1.1.0.now) (length c.0.now) (length c.1.0.now)))
predict_predict_chroma_tb_slices_row κs = tabled (λ a x s p. p.0)

predict_predict_luma_tb_slices_row : (κs : Lfts 4)
    → Tabled (predict-predict-luma-tb-slices.Post κs) (λ r. no_of r)
    (λ a. let b = a.1.1.1.1 in
    predict_luma a.1.1.1.0 a.1.1.0 a.0 (length b.0.now) (length b.1.0.now) (length b.1.1.0.now) (length
    b.1.1.1.0.now))
predict_predict_luma_tb_slices_row κs = tabled (λ a x s p. p.0)

-- choose
choose_choose_mode_row : (κs : Lfts 7)
    → Tabled (choose-choose-mode.Post κs) (λ r. no_of r)
    (λ a. let b = a.1.1.1.1 in let c = b.1.1.1.1 in
    choose_mode b.1.0 b.0 a.1.1.1.0.now (lengths (length a.1.0.now) (length a.1.1.0.now) (length b.1.1.0.now) (length b.1.1.1.0.now) (length c.0.now) (length c.1.0.now)))
choose_choose_mode_row κs = tabled (λ a x s p. p.0.number)

choose_choose_early_row : (κs : Lfts 7)
    → Tabled (choose-choose-early.Post κs) (λ r. no_of r)
    (λ a. let b = a.1.1.1.1 in let c = b.1.1.1.1 in
    choose_mode b.1.0 b.0 a.1.1.1.0.now (lengths (length a.1.0.now) (length a.1.1.0.now) (length b.1.1.0.now) (length b.1.1.1.0.now) (length c.0.now) (length c.1.0.now)))
choose_choose_early_row κs = tabled (λ a x s p. p.0.number)

scratch_angular_predict_angular_fresh_row : (κs : Lfts 3)
    → Tabled (scratch-angular-predict-angular-fresh.Post κs) (λ r. no_of r)
    (λ a. let b = a.1.1.1.1 in
    predict_angular_scratch b.1.1.0 a.1.1.1.0 b.0 (length a.1.0.now) (length a.1.1.0.now) (length b.1.1.1.0.now))
scratch_angular_predict_angular_fresh_row κs = tabled (λ a x s p. p.0)

scratch_predict_predict_chroma_tb_fresh_row : (κs : Lfts 3)
    → Tabled (scratch-predict-predict-chroma-tb-fresh.Post κs) (λ r. no_of r)
    (λ a. let b = a.1.1.1.1 in
    predict_chroma_scratch b.1.0 b.0 a.0 (length a.1.1.0.now) (length a.1.1.1.0.now) (length b.1.1.0.now))
scratch_predict_predict_chroma_tb_fresh_row κs = tabled (λ a x s p. p.0)

scratch_predict_predict_luma_tb_fresh_row : (κs : Lfts 1)
    → Tabled (scratch-predict-predict-luma-tb-fresh.Post κs) (λ r. no_of r)
    (λ a. let b = a.1.1.1.1 in predict_luma_scratch a.1.1.1.0 a.1.1.0 a.0 (length b.0.now))
scratch_predict_predict_luma_tb_fresh_row κs = tabled (λ a x s p. p.0)

-- residual
residual_compute_residual_i32_into_row : (κs : Lfts 3)
    → Tabled (residual-compute-residual-i32-into.Post κs) (λ r. no_of r)
    (λ a. compute_residual a.1.1.0 a.0.now a.1.0.now a.1.1.1.0.now)
residual_compute_residual_i32_into_row κs = tabled (λ a x s p. p.0)

residual_reconstruct_into_row : (κs : Lfts 3)
    → Tabled (residual-reconstruct-into.Post κs) (λ r. no_of r)
    (λ a. let b = a.1.1.1.1 in reconstruct a.1.1.1.0 a.1.1.0 a.0.now a.1.0.now b.0.now)
residual_reconstruct_into_row κs = tabled (λ a x s p. p.0)

-- plan
plan_check_plan_numbers_row : (κs : Lfts 4)
    → TabledFirst (plan-check-plan-numbers.Post κs) (λ a r. verdict_of r)
    (λ a. let b = a.1.1.1.1 in check_plan_numbers a.0 a.1.0.now a.1.1.0.now a.1.1.1.0.now b.0.now)
plan_check_plan_numbers_row κs = tabled_first (λ a x s p. p)

plan_check_plan_bytes_row : (κs : Lfts 1)
    → TabledFirst (plan-check-plan-bytes.Post κs) (λ a r. verdict_of r) (λ a. check_plan_bytes a.0 a.1.0.now)
plan_check_plan_bytes_row κs = tabled_first (λ a x s p. p)

-- of a plan in any form
plan_check_row : (P : _) (laws : _) (copy : _) (blocks : _) (methods : _) (clone : _) (cloned : _) (κs : Lfts 1)
    → TabledFirst (plan-check.Post P laws copy blocks methods clone cloned κs) (λ a r. verdict_of r)
    (λ a. check_plan a.0 (blocks.plan a.1.0))
plan_check_row P laws copy blocks methods clone cloned κs = tabled_first (λ a x s p. p)

-- walk
checks_check_opening_row : Tabled (checks-check-opening.Post tt) (λ r. no_of r) (λ a. opening a.0 a.1.0)
checks_check_opening_row = tabled (λ a x s p. p)

-- what a call that is granted says of its verdict
granted_verdict : (v : Verdict) (count done grant : ℕ) → (v.no ≡ 0 → v.block ≡ 0) → (r : Result Advance Fault)
    → step_in r ≡ step_of v count done grant → verdict_of r ≡ v
granted_verdict v count done grant clean (Ok a) e =
    let g = step_granted v count done grant e refl in λ i. record { no = sym g.0 i; block = sym (clean g.0) i }
granted_verdict v count done grant clean (Err f) e = step_refused v count done grant e (never_0 f.why)

settle_clean : (found : Verdict) (count done early : ℕ) → (settle found count done early).no ≡ 0 → (settle found count done early).block ≡ 0
unfolding settle
settle_clean found count done early = go (eqb early 0) (eqb found.no 0) refl refl
  where
    go : (a b : Bool) → eqb early 0 ≡ a → eqb found.no 0 ≡ b
        → (cond a (cond b (record { no = cond (leb done count) 0 11; block = 0 }) found) (record { no = early; block = 0 })).no ≡ 0
        → (cond a (cond b (record { no = cond (leb done count) 0 11; block = 0 }) found) (record { no = early; block = 0 })).block ≡ 0
    go true true p q e = refl
    go true false p q e = absurd (eqb-false found.no 0 q e)
    go false b p q e = absurd (eqb-false early 0 p e)

walk_granted_row : (P : _) (laws : _) (copy : _) (blocks : _) (methods : _) (clone : _) (cloned : _) (κs : Lfts 1)
    → TabledFirst (walk-granted.Post P laws copy blocks methods clone cloned κs) (λ a r. verdict_of r)
    (λ a. let plan = blocks.plan a.1.1.0 in settled (plan_verdict a.1.0 plan) plan.count a.0.done (no_of a.1.1.1.0))
walk_granted_row P laws copy blocks methods clone cloned κs =
    tabled_first
    (λ a x s p. let plan = blocks.plan a.1.1.0 in
    granted_verdict _ plan.count a.0.done a.1.1.1.1.0
    (settle_clean (plan_verdict a.1.0 plan) plan.count a.0.done (no_of a.1.1.1.0)) x p)

walk_replay_numbers_row : (κs : Lfts 9)
    → TabledFirst (walk-replay-numbers.Post κs) (λ a r. verdict_in (stepped_of r))
    (λ a. let b = a.1.1.1.1 in let c = b.1.1.1.1 in
    replay a.1.0 (plan_of a.1.1.0.now a.1.1.1.0.now b.0.now b.1.0.now) a.0 (tables c.0.now c.1.0.now c.1.1.0.now) c.1.1.1.0 b.1.1.0.now b.1.1.1.0.now)
walk_replay_numbers_row κs = tabled_first (λ a x s p. ap verdict_in p.0)

walk_walk_numbers_row : (κs : Lfts 10)
    → TabledFirst (walk-walk-numbers.Post κs) (λ a r. verdict_in (stepped_of r))
    (λ a. let b = a.1.1.1.1 in let c = b.1.1.1.1 in let d = c.1.1.1.1 in
    walk a.1.0 (plan_of a.1.1.0.now a.1.1.1.0.now b.0.now b.1.0.now) a.0 (tables c.1.0.now c.1.1.0.now c.1.1.1.0.now) d.0 b.1.1.0.now (world b.1.1.1.0.now c.0.now))
walk_walk_numbers_row κs = tabled_first (λ a x s p. ap verdict_in p.0)

-- camera
camera_salvrunde_luma_refs_row : (κs : Lfts 2)
    → Tabled (camera-salvrunde-luma-refs.Post κs) (λ r. r)
    (λ a. let b = a.1.1.1.1 in let c = b.1.1.1.1 in
    luma_refs c.0.now (luma_geometry a.0 a.1.0 a.1.1.0 a.1.1.1.0 b.0 b.1.0 b.1.1.0 b.1.1.1.0) c.1.0.now)
camera_salvrunde_luma_refs_row κs = tabled (λ a x s p. ap (λ (w : Written). w.number) p)

camera_salvrunde_chroma_refs_ctu_row : (κs : Lfts 3)
    → Tabled (camera-salvrunde-chroma-refs-ctu.Post κs) (λ r. r)
    (λ a. let b = a.1.1.1.1 in let c = b.1.1.1.1 in let d = c.1.1.1.1 in
    chroma_refs c.1.1.1.0.now d.0.now (chroma_geometry a.0 a.1.0 a.1.1.0 a.1.1.1.0 b.0 b.1.0
    b.1.1.0 b.1.1.1.0 c.0 c.1.0 c.1.1.0) d.1.0.now)
camera_salvrunde_chroma_refs_ctu_row κs = tabled (λ a x s p. ap (λ (w : Written). w.number) p)

camera_salvrunde_planar_row : (κs : Lfts 3)
    → Tabled (camera-salvrunde-planar.Post κs) (λ r. r) (λ a. planar a.0 a.1.0.now a.1.1.0.now a.1.1.1.0.now)
camera_salvrunde_planar_row κs = tabled (λ a x s p. ap (λ (w : Written). w.number) p)

camera_salvrunde_dc_row : (κs : Lfts 3)
    → Tabled (camera-salvrunde-dc.Post κs) (λ r. r)
    (λ a. let b = a.1.1.1.1 in dc a.0 a.1.1.0.now a.1.1.1.0.now b.0.now a.1.0)
camera_salvrunde_dc_row κs = tabled (λ a x s p. ap (λ (w : Written). w.number) p)

camera_salvrunde_angular_row : (κs : Lfts 3)
    → Tabled (camera-salvrunde-angular.Post κs) (λ r. r)
    (λ a. let b = a.1.1.1.1 in
    angular a.1.0 b.1.0.now b.1.1.0.now b.1.1.1.0.now a.0 a.1.1.0 a.1.1.1.0 b.0)
camera_salvrunde_angular_row κs = tabled (λ a x s p. ap (λ (w : Written). w.number) p)

camera_salvrunde_chroma_block_row : (κs : Lfts 3)
    → Tabled (camera-salvrunde-chroma-block.Post κs) (λ r. r)
    (λ a. let b = a.1.1.1.1 in
    chroma-block a.1.0 b.0.now b.1.0.now b.1.1.0.now a.0 a.1.1.0 a.1.1.1.0)
camera_salvrunde_chroma_block_row κs = tabled (λ a x s p. ap (λ (w : Written). w.number) p)

camera_salvrunde_luma_block_row : (κs : Lfts 3)
    → Tabled (camera-salvrunde-luma-block.Post κs) (λ r. r)
    (λ a. let b = a.1.1.1.1 in
    luma-block a.1.0 b.0.now b.1.0.now b.1.1.0.now a.0 a.1.1.0 a.1.1.1.0)
camera_salvrunde_luma_block_row κs = tabled (λ a x s p. ap (λ (w : Written). w.number) p)

camera_salvrunde_choose_row : (κs : Lfts 4)
    → Tabled (camera-salvrunde-choose.Post κs) (λ r. r)
    (λ a. let b = a.1.1.1 in choose a.0 a.1.0 b.0.now b.1.0.now b.1.1.0.now b.1.1.1.0.now)
camera_salvrunde_choose_row κs = tabled (λ a x s p. p.number)

camera_salvrunde_choose_early_row : (κs : Lfts 4)
    → Tabled (camera-salvrunde-choose-early.Post κs) (λ r. r)
    (λ a. let b = a.1.1.1 in choose a.0 a.1.0 b.0.now b.1.0.now b.1.1.0.now b.1.1.1.0.now)
camera_salvrunde_choose_early_row κs = tabled (λ a x s p. p.number)

camera_salvrunde_checksum_row : (κs : Lfts 2)
    → Tabled (camera-salvrunde-checksum.Post κs) (λ r. r)
    (λ a. let b = a.1.1.1.1 in
    sums.checksum (row_range a.0 a.1.0 a.1.1.0 a.1.1.1.0 b.0) b.1.0 b.1.1.0.now b.1.1.1.0.now)
camera_salvrunde_checksum_row κs = tabled (λ a x s p. ap (λ (w : Written). w.number) p)

camera_salvrunde_count_errors_row : (κs : Lfts 4)
    → TabledFirst (camera-salvrunde-count-errors.Post κs)
    (λ a r. entered_in a.0.now a.1.0.now a.1.1.0.now a.1.1.1.0.now r)
    (λ a. pairs.count-entry a.0.now a.1.0.now a.1.1.0.now a.1.1.1.0.now)
camera_salvrunde_count_errors_row κs = tabled_first (λ a x s p. entered_number _ _ _ _ p)

camera_salvrunde_join_errors_row : (κs : Lfts 2)
    → Tabled (camera-salvrunde-join-errors.Post κs) (λ r. r) (λ a. pairs.join-entry a.0.now a.1.0.now)
camera_salvrunde_join_errors_row κs = tabled (λ a x s p. ap (λ (w : Entered). w.number) p)

-- the replay's number, with the block number that it writes
abbrev lent : List ℕ → List ℕ → List ℕ → List ℕ → Lent
lent plan residuals plane result = record { plan = plan; residuals = residuals; plane = length plane; result = length result }

abbrev written : Still → ℕ → Lent → ℕ → Verdict
written s done l number = about number (block_written s done l)

camera_salvrunde_replay_row : (κs : Lfts 4)
    → TabledFirst (camera-salvrunde-replay.Post κs)
    (λ a. let b = a.1.1.1.1 in let c = b.1.1.1.1 in
    written (still_of a.1.0 a.1.1.0 a.1.1.1.0 b.0) a.0
    (lent b.1.1.0.now b.1.1.1.0.now c.0.now c.1.0.now))
    (λ a. let b = a.1.1.1.1 in let c = b.1.1.1.1 in
    bytes.replay (still_of a.1.0 a.1.1.0 a.1.1.1.0 b.0) (record { done = a.0 })
    (lent b.1.1.0.now b.1.1.1.0.now c.0.now c.1.0.now))
unfolding replayed
camera_salvrunde_replay_row κs =
    tabled_first
    (λ a x s p. let b = a.1.1.1.1 in let c = b.1.1.1.1 in
    ap
    (λ (w : After). written (still_of a.1.0 a.1.1.0 a.1.1.1.0 b.0) a.0
    (lent b.1.1.0.now b.1.1.1.0.now c.0.now c.1.0.now) w.number)
    p)

-- probes
probes_salvrunde_probe_depth_row : Tabled (probes-salvrunde-probe-depth.Post tt) (λ r. r.no) (λ a. depth-from a.0)
probes_salvrunde_probe_depth_row = tabled (λ a x s p. ap (λ r. r.no) p ∙ figures_number (depth_from a.0))

probes_salvrunde_probe_picture_checksum_row : (κs : Lfts 1)
    → Tabled (probes-salvrunde-probe-picture-checksum.Post κs) (λ r. r.no)
    (λ a. let b = a.1.1.1.1 in
    sums.picture-checksum (row_range a.0 a.1.0 a.1.1.0 a.1.1.1.0 b.0) b.1.1.0.now b.1.0)
probes_salvrunde_probe_picture_checksum_row κs = tabled (λ a x s p. ap (λ r. r.no) p)

probes_salvrunde_probe_decode_order_row : Tabled (probes-salvrunde-probe-decode-order.Post tt) (λ r. r.no)
    (λ a. let b = a.1.1.1.1 in
    decode-order (record { width = a.1.1.0; height = a.1.1.1.0; ctu = b.0; unit = b.1.0 }) (record { 0 = a.0 })
    (record { 0 = a.1.0 }))
probes_salvrunde_probe_decode_order_row = tabled (λ a x s p. ap (λ r. r.no) p)

probes_salvrunde_probe_is_available_row : Tabled (probes-salvrunde-probe-is-available.Post tt) (λ r. r.no)
    (λ a. let b = a.1.1.1.1 in
    is-available (record { width = b.0; height = b.1.0; ctu = b.1.1.0; unit = b.1.1.1.0 }) (record { 0 = a.1.1.0 })
    (record { 0 = a.1.1.1.0 }) (record { row = a.0; col = a.1.0 }))
probes_salvrunde_probe_is_available_row = tabled (λ a x s p. ap (λ r. r.no) p)

probes_salvrunde_probe_should_filter_refs_row : Tabled (probes-salvrunde-probe-should-filter-refs.Post tt) (λ r. r.no)
    (λ a. should-filter-refs a.0 a.1.0)
probes_salvrunde_probe_should_filter_refs_row = tabled (λ a x s p. ap (λ r. r.no) p)

probes_salvrunde_probe_filter_references_row : (κs : Lfts 2)
    → Tabled (probes-salvrunde-probe-filter-references.Post κs) (λ r. r.no)
    (λ a. filter-references a.0 a.1.0.now a.1.1.0.now a.1.1.1.0)
probes_salvrunde_probe_filter_references_row κs = tabled (λ a x s p. ap (λ r. r.no) p)

probes_salvrunde_probe_filter_luma_refs_row : (κs : Lfts 2)
    → Tabled (probes-salvrunde-probe-filter-luma-refs.Post κs) (λ r. r.no)
    (λ a. let b = a.1.1.1.1 in filter-luma-refs a.0 a.1.0.now a.1.1.0.now a.1.1.1.0 b.0)
probes_salvrunde_probe_filter_luma_refs_row κs = tabled (λ a x s p. ap (λ r. r.no) p)

probes_salvrunde_probe_substitute_refs_row : (κs : Lfts 4)
    → Tabled (probes-salvrunde-probe-substitute-refs.Post κs) (λ r. r.no)
    (λ a. let b = a.1.1.1.1 in
    substitute-refs (record { corner = a.0; above = a.1.0.now; left = a.1.1.0.now })
    (record { corner = a.1.1.1.0; above = b.0.now; left = b.1.0.now }) b.1.1.0 b.1.1.1.0)
probes_salvrunde_probe_substitute_refs_row κs = tabled (λ a x s p. ap (λ r. r.no) p)

probes_salvrunde_probe_get_reference_samples_row : (κs : Lfts 1)
    → Tabled (probes-salvrunde-probe-get-reference-samples.Post κs) (λ r. r.no)
    (λ a. let b = a.1.1.1.1 in let c = b.1.1.1.1 in
    luma_gather a.0.now (luma_geometry a.1.0 a.1.1.0 a.1.1.1.0 b.0 b.1.0 b.1.1.0 b.1.1.1.0 c.0))
probes_salvrunde_probe_get_reference_samples_row κs = tabled (λ a x s p. ap (λ r. r.no) p)

probes_salvrunde_probe_get_reference_samples_chroma_pair_row : (κs : Lfts 2)
    → Tabled (probes-salvrunde-probe-get-reference-samples-chroma-pair.Post κs) (λ r. r.no)
    (λ a. let b = a.1.1.1.1 in let c = b.1.1.1.1 in let d = c.1.1.1.1 in
    chroma_gather a.0.now a.1.0.now (chroma_geometry a.1.1.0 a.1.1.1.0 b.0 b.1.0 b.1.1.0 b.1.1.1.0
    c.0 c.1.0 c.1.1.0 c.1.1.1.0 d.0))
probes_salvrunde_probe_get_reference_samples_chroma_pair_row κs = tabled (λ a x s p. ap (λ r. r.no) p)

predict_probes_salvrunde_probe_predict_planar_into_row : (κs : Lfts 3)
    → Tabled (predict-probes-salvrunde-probe-predict-planar-into.Post κs) (λ r. r)
    (λ a. predict_flat a.1.1.0 a.0.now a.1.0.now a.1.1.1.0.now)
predict_probes_salvrunde_probe_predict_planar_into_row κs = tabled (λ a x s p. p.0)

predict_probes_salvrunde_probe_predict_dc_into_row : (κs : Lfts 3)
    → Tabled (predict-probes-salvrunde-probe-predict-dc-into.Post κs) (λ r. r)
    (λ a. let b = a.1.1.1.1 in predict_flat a.1.1.0 a.0.now a.1.0.now b.0.now)
predict_probes_salvrunde_probe_predict_dc_into_row κs = tabled (λ a x s p. p.0)

predict_probes_salvrunde_probe_predict_angular_slices_row : (κs : Lfts 6)
    → Tabled (predict-probes-salvrunde-probe-predict-angular-slices.Post κs) (λ r. r)
    (λ a. let b = a.1.1.1.1 in let c = b.1.1.1.1 in
    predict_angular b.1.1.0 a.1.1.1.0 b.0 (lengths (length a.1.0.now) (length a.1.1.0.now) (length b.1.1.1.0.now) (length c.0.now) (length c.1.0.now) (length c.1.1.0.now)))
predict_probes_salvrunde_probe_predict_angular_slices_row κs = tabled (λ a x s p. p.0)

predict_probes_salvrunde_probe_predict_chroma_tb_slices_row : (κs : Lfts 6)
    → Tabled (predict-probes-salvrunde-probe-predict-chroma-tb-slices.Post κs) (λ r. r)
    (λ a. let b = a.1.1.1.1 in let c = b.1.1.1.1 in
    predict_chroma b.1.0 b.0 a.0 (lengths (length a.1.1.0.now) (length a.1.1.1.0.now) (length b.1.1.0.now)
    (length b.1.1.1.0.now) (length c.0.now) (length c.1.0.now)))
predict_probes_salvrunde_probe_predict_chroma_tb_slices_row κs = tabled (λ a x s p. p.0)

predict_probes_salvrunde_probe_choose_mode_row : (κs : Lfts 7)
    → Tabled (predict-probes-salvrunde-probe-choose-mode.Post κs) (λ r. r.no)
    (λ a. let b = a.1.1.1.1 in let c = b.1.1.1.1 in
    choose_mode b.1.0 b.0 a.1.1.1.0.now (lengths (length a.1.0.now) (length a.1.1.0.now) (length b.1.1.0.now) (length b.1.1.1.0.now) (length c.0.now) (length c.1.0.now)))
predict_probes_salvrunde_probe_choose_mode_row κs = tabled (λ a x s p. p.0.number)

predict_probes_salvrunde_probe_choose_early_row : (κs : Lfts 7)
    → Tabled (predict-probes-salvrunde-probe-choose-early.Post κs) (λ r. r.no)
    (λ a. let b = a.1.1.1.1 in let c = b.1.1.1.1 in
    choose_mode b.1.0 b.0 a.1.1.1.0.now (lengths (length a.1.0.now) (length a.1.1.0.now) (length b.1.1.0.now) (length b.1.1.1.0.now) (length c.0.now) (length c.1.0.now)))
predict_probes_salvrunde_probe_choose_early_row κs = tabled (λ a x s p. p.0.number)

predict_probes_salvrunde_probe_predict_luma_tb_slices_row : (κs : Lfts 6)
    → Tabled (predict-probes-salvrunde-probe-predict-luma-tb-slices.Post κs) (λ r. r)
    (λ a. let b = a.1.1.1.1 in let c = b.1.1.1.1 in
    predict_luma b.1.0 b.0 a.0 (length b.1.1.0.now) (length b.1.1.1.0.now) (length c.0.now) (length c.1.0.now))
predict_probes_salvrunde_probe_predict_luma_tb_slices_row κs = tabled (λ a x s p. p.0)

predict_probes_salvrunde_probe_predict_angular_scratch_row : (κs : Lfts 3)
    → Tabled (predict-probes-salvrunde-probe-predict-angular-scratch.Post κs) (λ r. r)
    (λ a. let b = a.1.1.1.1 in
    predict_angular_scratch b.1.1.0 a.1.1.1.0 b.0 (length a.1.0.now) (length a.1.1.0.now) (length b.1.1.1.0.now))
predict_probes_salvrunde_probe_predict_angular_scratch_row κs = tabled (λ a x s p. p.0)

predict_probes_salvrunde_probe_predict_chroma_tb_scratch_row : (κs : Lfts 3)
    → Tabled (predict-probes-salvrunde-probe-predict-chroma-tb-scratch.Post κs) (λ r. r)
    (λ a. let b = a.1.1.1.1 in
    predict_chroma_scratch b.1.0 b.0 a.0 (length a.1.1.0.now) (length a.1.1.1.0.now) (length b.1.1.0.now))
predict_probes_salvrunde_probe_predict_chroma_tb_scratch_row κs = tabled (λ a x s p. p.0)

predict_probes_salvrunde_probe_predict_luma_tb_scratch_row : (κs : Lfts 3)
    → Tabled (predict-probes-salvrunde-probe-predict-luma-tb-scratch.Post κs) (λ r. r)
    (λ a. let b = a.1.1.1.1 in predict_luma_scratch b.1.0 b.0 a.0 (length b.1.1.0.now))
predict_probes_salvrunde_probe_predict_luma_tb_scratch_row κs = tabled (λ a x s p. p.0)

predict_probes_salvrunde_probe_compute_residual_i32_into_row : (κs : Lfts 3)
    → Tabled (predict-probes-salvrunde-probe-compute-residual-i32-into.Post κs) (λ r. r)
    (λ a. compute_residual a.1.1.0 a.0.now a.1.0.now a.1.1.1.0.now)
predict_probes_salvrunde_probe_compute_residual_i32_into_row κs = tabled (λ a x s p. p.0)

predict_probes_salvrunde_probe_reconstruct_into_row : (κs : Lfts 3)
    → Tabled (predict-probes-salvrunde-probe-reconstruct-into.Post κs) (λ r. r)
    (λ a. let b = a.1.1.1.1 in reconstruct a.1.1.1.0 a.1.1.0 a.0.now a.1.0.now b.0.now)
predict_probes_salvrunde_probe_reconstruct_into_row κs = tabled (λ a x s p. p.0)

error_probes_salvrunde_probe_count_errors_row : (κs : Lfts 9)
    → TabledFirst (error-probes-salvrunde-probe-count-errors.Post κs) (λ a r. about r.no r.block)
    (λ a. let b = a.1.1.1.1 in let c = b.1.1.1.1 in let d = c.1.1.1.1 in
    pairs.count-pair (report_with a.0 a.1.0 a.1.1.0 a.1.1.1.0 b.0 b.1.0.now b.1.1.0.now b.1.1.1.0.now)
    c.0.now c.1.0.now (plan_of c.1.1.0.now c.1.1.1.0.now d.0.now d.1.0.now))
unfolding counted_by
error_probes_salvrunde_probe_count_errors_row κs = tabled_first (λ a x s p. ap (λ r. about r.no r.block) p)

walk_probes_salvrunde_probe_check_plan_row : (κs : Lfts 4)
    → TabledFirst (walk-probes-salvrunde-probe-check-plan.Post κs) (λ a r. about r.no r.block)
    (λ a. let b = a.1.1.1.1 in
    check_plan_numbers (record { width = a.0; height = a.1.0; ctu = a.1.1.0 }) a.1.1.1.0.now b.0.now b.1.0.now
    b.1.1.0.now)
walk_probes_salvrunde_probe_check_plan_row κs = tabled_first (λ a x s p. ap (λ r. about r.no r.block) p)

walk_probes_salvrunde_probe_walk_row : (κs : Lfts 10)
    → TabledFirst (walk-probes-salvrunde-probe-walk.Post κs) (λ a r. about r.no r.block)
    (λ a. let b = a.1.1.1.1 in let c = b.1.1.1.1 in let d = c.1.1.1.1 in
    walk (still_of a.1.0 a.1.1.0 a.1.1.1.0 b.0) (plan_of b.1.0.now b.1.1.0.now b.1.1.1.0.now c.0.now) (record { done = a.0 }) (tables d.0.now d.1.0.now d.1.1.0.now) d.1.1.1.0 c.1.0.now (world c.1.1.0.now c.1.1.1.0.now))
walk_probes_salvrunde_probe_walk_row κs = tabled_first (λ a x s p. ap (λ r. about r.no r.block) p.0)

walk_probes_salvrunde_probe_replay_row : (κs : Lfts 9)
    → TabledFirst (walk-probes-salvrunde-probe-replay.Post κs) (λ a r. about r.no r.block)
    (λ a. let b = a.1.1.1.1 in let c = b.1.1.1.1 in let d = c.1.1.1.1 in
    replay (still_of a.1.0 a.1.1.0 a.1.1.1.0 b.0) (plan_of b.1.0.now b.1.1.0.now b.1.1.1.0.now c.0.now) (record { done = a.0 }) (tables c.1.1.1.0.now d.0.now d.1.0.now) d.1.1.0 c.1.0.now c.1.1.0.now)
walk_probes_salvrunde_probe_replay_row κs = tabled_first (λ a x s p. ap (λ r. about r.no r.block) p.0)

-- report: what is printed tells the number and the block
report_report_row : (κs : Lfts 1) → Prints (report-report.Post κs) (λ a. a.0.now)
report_report_row κs a x s p = (p, program a.0.now)

-- The functions that hold a reference to a struct or to records: of their clauses, assertions of any model, the same follows.
module _ {M : Type 1} {𝓤 : Ura M} (𝓛 : Logic 𝓤) (mem : Memory → SProp 𝓤) (run : Routine → Fun 𝓤) where
  -- whatever answer meets a clause meets a claim
  abbrev Told : (T : Ended) (κs : Lfts T.signature.lifetimes) → Clauses 𝓤 T
      → (Args T.signature κs → Res T.signature κs → Type 0) → Type 1
  Told T κs c claim = (a : Args T.signature κs) (g : (c κs a).ghost) (x : Res T.signature κs) (s : AtExit T κs)
      → ent 𝓤 ((c κs a).ensures g x s) (fact 𝓤 (claim a x))

  record TabledHeld (T : Ended) (κs : Lfts T.signature.lifetimes) (c : Clauses 𝓤 T) (number : Res T.signature κs → ℕ)
      {of : Args T.signature κs → ℕ} {rows : Args T.signature κs → List (Row ℕ)}
      (table : (a : Args T.signature κs) → Exact (of a) (rows a)) : Type 1 where
    given : Told T κs c (λ a x. Exact (number x) (rows a))

  tabled_held : {T : Ended} {κs : Lfts T.signature.lifetimes} {c : Clauses 𝓤 T} {number : Res T.signature κs → ℕ}
      {of : Args T.signature κs → ℕ} {rows : Args T.signature κs → List (Row ℕ)}
      {table : (a : Args T.signature κs) → Exact (of a) (rows a)} → Told T κs c (λ a x. number x ≡ of a) → TabledHeld T κs c number table
  tabled_held {number = number} {of = of} {rows = rows} {table = table} is =
      record {
        given = λ a g x s.
            via 𝓤 (fact 𝓤 (number x ≡ of a)) (is a g x s)
            (fact_mono 𝓤 (number x ≡ of a) (Exact (number x) (rows a)) (λ e. subst (λ (k : ℕ). Exact k (rows a)) (sym e) (table a)));
      }

  record TabledHeldFirst (T : Ended) (κs : Lfts T.signature.lifetimes) (c : Clauses 𝓤 T) {B : Type 0}
      (answer : Args T.signature κs → Res T.signature κs → B) {done of : Args T.signature κs → B}
      {rows : Args T.signature κs → List (Row B)}
      (table : (a : Args T.signature κs) → ExactFirst (done a) (of a) (rows a)) : Type 1 where
    given : Told T κs c (λ a x. ExactFirst (done a) (answer a x) (rows a))

  tabled_held_first : {T : Ended} {κs : Lfts T.signature.lifetimes} {c : Clauses 𝓤 T} {B : Type 0}
      {answer : Args T.signature κs → Res T.signature κs → B} {done of : Args T.signature κs → B}
      {rows : Args T.signature κs → List (Row B)} {table : (a : Args T.signature κs) → ExactFirst (done a) (of a) (rows a)}
      → Told T κs c (λ a x. answer a x ≡ of a) → TabledHeldFirst T κs c answer table
  tabled_held_first {B = B} {answer = answer} {done = done} {of = of} {rows = rows} {table = table} is =
      record {
        given = λ a g x s.
            via 𝓤 (fact 𝓤 (answer a x ≡ of a)) (is a g x s)
            (fact_mono 𝓤 (answer a x ≡ of a) (ExactFirst (done a) (answer a x) (rows a))
            (λ e. subst (λ (v : B). ExactFirst (done a) v (rows a)) (sym e) (table a)));
      }

  -- predict
  scratch_angular_predict_angular_into_row : (κs : Lfts 4)
      → TabledHeld scratch-angular-predict-angular-into.ended κs (scratch-angular-predict-angular-into.clauses 𝓛 mem run) (λ r. no_of r)
      (λ a. let b = a.1.1.1.1 in
      predict_angular_scratch b.1.1.0 a.1.1.1.0 b.0 (length a.1.0.now) (length a.1.1.0.now) (length b.1.1.1.0.now))
  scratch_angular_predict_angular_into_row κs = tabled_held (λ a g x s. fact_mono 𝓤 _ _ (λ p. p.0))

  scratch_predict_predict_chroma_tb_into_row : (κs : Lfts 4)
      → TabledHeld scratch-predict-predict-chroma-tb-into.ended κs (scratch-predict-predict-chroma-tb-into.clauses 𝓛 mem run) (λ r. no_of r)
      (λ a. let b = a.1.1.1.1 in
      predict_chroma_scratch b.1.0 b.0 a.0 (length a.1.1.0.now) (length a.1.1.1.0.now) (length b.1.1.0.now))
  scratch_predict_predict_chroma_tb_into_row κs = tabled_held (λ a g x s. fact_mono 𝓤 _ _ (λ p. p.0))

  scratch_predict_predict_luma_tb_into_row : (κs : Lfts 2)
      → TabledHeld scratch-predict-predict-luma-tb-into.ended κs (scratch-predict-predict-luma-tb-into.clauses 𝓛 mem run) (λ r. no_of r)
      (λ a. let b = a.1.1.1.1 in predict_luma_scratch a.1.1.1.0 a.1.1.0 a.0 (length b.0.now))
  scratch_predict_predict_luma_tb_into_row κs = tabled_held (λ a g x s. fact_mono 𝓤 _ _ (λ p. p.0))

  -- plan
  plan_check_plan_row : (κs : Lfts 1)
      → TabledHeldFirst plan-check-plan.ended κs (plan-check-plan.clauses 𝓛 mem run) (λ a r. verdict_of r)
      (λ a. check_plan a.0 (listed a.1.0.now))
  plan_check_plan_row κs = tabled_held_first (λ a g x s. fact_mono 𝓤 _ _ (λ p. p))

  -- errors
  errors_count_row : (κs : Lfts 3)
      → TabledHeldFirst errors-count.ended κs (errors-count.clauses 𝓛 mem run) (λ a r. counted_in (counted_of r))
      (λ a. pairs.count-pair a.0 a.1.0.now a.1.1.0.now (listed a.1.1.1.0.now))
  unfolding counted_by
  errors_count_row κs = tabled_held_first (λ a g x s. fact_mono 𝓤 _ _ (λ p. ap counted_in p))

  -- walk
  walk_replay_row : (κs : Lfts 4)
      → TabledHeldFirst walk-replay.ended κs (walk-replay.clauses 𝓛 mem run) (λ a r. verdict_in (stepped_of r))
      (λ a. let b = a.1.1.1.1 in
      replay a.1.0 (listed a.1.1.0.now) a.0 scratch_tables b.1.1.0 a.1.1.1.0.now b.0.now)
  walk_replay_row κs = tabled_held_first (λ a g x s. fact_mono 𝓤 _ _ (λ p. ap verdict_in p.0))

  walk_walk_row : (κs : Lfts 5)
      → TabledHeldFirst walk-walk.ended κs (walk-walk.clauses 𝓛 mem run) (λ a r. verdict_in (stepped_of r))
      (λ a. let b = a.1.1.1.1 in
      walk a.1.0 (listed a.1.1.0.now) a.0 scratch_tables b.1.1.1.0 a.1.1.1.0.now (world b.0.now b.1.0.now))
  walk_walk_row κs = tabled_held_first (λ a g x s. fact_mono 𝓤 _ _ (λ p. ap verdict_in p.0))

  -- probes
  walk_probes_salvrunde_probe_replay_records_row : (κs : Lfts 4)
      → TabledHeldFirst walk-probes-salvrunde-probe-replay-records.ended κs
      (walk-probes-salvrunde-probe-replay-records.clauses 𝓛 mem run) (λ a r. about r.no r.block)
      (λ a. let b = a.1.1.1.1 in let c = b.1.1.1.1 in
      replay (still_of a.1.0 a.1.1.0 a.1.1.1.0 b.0) (listed b.1.0.now) (record { done = a.0 }) scratch_tables
      c.1.0 b.1.1.0.now b.1.1.1.0.now)
  walk_probes_salvrunde_probe_replay_records_row κs =
      tabled_held_first (λ a g x s. fact_mono 𝓤 _ _ (λ p. ap (λ r. about r.no r.block) p.0))

  walk_probes_salvrunde_probe_walk_records_row : (κs : Lfts 5)
      → TabledHeldFirst walk-probes-salvrunde-probe-walk-records.ended κs
      (walk-probes-salvrunde-probe-walk-records.clauses 𝓛 mem run) (λ a r. about r.no r.block)
      (λ a. let b = a.1.1.1.1 in let c = b.1.1.1.1 in
      walk (still_of a.1.0 a.1.1.0 a.1.1.1.0 b.0) (listed b.1.0.now) (record { done = a.0 }) scratch_tables
      c.1.1.0 b.1.1.0.now (world b.1.1.1.0.now c.0.now))
  walk_probes_salvrunde_probe_walk_records_row κs =
      tabled_held_first (λ a g x s. fact_mono 𝓤 _ _ (λ p. ap (λ r. about r.no r.block) p.0))
