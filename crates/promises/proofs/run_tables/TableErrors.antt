-- Document 02, Wish 14: that the rows of specs/run_tables/TableErrors are met where a pair of planes is counted, and where two reports are
-- added; on samples, on bytes and at the camera's entries. Rests on Exact and on the plan's rows.
use Rattle.std.specs.Prelude.{◌≡◌, refl, Bool, true, false, cond, ◌&&◌, List, [], ◌∷◌, ℕ, suc, ◌+◌, ◌*◌, ◌/◌, ◌<◌, leb, eqb, length}
use Rattle.std.proofs.Common.{sym, subst}
use Rattle.laws.specs.Choose.{both_true}
use Rattle.order.specs.Order.{picture_ok}
use Rattle.octets.specs.Bytes.{samples_of}
use Rattle.plan.specs.Answers.{Verdict}
use Rattle.plan.specs.tiling.Tiling.{picture_of}
use Rattle.plan.specs.tiling.Plan.{Plan}
use Rattle.plan.specs.tiling.PlanCheck.{plan_verdict, blocks_alone}
use Rattle.plan.specs.RecordPlan.{records_of}
use Rattle.errors.specs.declared.Report.{Report}
use Rattle.errors.specs.Errors.{plane_area, top_of, samples_so_far, keeps_limits, room_for_pair, pair_no, settle_full, pair_verdict, counted_by}
use Rattle.errors.specs.Errors.{planes_fit, join_no, join_reports}
use Rattle.errors.specs.RecordBytes.{report_at, entered, count_entry, join_entry}
use Rattle.promises.specs.tables.Exact.{Row, ◌when◌, ◌or◌, Exact, First, ExactFirst, FirstBy, Tells, exact_none, exact_row}
use Rattle.promises.specs.tables.Exact.{first_exact, first_test, first_row, all_of, at-most, same}
use Rattle.promises.specs.tables.Table.{depth, picture}
use Rattle.promises.specs.run_tables.TableWalk.{about, done, plan_rows, ragged, every_one}
use Rattle.promises.proofs.run_tables.TableWalk.{blocks_first}
use Rattle.promises.specs.run_tables.TableErrors.{OverLimits, pair_table, WrongPlanes, bytes_verdict, bytes_table, entry_verdict, join_table}

limits : (r : Report) → Tells (keeps_limits r) (OverLimits r)
unfolding keeps_limits
limits r =
    all_of
    (all_of (every_one 0 (λ v. at-most v (samples_so_far r / 16)) r.blocks) (every_one 0 (λ v. at-most v (samples_so_far r)) r.samples))
    (every_one 0 (λ v. at-most v (samples_so_far r * (top_of r * top_of r))) r.squares)

module _ (r : Report) (plan : Plan) where
  abbrev found : Verdict
  found = plan_verdict r.frame plan

  abbrev last : Verdict
  last = about (cond (room_for_pair r) 0 15) 0

  abbrev from : ℕ → Verdict
  from early = cond (eqb early 0) (cond (eqb found.no 0) last found) (about early 0)

  abbrev full_rows : List (Row Verdict)
  full_rows = (about 15 0 when 65536 < suc r.pairs or OverLimits r) ∷ []

  full_first : FirstBy done (λ (x : ℕ). about x 0) (cond (room_for_pair r) 0 15) full_rows
  full_first = first_row (all_of (at-most (suc r.pairs) 65536) (limits r)) (λ e. record { first = refl })

  plan_first : picture_ok (picture_of r.frame) ≡ true → plan.whole ≡ true → FirstBy done from 0 (plan_rows r.frame plan full_rows)
  plan_first ok w =
      record {
        first = subst (λ (u : Verdict). First done (cond (eqb u.no 0) last u) (plan_rows r.frame plan full_rows))
            (sym (blocks_alone r.frame plan ok w)) (blocks_first r.frame plan ok last full_rows full_first.first);
      }

  pair_first : {fit : Bool} {Wrong : Type 0} → Tells fit Wrong → (a b : List ℕ)
      → First done (pair_verdict r fit a b plan) (pair_table r Wrong a b plan)
  unfolding settle_full pair_no
  pair_first {fit} t a b =
      (first_row {from = from} (depth r.bits)
      (λ e. first_row {from = from} (picture (picture_of r.frame))
      (λ ok. first_row {from = from} (all_of (ragged plan) t)
      (λ w. first_row {from = from} (all_of (every_one 0 (λ v. at-most v (top_of r)) a) (every_one 0 (λ v. at-most v (top_of r)) b))
      (λ e. plan_first ok (both_true plan.whole fit w).0))))).first

pub count-pair : (r : Report) (a b : List ℕ) (plan : Plan)
    → ExactFirst done (pair_verdict r (planes_fit r (length a) (length b)) a b plan)
    (pair_table r (WrongPlanes r (length a) (length b)) a b plan)
count-pair r a b plan =
    first_exact done _ _ (pair_first r plan (all_of (same (length a) (plane_area r)) (same (length b) (plane_area r))) a b)

bytes_first : (r : Report) (a b plan : List ℕ) → First done (bytes_verdict r a b plan) (bytes_table r a b plan)
bytes_first r a b plan =
    pair_first r (records_of plan) (all_of (same (length a) (2 * plane_area r)) (same (length b) (2 * plane_area r)))
    (samples_of a) (samples_of b)

pub count-bytes : (r : Report) (a b plan : List ℕ) → ExactFirst done (bytes_verdict r a b plan) (bytes_table r a b plan)
count-bytes r a b plan = first_exact done _ _ (bytes_first r a b plan)

pub count-entry : (a b plan d : List ℕ)
    → ExactFirst done (entry_verdict a b plan d) ((about 5 0 when length d < 864) ∷ bytes_table (report_at d) a b plan)
count-entry a b plan d =
    first_exact done _ _
    (first_test done (λ (x : Bool). cond x (bytes_verdict (report_at d) a b plan) (about 5 0)) (bytes_table (report_at d) a b plan)
    (at-most 864 (length d)) (λ e. bytes_first (report_at d) a b plan))

pub entry_number : (a b plan d : List ℕ) → (count_entry a b plan d).number ≡ (entry_verdict a b plan d).no
unfolding count_entry counted_by
entry_number a b plan d = go (leb 864 (length d)) _
  where
    v : Verdict
    v = bytes_verdict (report_at d) a b plan

    go : (x : Bool) (after : List ℕ) → (cond x (entered v.no after) (entered 5 d)).number ≡ (cond x v (about 5 0)).no
    go true after = refl
    go false after = refl

join_number : (r s : Report) → Exact (join_no r s) (join_table r s)
unfolding join_no
join_number r s =
    exact_row (depth r.bits) refl
    (λ e. exact_row (all_of (picture (picture_of r.frame))
    (all_of (all_of (all_of (same s.bits r.bits) (same s.frame.width r.frame.width))
    (same s.frame.height r.frame.height)) (same s.frame.ctu r.frame.ctu))) refl
    (λ e. exact_row (all_of (at-most (r.pairs + s.pairs) 65536) (all_of (limits r) (limits s))) refl (λ e. exact_none)))

pub join : (r s : Report) → Exact (join_reports r s).no (join_table r s)
unfolding join_reports
join r s = join_number r s

pub join-entry : (other d : List ℕ)
    → Exact (join_entry other d).number ((5 when length d < 864 or length other < 864) ∷ join_table (report_at d) (report_at other))
unfolding join_entry join_reports
join-entry other d = go (leb 864 (length d) && leb 864 (length other)) _ (all_of (at-most 864 (length d)) (at-most 864 (length other)))
  where
    k : ℕ
    k = join_no (report_at d) (report_at other)

    go : (x : Bool) (after : List ℕ) → Tells x (length d < 864 or length other < 864)
        → Exact (cond x (entered k after) (entered 5 d)).number
        ((5 when length d < 864 or length other < 864) ∷ join_table (report_at d) (report_at other))
    go true after t = exact_row t refl (λ e. join_number (report_at d) (report_at other))
    go false after t = exact_row t refl (λ e. join_number (report_at d) (report_at other))
