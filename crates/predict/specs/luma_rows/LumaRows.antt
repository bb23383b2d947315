-- The rows that a luma block is predicted from: smoothed where the rule says so, and as they are where it does not; the doors of
-- rule and smoothing give them for a block that is served. Rests on the definitions of both doors.
use Rattle.std.specs.Prelude.{◌≡◌, Bool, true, false, cond, ℕ, length, Result}
use Rattle.std.specs.Result.{result_unwrap_or}
use Rattle.std.proofs.Common.{sym, ◌∙◌}
use Rattle.std.proofs.Math.Path.{ap}
use Rattle.domain.specs.declared.rows.Rows.{Rows}
use Rattle.domain.specs.declared.refusal.Refusal.{Refusal}
use Rattle.domain.specs.Refused.{unwrapped}
use Rattle.domain.specs.rows.Neighbours.{zero_rows}
use Rattle.h265.specs.Filtering.{filter_flag}
use Rattle.smooth.specs.Answers.{Rule, Smoothed, rule_given, smoothed_given}
use Rattle.smooth.specs.Smoothing.{smoothed, should_filter_refs, filter_luma_refs}
use Rattle.predict.specs.by_mode.Door.{Predictable}

unfoldable pub prepared_rows : ℕ → ℕ → ℕ → Rows → Rows
prepared_rows bits n mode rows = cond (filter_flag n mode) (smoothed true bits n rows.corner rows.above rows.left) rows

module _ (bits n mode : ℕ) (b : Predictable bits n mode) (rows : Rows) (r : Result Bool Refusal)
    (e : rule_given r ≡ should_filter_refs mode n) where
  flag : result_unwrap_or r false ≡ filter_flag n mode
  unfolding should_filter_refs
  flag =
      unwrapped r false false (ap (λ (q : Rule). q.no) e ∙ rw (b.size, b.inside)) ∙ ap (λ (q : Rule). q.yes) e ∙ rw (b.size, b.inside)

  pub rows_smoothed : length rows.above ≡ 65 → length rows.left ≡ 65 → result_unwrap_or r false ≡ true → (m : Result Rows Refusal)
      → smoothed_given m ≡ filter_luma_refs true rows.corner rows.above rows.left n bits
      → result_unwrap_or m rows ≡ prepared_rows bits n mode rows
  unfolding filter_luma_refs prepared_rows
  rows_smoothed ha hl y m f =
      rw (sym flag ∙ y)
      (unwrapped m rows zero_rows (ap (λ (q : Smoothed). q.no) f ∙ rw (b.depth, b.size, ha, hl))
      ∙ ap (λ (q : Smoothed). q.rows) f ∙ rw (b.depth, b.size, ha, hl))

  pub rows_kept : result_unwrap_or r false ≡ false → rows ≡ prepared_rows bits n mode rows
  unfolding prepared_rows
  rows_kept y = rw (sym flag ∙ y)
