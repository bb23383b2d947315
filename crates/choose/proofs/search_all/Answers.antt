-- `choose::search_all` meets its contract. The smoothed border is the standard's where a mode asks for it. Rests on `search_from`.
use Rattle.std.proofs.Common.{sym, ap, ◌∙◌, subst}
use mathlib.Core.Bool.{true}
use Rattle.h265.specs.Notation.{from_rows}
use Rattle.h265.specs.Filtering.{filtered}
use Rattle.h265.specs.Mean.{Agree}
use Rattle.domain.specs.rows.Neighbours.{neighbours_of, zero_rows}
use Rattle.domain.specs.declared.rows.Rows.{Rows}
use Rattle.domain.specs.Refused.{unwrapped}
use Rattle.smooth.specs.Answers.{Smoothed}
use Rattle.smooth.specs.Smoothing.{filter_luma_refs}
use Rattle.smooth.specs.Standard.{door_is_standard}
use Rattle.choose.specs.Ready.{smoothing_serves}
use Rattle.choose.specs.Sums.{never_smoothed}
use Rattle.choose.proofs.search_all.Goals as goal

pub search_from-requires : goal.search_from-requires
search_from-requires c = let p = c.requires in
    (p.0, (record { smooth = λ m e. absurd (never_smoothed c.args.block.n m c.if-block-eq4.true e) }, p.1))

pub search_from-requires-2 : goal.search_from-requires-2
unfolding filter_luma_refs
search_from-requires-2 c = let b = c.args.border in
    let k = c.args.block in
    let p = c.requires in
    let serves = smoothing_serves k.bits k.n _ _ k.depth k.size b.long.0 b.long.1 in
    let smoothed = c.filter_luma_refs in
    let served = ap (λ (s : Smoothed). s.no) smoothed.ensures ∙ serves in
    let rows = c.unwrap_or-rows.ensures ∙ unwrapped smoothed.result _ zero_rows served ∙ ap (λ (s : Smoothed). s.rows) smoothed.ensures in (
      p.0,
      (
        record {
          smooth = λ m e.
              subst (λ (r : Rows). Agree k.n (neighbours_of r)
              (filtered true k.bits k.n (from_rows b.corner b.above.now b.left.now)))
              (sym rows)
              (door_is_standard true b.corner b.above.now b.left.now k.n k.bits serves);
        },
        p.1,
      ),
    )
