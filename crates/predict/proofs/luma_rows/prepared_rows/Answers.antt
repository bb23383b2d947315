-- `luma_rows::prepared_rows` meets its contract. The rule decides. Rests on the contracts of both.
use Rattle.std.proofs.Common.{rules, sym, ◌∙◌, ◌≡◌, length, Ok, Err}
use Rattle.predict.specs.luma_rows.LumaRows.{rows_smoothed, rows_kept}
use Rattle.predict.proofs.luma_rows.prepared_rows.Goals as goal
use Rattle.predict.proofs.luma_rows.prepared_rows.Goals.{Start}

rows_long : (s : Start) → (length s.args.rows.above ≡ 65) × (length s.args.rows.left ≡ 65)
rows_long s = search rules

pub returns-in-Ok : goal.returns-in-Ok
returns-in-Ok c = let a = c.args in
    let long = rows_long (goal.at.returns-in-Ok c).Start in
    let yes = sym c.unwrap_or.ensures ∙ c.if-unwrap_or.true in
    rows_smoothed a.bits a.n a.mode c.requires a.rows _ c.should_filter_refs.ensures long.0 long.1 yes (Ok c.in-Ok.smoothed) c.in-Ok.ensures

pub returns-in_default : goal.returns-in_default
returns-in_default c = let a = c.args in
    let long = rows_long (goal.at.returns-in_default c).Start in
    let yes = sym c.unwrap_or.ensures ∙ c.if-unwrap_or.true in
    rows_smoothed a.bits a.n a.mode c.requires a.rows _ c.should_filter_refs.ensures long.0 long.1 yes (Err c.in_default.field-0) c.in_default.ensures

pub returns-else-unwrap_or : goal.returns-else-unwrap_or
returns-else-unwrap_or c = let a = c.args in
    rows_kept a.bits a.n a.mode c.requires a.rows _ c.should_filter_refs.ensures (sym c.unwrap_or.ensures ∙ c.if-unwrap_or.false)
