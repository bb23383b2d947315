-- The page Choose, proved. Rests on the contract, and on demand 2 for the rows of a gather.
use Rattle.std.specs.Prelude.{◌≡◌, refl, List, ℕ, ◌≤◌, Ok}
use Rattle.std.proofs.Common.{sym, ap, ◌∙◌, arith}
use Rattle.laws.specs.Least.{FirstLeast}
use Rattle.h265.specs.Notation.{Neighbours}
use Rattle.h265.specs.Setting.{luma_at, first_edition_strong}
use Rattle.h265.specs.Prediction.{predicted}
use Rattle.h265.specs.Mean.{Agree}
use Rattle.domain.specs.Facts.{Size}
use Rattle.refs.specs.declared.LumaRefGeometry.{LumaRefGeometry}
use Rattle.refs.specs.Answers.{gathered}
use Rattle.predict.specs.modes.Modes.{pred_alone}
use Rattle.choose.specs.Choose.{differences, source_at, mode_sum, Chooses}
use Rattle.choose.specs.Sums.{same_sum}
use Rattle.choose.specs.Answers.{Chosen, chosen_of}
use Rattle.octets.specs.Bytes.{samples_of, pair_into}
use Rattle.camera.specs.Written.{wrote}
use Rattle.camera.specs.choice.Entry.{choice_sums, ChoosesInto}
use Rattle.promises.specs.demand2.Demand2.{LentSlice, in_rows, rows_in_bytes, luma_samples, standard_neighbours, standard_block}
use Rattle.promises.specs.demand2.Proof2.{no_is, demand_2}
use Rattle.promises.specs.demand2.Spelt2.{luma_size}
use Rattle.promises.specs.choose.Choose.{sum_from, Asked, sum_of, BestBytes, ChoicePromise}

-- the page's sum is the contract's
same : (a : Asked) (mode : ℕ) → mode_sum a.bits a.n (in_rows a.corner a.above a.left) a.source.now mode ≡ sum_of a mode
unfolding differences
same a mode = refl

same_in : (bits n corner : ℕ) (above left source : LentSlice) (mode : ℕ)
    → choice_sums bits n corner above.now left.now source.now mode
    ≡ sum_from n (samples_of source.now) (luma_samples bits n mode (rows_in_bytes corner above left))
unfolding differences
same_in bits n corner above left source mode = refl

-- what a served call chose
served_choice : {k : ℕ} {sums : ℕ → ℕ} {r : Chosen} → Chooses k sums r → r.no ≡ 0 → FirstLeast sums 35 r.mode r.sum
served_choice c z = c.best (sym c.number ∙ z)

-- neighbours that are the standard's, as far as a sample reads, have the standard's sum
from_standard : (plane : List ℕ) (geo : LumaRefGeometry) (nb : Neighbours) (source : List ℕ) (mode : ℕ) → Size geo.n → mode ≤ 34
    → Agree geo.n nb (standard_neighbours plane geo)
    → sum_from geo.n source (luma_samples geo.bits geo.n mode nb) ≡ sum_from geo.n source (standard_block plane geo mode)
unfolding differences predicted
from_standard plane geo nb source mode s h a =
    same_sum geo.n geo.n (source_at geo.n source) (source_at geo.n source) _ _ (λ x y hx hy. refl)
    (λ x y hx hy. pred_alone (luma_at geo.bits) first_edition_strong geo.n mode x y nb (standard_neighbours plane geo) s h hx hy a)

-- what the entry wrote
in_bytes : {k : ℕ} {sums sums' : ℕ → ℕ} {d out : List ℕ} {number : ℕ} → ((mode : ℕ) → sums mode ≡ sums' mode)
    → ChoosesInto k sums d (wrote number out) → number ≡ 0 → BestBytes sums' d out
unfolding pair_into
in_bytes {d = d} alike c z =
    let b = c.best (sym c.number ∙ z) in
    let f = b.best in
    let own = f.is ∙ alike b.mode in
    record {
      mode = b.mode;
      is_mode = omega (arith, f.inside);
      none_better = λ other h. rw (sym own, sym (alike other)) (f.least other (omega arith));
      lower_worse = λ other h. rw (sym own, sym (alike other)) (f.first other h);
      written = b.stored ∙ ap (λ (s : ℕ). pair_into b.mode s d) own;
    }

pub choice_settled : ChoicePromise
choice_settled =
    record {
      a_mode = λ κs a pred pred' tables tables' r p z.
          let f = served_choice p.0 z in
          (omega (arith, f.inside), f.is ∙ same a (chosen_of r).mode);
      none_better = λ κs a pred pred' tables tables' r p z mode h.
          rw (sym (same a mode)) ((served_choice p.0 z).least mode (omega arith));
      lower_worse = λ κs a pred pred' tables tables' r p z mode h.
          rw (sym (same a mode)) ((served_choice p.0 z).first mode h);
      refused = λ κs a pred pred' tables tables' r p z.
          let zero = p.0.nothing (λ e. z (p.0.number ∙ e)) in
          (zero.0, (zero.1, p.1 z));
      over_gathered = λ κ plane geo rows m above left source e f mode h.
          from_standard plane.now geo (in_rows rows.corner above left) source.now mode
          (luma_size _ geo (no_is plane.now geo (gathered (Ok rows)) m refl)) h
          (rw (e, f) (demand_2.get-reference-samples κ plane geo rows m));
      salvrunde_choose = λ κs bits n corner above left source out out' number p z. in_bytes (same_in bits n corner above left source) p z;
    }
