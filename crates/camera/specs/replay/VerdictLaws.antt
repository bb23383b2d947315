-- What joins the functions that check a call on bytes and answer it. Rests on the laws of calls and on those of bytes.
use Rattle.std.specs.Prelude.{◌≡◌, refl, Bool, true, false, ◌&&◌, List, ℕ, ◌+◌, ◌*◌, ◌/◌, ◌%◌, ◌≤◌, ◌<◌, leb, eqb, length, set}
use Rattle.std.proofs.Common.{sym, ap, ◌∙◌, arith, eqb-true, eq-eqb, ne_eqb, le-leb}
use Rattle.std.proofs.lemmas.Bool.{eqb-false, lt-leb}
use Rattle.laws.specs.Choose.{if_yes, if_no, both_true}
use Rattle.octets.specs.Bytes.{byte1, byte2, byte3, residuals_of}
use Rattle.octets.specs.Laws.{pair_stored}
use Rattle.order.specs.Order.{picture_ok}
use Rattle.plan.specs.Answers.{Verdict}
use Rattle.plan.specs.tiling.Tiling.{picture_of}
use Rattle.plan.specs.tiling.PlanCheck.{plan_verdict}
use Rattle.plan.specs.RecordPlan.{records_of}
use Rattle.walk.specs.declared.checks.Still.{Still}
use Rattle.walk.specs.checks.Checks.{largest_in, residual_checks, settle}
use Rattle.walk.specs.checks.Laws.{good_call}
use Rattle.walk.specs.calls.Door.{verdict_of}
use Rattle.walk.specs.calls.Laws.{settle_is}
use Rattle.camera.specs.replay.Verdict.{Lent, bytes_fit, byte_no, byte_verdict, answered}

-- two or four bytes for each sample: no byte is left over, and there are as many twos or fours
module _ (len area : ℕ) where
  pub by_two : (eqb (len % 2) 0 && eqb (len / 2) area) ≡ eqb len (2 * area)
  by_two = go (eqb (len % 2) 0) (eqb (len / 2) area) refl refl
    where
      go : (x y : Bool) → eqb (len % 2) 0 ≡ x → eqb (len / 2) area ≡ y → (x && y) ≡ eqb len (2 * area)
      go true true p q = sym (eq-eqb len (2 * area) (omega (arith, eqb-true (len % 2) 0 p, eqb-true (len / 2) area q)))
      go true false p q = sym (ne_eqb len (2 * area) (λ e. eqb-false (len / 2) area q (omega (arith, e))))
      go false y p q = sym (ne_eqb len (2 * area) (λ e. eqb-false (len % 2) 0 p (omega (arith, e))))

  pub by_four : (eqb (len % 4) 0 && eqb (len / 4) area) ≡ eqb len (4 * area)
  by_four = go (eqb (len % 4) 0) (eqb (len / 4) area) refl refl
    where
      go : (x y : Bool) → eqb (len % 4) 0 ≡ x → eqb (len / 4) area ≡ y → (x && y) ≡ eqb len (4 * area)
      go true true p q = sym (eq-eqb len (4 * area) (omega (arith, eqb-true (len % 4) 0 p, eqb-true (len / 4) area q)))
      go true false p q = sym (ne_eqb len (4 * area) (λ e. eqb-false (len / 4) area q (omega (arith, e))))
      go false y p q = sym (ne_eqb len (4 * area) (λ e. eqb-false (len % 4) 0 p (omega (arith, e))))

-- bytes that fit, part by part
pub record Fitting (s : Still) (l : Lent) : Type 0 where
  pub plane : l.plane ≡ 2 * (s.frame.height * s.frame.width)
  pub residuals : length l.residuals ≡ 4 * (s.frame.height * s.frame.width)
  pub records : (records_of l.plan).whole ≡ true

pub fitting : (s : Still) (l : Lent) → bytes_fit s l ≡ true → Fitting s l
fitting s l e =
    let a = both_true _ (leb 8 l.result) e in
    let b = both_true _ (records_of l.plan).whole a.0 in
    let c = both_true _ _ b.0 in
    record { plane = eqb-true l.plane _ c.0; residuals = eqb-true (length l.residuals) _ c.1; records = b.1 }

-- the verdict, from the number of the checks before the plan's
verdict-from : (s : Still) (done : ℕ) (l : Lent) (v : Verdict) (early : ℕ) → early ≡ byte_no s l → v
    ≡ verdict_of s (records_of l.plan) done early → v ≡ byte_verdict s done l
unfolding byte_verdict
verdict-from s done l v early e q = q ∙ ap (verdict_of s (records_of l.plan) done) e

-- number 0 of these: the picture is good, and the plan is whole records
early_good : (s : Still) (l : Lent) → byte_no s l ≡ 0 → (picture_ok (picture_of s.frame) ≡ true) × ((records_of l.plan).whole ≡ true)
early_good s l z =
    let g = good_call s (bytes_fit s l) (residual_checks (largest_in s) (residuals_of l.residuals)) z in
    (g.0, (fitting s l g.1).records)

-- the verdict, from the plan's on its bytes
pub settled_bytes : (s : Still) (done : ℕ) (l : Lent) (found v : Verdict) (early : ℕ) → early ≡ byte_no s l → found
    ≡ plan_verdict s.frame (records_of l.plan)
    → v ≡ settle found (length l.plan / 6) done early → v ≡ byte_verdict s done l
settled_bytes s done l found v early e f q =
    verdict-from s done l v early e (q ∙ settle_is s (records_of l.plan) done early found (λ _. f) (λ z. early_good s l (sym e ∙ z)))

-- four stores of a number, and two numbers that answer a call
abbrev pub put_word : List ℕ → ℕ → ℕ → List ℕ
put_word d at v = set (set (set (set d at (v % 256)) (at + 1) (byte1 v)) (at + 2) (byte2 v)) (at + 3) (byte3 v)

pub words_stored : (d : List ℕ) (v w : ℕ) → 8 ≤ length d → put_word (put_word d 0 v) 4 w ≡ answered v w d
unfolding answered
words_stored d v w l = pair_stored d v w l ∙ if_yes (leb 8 (length d)) _ d _ (le-leb 8 (length d) l) refl

pub short_kept : (d : List ℕ) (v w : ℕ) → length d < 8 → d ≡ answered v w d
unfolding answered
short_kept d v w l = if_no (leb 8 (length d)) _ d d (lt-leb 8 (length d) l) refl
