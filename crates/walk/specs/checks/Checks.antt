-- Documents 01 and 02: what a call on a still refuses before it looks at blocks, in its order, and how the verdict on a plan goes on from
-- there. Assumes nothing.
use Rattle.std.specs.Prelude.{ℕ, ◌-◌, ◌*◌, ◌^◌, Bool, cond, ◌&&◌, List, [], ◌∷◌, leb, eqb, ℤ, length}
use Rattle.laws.specs.Choose.{Check, ◌unless◌, first_fail}
use Rattle.laws.specs.Every.{every}
use Rattle.domain.specs.Domain.{depth_ok}
use Rattle.order.specs.Order.{picture_ok}
use Rattle.samples.specs.deltas.Deltas.{residual_ok, residual_within}
use Rattle.plan.specs.Answers.{Verdict}
use Rattle.plan.specs.tiling.Tiling.{picture_of}
use Rattle.walk.specs.declared.checks.Still.{Still}

-- the largest sample of the depth
abbrev pub largest_in : Still → ℕ
largest_in s = 2 ^ s.bits - 1

-- number 5: planes and residuals of exactly the picture's samples
abbrev pub is_whole : Still → ℕ → Bool
is_whole s len = eqb len (s.frame.height * s.frame.width)

-- number 5: the lent scratch tables
pub record Tables : Type 0 where
  pub refs : ℕ
  pub indices : ℕ
  pub fractions : ℕ

abbrev pub is_roomy : Tables → Bool
is_roomy t = leb 193 t.refs && leb 32 t.indices && leb 32 t.fractions

-- the number of the checks before the plan's: 1, 4, 5, then those of a list, in its order
abbrev pub call_no : Still → Bool → List Check → ℕ
call_no s fit later =
    first_fail ((1 unless depth_ok s.bits) ∷ (4 unless picture_ok (picture_of s.frame)) ∷ (5 unless fit) ∷ later)

abbrev pub opening_no : Still → Bool → ℕ
opening_no s fit = call_no s fit []

-- Replay: after 5 come 8 over every residual, then document 02's 14, a residual larger than the depth's largest sample, over every one too.
abbrev pub residual_checks : ℕ → List ℤ → List Check
residual_checks largest residuals =
    (8 unless every residual_ok residuals) ∷ (14 unless every (residual_within largest) residuals) ∷ []

-- `records` says whether the plan is of whole records
abbrev pub replay_fits : Still → Bool → Tables → ℕ → ℕ → Bool
replay_fits s records t plane residuals = records && is_whole s plane && is_whole s residuals && is_roomy t

abbrev pub replay_no : Still → Bool → Tables → ℕ → List ℤ → ℕ
replay_no s records t plane residuals =
    call_no s (replay_fits s records t plane (length residuals)) (residual_checks (largest_in s) residuals)

-- Walk: after 5 comes 7 over every source sample.
abbrev pub source_checks : ℕ → List ℕ → List Check
source_checks largest source = (7 unless every (λ v. leb v largest) source) ∷ []

abbrev pub walk_fits : Still → Bool → Tables → ℕ → ℕ → ℕ → Bool
walk_fits s records t source work residuals = records && is_whole s source && is_whole s work && is_whole s residuals && is_roomy t

abbrev pub walk_no : Still → Bool → Tables → List ℕ → ℕ → ℕ → ℕ
walk_no s records t source work residuals =
    call_no s (walk_fits s records t (length source) work residuals) (source_checks (largest_in s) source)

-- the verdict on a call: `early` is the number of the checks before the plan's and `found` the plan's verdict, then comes number 11
unfoldable pub settle : Verdict → ℕ → ℕ → ℕ → Verdict
settle found count done early =
    cond (eqb early 0) (cond (eqb found.no 0) (record { no = cond (leb done count) 0 11; block = 0 }) found)
    (record { no = early; block = 0 })
