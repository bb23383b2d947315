-- What an answer's number says of it: 0 is no refusal's, each refusal has its own, and two answers of one number and one figure are the
-- same. Rests on the numbers.
use Rattle.std.specs.Prelude.{◌≡◌, refl, cond, ⊤, ℕ, eqb, Result, Ok, Err}
use Rattle.std.proofs.Common.{sym, ap, ◌∙◌, arith}
use Rattle.std.specs.Result.{result_unwrap_or}
use Rattle.domain.specs.declared.refusal.Refusal.{Refusal}
use Rattle.domain.specs.declared.refusal.Refusal.TheVariants.{Depth, Size, Mode, Picture, Buffer, Place, Sample, Residual, Order, Gap, Start, File, Excess, Limit}
use Rattle.domain.specs.Refusal.{number, no_of, value_or}

pub never_0 : (why : Refusal) → number why ≡ 0 → ⊥
never_0 Depth e = omega (arith, e)
never_0 Size e = omega (arith, e)
never_0 Mode e = omega (arith, e)
never_0 Picture e = omega (arith, e)
never_0 Buffer e = omega (arith, e)
never_0 Place e = omega (arith, e)
never_0 Sample e = omega (arith, e)
never_0 Residual e = omega (arith, e)
never_0 Order e = omega (arith, e)
never_0 Gap e = omega (arith, e)
never_0 Start e = omega (arith, e)
never_0 File e = omega (arith, e)
never_0 Excess e = omega (arith, e)
never_0 Limit e = omega (arith, e)

-- the refusal that has a number
abbrev kind : ℕ → Refusal
kind k =
    cond (eqb k 1) Depth (cond (eqb k 2) Size (cond (eqb k 3) Mode (cond (eqb k 4) Picture (cond (eqb k 5) Buffer (
    cond (eqb k 6) Place (cond (eqb k 7) Sample (cond (eqb k 8) Residual (cond (eqb k 9) Order (cond (eqb k 10) Gap (
    cond (eqb k 11) Start (cond (eqb k 12) File (cond (eqb k 14) Excess (Limit)))))))))))))

kind_of : (why : Refusal) → kind (number why) ≡ why
kind_of Depth = refl
kind_of Size = refl
kind_of Mode = refl
kind_of Picture = refl
kind_of Buffer = refl
kind_of Place = refl
kind_of Sample = refl
kind_of Residual = refl
kind_of Order = refl
kind_of Gap = refl
kind_of Start = refl
kind_of File = refl
kind_of Excess = refl
kind_of Limit = refl

pub same_refusal : (v w : Refusal) → number v ≡ number w → v ≡ w
same_refusal v w e = sym (kind_of v) ∙ ap kind e ∙ kind_of w

pub same_answer : {A : Type 0} (z : A) (s t : Result A Refusal) → no_of s ≡ no_of t → value_or z s ≡ value_or z t → s ≡ t
same_answer z (Ok x) (Ok y) e f = ap Ok f
same_answer z (Ok x) (Err w) e f = absurd (never_0 w (sym e))
same_answer z (Err v) (Ok y) e f = absurd (never_0 v e)
same_answer z (Err v) (Err w) e f = ap Err (same_refusal v w e)

-- an answer that says nothing else, by its number alone
pub same_outcome : (s t : Result ⊤ Refusal) → no_of s ≡ no_of t → s ≡ t
same_outcome s t e = same_answer tt s t e refl

-- where an answer is served, the figure in its place is of no account
pub unwrapped : {A : Type 0} (r : Result A Refusal) (other z : A) → no_of r ≡ 0 → result_unwrap_or r other ≡ value_or z r
unwrapped (Ok v) other z e = refl
unwrapped (Err why) other z e = absurd (never_0 why e)
