-- Document 01: 'Where an answer is an enum, a definition gives this paper's number and values for each of its cases, and the promises
-- use that definition.' Two answers are a depth or its refusal, and a format or none. Here is what each case says, and that every answer which meets
-- its contract says the paper's figures for what the call was given. Rests on Exact.
use Rattle.std.specs.Prelude.{◌≡◌, refl, Bool, true, false, cond, List, [], ◌∷◌, ℕ, eqb, Option, Some, None, Result, Ok, Err}
use Rattle.std.proofs.Common.{sym, subst, inl, inr, arith, eqb-true}
use Rattle.std.proofs.lemmas.Bool.{eqb-false}
use Rattle.domain.specs.declared.refusal.Refusal.{Refusal}
use Rattle.domain.specs.declared.refusal.Refusal.TheVariants.{Depth}
use Rattle.fmt.specs.declared.depth.BitDepth.{BitDepth}
use Rattle.fmt.specs.declared.depth.BitDepth.TheVariants.{Eight, Ten, Twelve}
use Rattle.fmt.specs.declared.ChromaFormat.{ChromaFormat}
use Rattle.fmt.specs.declared.ChromaFormat.TheVariants.{Monochrome, Yuv420, Yuv422, Yuv444}
use Rattle.fmt.specs.depth.Depth.{bits_of, max_val, neutral, depth_from, depth_number, figure_in}
use Rattle.fmt.specs.Fmt.{sub_width, sub_height}
use Rattle.order.specs.Reach.{has_chroma}
use Rattle.refs.specs.Door.{format_in}
use Rattle.fmt.proofs.depth.BitDepth.from_bits.Reads as from_bits
use Rattle.fmt.proofs.depth.BitDepth.bits.Reads as bits
use Rattle.fmt.proofs.depth.BitDepth.max_val.Reads as max-val
use Rattle.fmt.proofs.depth.BitDepth.neutral.Reads as neutral-sample
use Rattle.fmt.proofs.depth.largest_of.Reads as largest-of
use Rattle.fmt.proofs.depth.neutral_of.Reads as neutral-of
use Rattle.fmt.proofs.ChromaFormat.from_idc.Reads as from-idc
use Rattle.fmt.proofs.ChromaFormat.sub_w.Reads as sub-w
use Rattle.fmt.proofs.ChromaFormat.sub_h.Reads as sub-h
use Rattle.promises.specs.tables.Exact.{Row, ◌when◌, First, ExactFirst, first_exact}

-- a depth: its number, its bits, its largest sample and the neutral one; refused, 0 for any other figure
pub record DepthSays : Type 0 where
  pub number : ℕ
  pub bits : ℕ
  pub largest : ℕ
  pub neutral : ℕ

abbrev pub depth : ℕ → ℕ → ℕ → ℕ → DepthSays
depth number bits largest middle = record { number = number; bits = bits; largest = largest; neutral = middle }

abbrev pub depth_says : Result BitDepth Refusal → DepthSays
depth_says d = depth (depth_number d) (figure_in bits_of d) (figure_in max_val d) (figure_in neutral d)

-- a format: the number that the chroma gather has for it, and its subsampling across and down
pub record FormatSays : Type 0 where
  pub number : ℕ
  pub across : ℕ
  pub down : ℕ

abbrev pub format : ℕ → ℕ → ℕ → FormatSays
format number across down = record { number = number; across = across; down = down }

abbrev pub format_says : Option ChromaFormat → FormatSays
format_says f = format (cond (has_chroma (format_in f)) 0 4) (sub_width (format_in f)) (sub_height (format_in f))

-- what every answer that meets a contract says, by rows over what the call was given; and a figure that another function gives
abbrev Says : {A X S B : Type 0} → (A → X → S → Type 0) → (X → B) → B → (A → List (Row B)) → Type 0
Says {A} {X} {S} post says done rows = (a : A) (x : X) (s : S) → post a x s → ExactFirst done (says x) (rows a)

abbrev Figure : {A S : Type 0} → (A → ℕ → S → Type 0) → (A → ℕ) → Type 0
Figure {A} {S} post figure = (a : A) (x : ℕ) (s : S) → post a x s → x ≡ figure a

-- depth
from_bits_says : Says (from_bits.Post tt) depth_says (depth 1 0 0 0)
    (λ a. (depth 0 8 255 128 when a.0 ≡ 8) ∷ (depth 0 10 1023 512 when a.0 ≡ 10) ∷ (depth 0 12 4095 2048 when a.0 ≡ 12) ∷ [])
from_bits_says a x s p =
    first_exact _ _ _
    (subst (λ (d : Result BitDepth Refusal). First (depth 1 0 0 0) (depth_says d) rows) (sym p) (go (eqb k 8) (eqb k 10) (eqb k 12) refl refl refl))
  where
    k : ℕ
    k = a.0

    rows : List (Row DepthSays)
    rows = (depth 0 8 255 128 when k ≡ 8) ∷ (depth 0 10 1023 512 when k ≡ 10) ∷ (depth 0 12 4095 2048 when k ≡ 12) ∷ []

    go : (x y z : Bool) → eqb k 8 ≡ x → eqb k 10 ≡ y → eqb k 12 ≡ z
        → First (depth 1 0 0 0) (depth_says (cond x (Ok Eight) (cond y (Ok Ten) (cond z (Ok Twelve) (Err Depth))))) rows
    go true y z p q r = inl (eqb-true k 8 p, refl)
    go false true z p q r = inr (eqb-false k 8 p, inl (eqb-true k 10 q, refl))
    go false false true p q r = inr (eqb-false k 8 p, inr (eqb-false k 10 q, inl (eqb-true k 12 r, refl)))
    go false false false p q r = inr (eqb-false k 8 p, inr (eqb-false k 10 q, inr (eqb-false k 12 r, refl)))

bits_says : Figure (bits.Post tt) (λ a. (depth_says (Ok a.0)).bits)
bits_says a x s p = p

max_val_says : Figure (max-val.Post tt) (λ a. (depth_says (Ok a.0)).largest)
max_val_says a x s p = p

neutral_says : Figure (neutral-sample.Post tt) (λ a. (depth_says (Ok a.0)).neutral)
neutral_says a x s p = p

largest_of_says : Figure (largest-of.Post tt) (λ a. (depth_says (depth_from a.0)).largest)
largest_of_says a x s p = p

neutral_of_says : Figure (neutral-of.Post tt) (λ a. (depth_says (depth_from a.0)).neutral)
neutral_of_says a x s p = p

-- format: monochrome, which is 0, and unknown ones are refused
from_idc_says : Says (from-idc.Post tt) format_says (format 4 1 1)
    (λ a. (format 0 2 2 when a.0 ≡ 1) ∷ (format 0 2 1 when a.0 ≡ 2) ∷ (format 0 1 1 when a.0 ≡ 3) ∷ [])
from_idc_says a x s p =
    first_exact _ _ _
    (subst (λ (f : Option ChromaFormat). First (format 4 1 1) (format_says f) rows) (sym p)
    (go (eqb k 0) (eqb k 1) (eqb k 2) (eqb k 3) refl refl refl refl))
  where
    k : ℕ
    k = a.0

    rows : List (Row FormatSays)
    rows = (format 0 2 2 when k ≡ 1) ∷ (format 0 2 1 when k ≡ 2) ∷ (format 0 1 1 when k ≡ 3) ∷ []

    go : (w x y z : Bool) → eqb k 0 ≡ w → eqb k 1 ≡ x → eqb k 2 ≡ y → eqb k 3 ≡ z
        → First (format 4 1 1)
        (format_says (cond w (Some Monochrome) (cond x (Some Yuv420) (cond y (Some Yuv422) (cond z (Some Yuv444) None))))) rows
    go true x y z o p q r =
        let e = eqb-true k 0 o in
        inr (λ h. omega (arith, e, h), inr (λ h. omega (arith, e, h), inr (λ h. omega (arith, e, h), refl)))
    go false true y z o p q r = inl (eqb-true k 1 p, refl)
    go false false true z o p q r = inr (eqb-false k 1 p, inl (eqb-true k 2 q, refl))
    go false false false true o p q r = inr (eqb-false k 1 p, inr (eqb-false k 2 q, inl (eqb-true k 3 r, refl)))
    go false false false false o p q r = inr (eqb-false k 1 p, inr (eqb-false k 2 q, inr (eqb-false k 3 r, refl)))

sub_w_says : Figure (sub-w.Post tt) (λ a. (format_says (Some a.0)).across)
sub_w_says a x s p = p

sub_h_says : Figure (sub-h.Post tt) (λ a. (format_says (Some a.0)).down)
sub_h_says a x s p = p
