-- Document 01, module 1: format. Assumes nothing.
use Rattle.std.specs.Prelude.{ℕ, ◌<◌, ◌≤◌, ◌≡◌, refl, cond, ◌⊎◌, eqb, Option, Some, None}
use Rattle.std.proofs.Common.{inl, inr, arith}
use Rattle.fmt.specs.declared.ChromaFormat.{ChromaFormat}
use Rattle.fmt.specs.declared.ChromaFormat.TheVariants.{Monochrome, Yuv420, Yuv422, Yuv444}

-- chroma_format_idc: 0 monochrome, 1 4:2:0, 2 4:2:2, 3 4:4:4
abbrev pub idc_of : ChromaFormat → ℕ
idc_of Monochrome = 0
idc_of Yuv420 = 1
idc_of Yuv422 = 2
idc_of Yuv444 = 3

abbrev pub format_from : ℕ → Option ChromaFormat
format_from idc =
    cond (eqb idc 0) (Some Monochrome)
    (cond (eqb idc 1) (Some Yuv420) (cond (eqb idc 2) (Some Yuv422) (cond (eqb idc 3) (Some Yuv444) None)))

-- subsampling 2,2 for 4:2:0, 2,1 for 4:2:2, else 1,1 (width, height)
abbrev pub sub_width : ChromaFormat → ℕ
sub_width Yuv420 = 2
sub_width Yuv422 = 2
sub_width Yuv444 = 1
sub_width Monochrome = 1

abbrev pub sub_height : ChromaFormat → ℕ
sub_height Yuv420 = 2
sub_height Yuv422 = 1
sub_height Yuv444 = 1
sub_height Monochrome = 1

-- a subsampling is 1 or 2
pub sub-width : (f : ChromaFormat) → (0 < sub_width f) × (sub_width f ≤ 2)
sub-width Monochrome = omega arith
sub-width Yuv420 = omega arith
sub-width Yuv422 = omega arith
sub-width Yuv444 = omega arith

pub sub-height : (f : ChromaFormat) → (0 < sub_height f) × (sub_height f ≤ 2)
sub-height Monochrome = omega arith
sub-height Yuv420 = omega arith
sub-height Yuv422 = omega arith
sub-height Yuv444 = omega arith

-- luma samples from a sample of a plane to the next one, along a row or down a column
abbrev pub Subsampling : ℕ → Type 0
Subsampling s = (s ≡ 1) ⊎ (s ≡ 2)

pub step_width : (f : ChromaFormat) → Subsampling (sub_width f)
step_width Monochrome = inl refl
step_width Yuv420 = inr refl
step_width Yuv422 = inr refl
step_width Yuv444 = inl refl

pub step_height : (f : ChromaFormat) → Subsampling (sub_height f)
step_height Monochrome = inl refl
step_height Yuv420 = inr refl
step_height Yuv422 = inl refl
step_height Yuv444 = inl refl
