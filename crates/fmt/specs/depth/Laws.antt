-- A depth's figures by its bits: all ones, half of the range; and what the figures of a number are that is a depth. Rests on the
-- domain's depths.
use Rattle.std.specs.Prelude.{◌≡◌, refl, Bool, false, true, cond, ◌||◌, ℕ, ◌-◌, ◌^◌, eqb, Ok, Err}
use Rattle.std.proofs.Common.{ap, true≢false}
use Rattle.domain.specs.Domain.{depth_ok}
use Rattle.domain.specs.Facts.{Depth as IsDepth, at_depth}
use Rattle.fmt.specs.declared.depth.BitDepth.{BitDepth}
use Rattle.fmt.specs.declared.depth.BitDepth.TheVariants.{Eight, Ten, Twelve}
use Rattle.domain.specs.declared.refusal.Refusal.TheVariants.{Depth}
use Rattle.fmt.specs.depth.Depth.{bits_of, max_val, neutral, figure_in, largest_of, neutral_of}

pub max_val_is : (d : BitDepth) → max_val d ≡ 2 ^ bits_of d - 1
max_val_is Eight = refl
max_val_is Ten = refl
max_val_is Twelve = refl

pub neutral_is : (d : BitDepth) → neutral d ≡ 2 ^ (bits_of d - 1)
neutral_is Eight = refl
neutral_is Ten = refl
neutral_is Twelve = refl

-- the figures of a number that is a depth
pub largest_of_is : (bits : ℕ) → IsDepth bits → largest_of bits ≡ 2 ^ bits - 1
largest_of_is bits d = at_depth (λ (k : ℕ). largest_of k ≡ 2 ^ k - 1) refl refl refl bits d

pub neutral_of_is : (bits : ℕ) → IsDepth bits → neutral_of bits ≡ 2 ^ (bits - 1)
neutral_of_is bits d = at_depth (λ (k : ℕ). neutral_of k ≡ 2 ^ (k - 1)) refl refl refl bits d

-- a number that is no depth names none
none_named : (a b c : Bool) → (a || b || c) ≡ false → cond a (Ok Eight) (cond b (Ok Ten) (cond c (Ok Twelve) (Err Depth))) ≡ Err Depth
none_named true b c e = absurd (true≢false e)
none_named false true c e = absurd (true≢false e)
none_named false false true e = absurd (true≢false e)
none_named false false false e = refl

pub largest_of_none : (bits : ℕ) → depth_ok bits ≡ false → largest_of bits ≡ 0
largest_of_none bits h = ap (figure_in max_val) (none_named (eqb bits 8) (eqb bits 10) (eqb bits 12) h)
