-- Document 01, module 1: depth. Assumes nothing.
use Rattle.std.specs.Prelude.{ℕ, cond, eqb, Result, Ok, Err}
use Rattle.domain.specs.declared.refusal.Refusal.{Refusal}
use Rattle.domain.specs.declared.refusal.Refusal.TheVariants.{Depth}
use Rattle.domain.specs.Refusal.{no_of}
use Rattle.fmt.specs.declared.depth.BitDepth.{BitDepth}
use Rattle.fmt.specs.declared.depth.BitDepth.TheVariants.{Eight, Ten, Twelve}

-- depth 8, 10, 12
abbrev pub bits_of : BitDepth → ℕ
bits_of Eight = 8
bits_of Ten = 10
bits_of Twelve = 12

-- largest sample 255, 1023, 4095; neutral 128, 512, 2048
abbrev pub max_val : BitDepth → ℕ
max_val Eight = 255
max_val Ten = 1023
max_val Twelve = 4095

abbrev pub neutral : BitDepth → ℕ
neutral Eight = 128
neutral Ten = 512
neutral Twelve = 2048

-- the depth that a number of bits names
abbrev pub depth_from : ℕ → Result BitDepth Refusal
depth_from bits = cond (eqb bits 8) (Ok Eight) (cond (eqb bits 10) (Ok Ten) (cond (eqb bits 12) (Ok Twelve) (Err Depth)))

-- document 01's number for each case of the answer
abbrev pub depth_number : Result BitDepth Refusal → ℕ
depth_number d = no_of d

-- a depth's figure, 0 where there is no depth
abbrev pub figure_in : (BitDepth → ℕ) → Result BitDepth Refusal → ℕ
figure_in figure (Ok d) = figure d
figure_in figure (Err why) = 0

-- the figures of a number of bits
abbrev pub largest_of : ℕ → ℕ
largest_of bits = figure_in max_val (depth_from bits)

abbrev pub neutral_of : ℕ → ℕ
neutral_of bits = figure_in neutral (depth_from bits)
