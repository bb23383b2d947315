-- Document 01, 'Numbers and domain': each rule as a test. Assumes nothing.
use Rattle.std.specs.Prelude.{ℕ, ◌*◌, ◌%◌, Bool, ◌&&◌, ◌||◌, leb, eqb}

-- depth 8, 10, 12
abbrev pub depth_ok : ℕ → Bool
depth_ok bits = eqb bits 8 || eqb bits 10 || eqb bits 12

-- block side n is 4, 8, 16 or 32
abbrev pub size_ok : ℕ → Bool
size_ok n = eqb n 4 || eqb n 8 || eqb n 16 || eqb n 32

-- modes 0 (planar), 1 (DC), 2..34
abbrev pub mode_ok : ℕ → Bool
mode_ok mode = leb mode 34

-- picture sides: multiples of 8 from 8 to 4096
abbrev pub side_ok : ℕ → Bool
side_ok side = leb 8 side && leb side 4096 && eqb (side % 8) 0

-- a plane's side, where it is not told whether it is of luma: a multiple of 4 from 4 to 4096
abbrev pub plane_side_ok : ℕ → Bool
plane_side_ok side = leb 4 side && leb side 4096 && eqb (side % 4) 0

-- CTU 16, 32 or 64
abbrev pub ctu_ok : ℕ → Bool
ctu_ok ctu = eqb ctu 16 || eqb ctu 32 || eqb ctu 64

-- least unit 4 or 8
abbrev pub unit_ok : ℕ → Bool
unit_ok unit = eqb unit 4 || eqb unit 8

-- least entries of a reference row at a predictor for side n: those that prediction reads, 0 .. 2n - 1
abbrev pub predictor_row : ℕ → ℕ
predictor_row n = 2 * n

-- and at the smoothing functions, at every side
abbrev pub smoothing_row : ℕ
smoothing_row = 65
