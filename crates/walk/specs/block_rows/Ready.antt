-- What the functions that store a block ask of each other. Assumes nothing.
use Rattle.std.specs.Prelude.{ℕ, ◌+◌, ◌*◌, ◌≤◌, ◌<◌}

-- a row of n samples from base on, its predictions from `from` on, its residuals from `at` on
pub record RowIn (plane pred residuals n base from at : ℕ) : Type 0 where
  pub size : n ≤ 32
  pub plane_in : base + n ≤ plane
  pub pred_in : from + n ≤ pred
  pub resid_in : at + n ≤ residuals

-- a block of n rows, each `width` samples after the one before
pub record RowsIn (plane pred residuals n base width at : ℕ) : Type 0 where
  pub size : n ≤ 32
  pub plane_in : (r : ℕ) → r < n → base + r * width + n ≤ plane
  pub pred_in : n * n ≤ pred
  pub resid_in : at + n * n ≤ residuals
