-- What the parameter sets and the coding unit fix for a block: the luma grid (7.4.3.2), the colour component, and the flags.
-- Assumes nothing.
use Rattle.std.specs.Prelude.{ℕ, Bool, true, false}

-- the luma grid of a picture
pub record Grid : Type 0 where
  -- pic_width_in_luma_samples and pic_height_in_luma_samples
  pub width : ℕ
  pub height : ℕ
  -- CtbLog2SizeY and MinTbLog2SizeY
  pub ctb : ℕ
  pub min_tb : ℕ

-- a colour component
pub record Component : Type 0 where
  -- cIdx = 0
  pub luma : Bool
  -- BitDepthY or BitDepthC
  pub bits : ℕ
  -- SubWidthC and SubHeightC, 1 and 1 for luma
  pub sub_width : ℕ
  pub sub_height : ℕ
  -- ChromaArrayType = 3
  pub full : Bool

-- the flags; the first edition has the first one alone, and the others at 0
pub record CodingFlags : Type 0 where
  -- strong_intra_smoothing_enabled_flag
  pub strong : Bool
  -- intra_smoothing_disabled_flag (2014)
  pub smoothing_off : Bool
  -- implicit_rdpcm_enabled_flag and cu_transquant_bypass_flag both 1: disableIntraBoundaryFilter (2014)
  pub edge_off : Bool

-- luma
abbrev pub luma_at : ℕ → Component
luma_at bits = record { luma = true; bits = bits; sub_width = 1; sub_height = 1; full = false }

-- the first edition, with strong_intra_smoothing_enabled_flag as told, and with it at 1
abbrev pub first_edition : Bool → CodingFlags
first_edition strong = record { strong = strong; smoothing_off = false; edge_off = false }

abbrev pub first_edition_strong : CodingFlags
first_edition_strong = first_edition true
