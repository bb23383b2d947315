-- A block record in memory: its value, its size, and where block i of a lent list of them stands. Walks by hand over a `&[Block]`, here and in crate walk,
-- name nothing else of the record's fields, so that a further field of `Block` changes this page and none of them. Assumes nothing.
use Prim.Native.Nat.{ℕ, ◌*◌, ◌<◌, ◌^◌}
use native.Mathlib.Omega.{arith}
use mir.Val.{Val}
use denote.Slice.{Room}
use denote.Struct.Laws as LL
use Rattle.plan.specs.declared.tiling.Block.{Block}
use Rattle.plan.specs.contracts.tiling.Block as T
use Rattle.plan.proofs.tiling.Block.TheLaws as T'

abbrev pub block_val : Block → Val
block_val d = LL.tuple_val T.the_type T'.the_laws ((T.the_type).to d)

-- four numbers of 32 bits
abbrev pub block_bytes : ℕ
block_bytes = 16

-- a list that has room in memory has its blocks' places below 2^64
pub block_fits : {n i : ℕ} → Room T.the_row n → i < n → i * block_bytes < 2 ^ 64
block_fits room less = omega (arith, room.1, less)
