-- The plan check's tests, and what they tell: exactly that a picture is good, and that a block is placed. Assumes nothing.
use Rattle.std.specs.Prelude.{◌≡◌, refl, Bool, true, false, ℕ, ◌+◌, ◌%◌, ◌≤◌, ◌<◌, leb, eqb}
use Rattle.std.proofs.Common.{sym, ap, ◌∙◌, true≢false, inl, ⊎_elim, leb-true, leb-false, eqb-true, le-leb, eq-eqb}
use Rattle.std.proofs.Math.Bool.{cond}
use Rattle.std.proofs.lemmas.Bool.{eqb-false}
use Rattle.laws.specs.Choose.{both_true, if_yes, if_no}
use Rattle.domain.specs.Domain.{size_ok, mode_ok, side_ok, ctu_ok}
use Rattle.domain.specs.Facts.{Size, Side, Ctu, size_of, at_size}
use Rattle.order.specs.Order.{picture_ok}
use Rattle.order.specs.Good.{Good}
use Rattle.order.specs.Reach.{in_plane}
use Rattle.order.specs.Blocks.{picture-of, in-plane}
use Rattle.plan.specs.declared.tiling.Frame.{Frame}
use Rattle.plan.specs.declared.tiling.Block.{Block}
use Rattle.plan.specs.tiling.Tiling.{picture_of, Placed}
use Rattle.plan.specs.tiling.Check.{ahead, placed_ok, block_number}

-- the picture
pub picture_good : (f : Frame) → picture_ok (picture_of f) ≡ true → Good (picture_of f)
picture_good f e = let q = picture-of (picture_of f) e in record { wide = q.0; tall = q.1.0; ctus = q.1.1; units = inl refl }

pub good_picture : (f : Frame) → Good (picture_of f) → picture_ok (picture_of f) ≡ true
good_picture f g = simp (side f.width g.wide, side f.height g.tall, ctu g.ctus)
  where
    side : (s : ℕ) → Side s → side_ok s ≡ true
    side s h = simp (le-leb 8 s h.low, le-leb s 4096 h.high, eq-eqb (s % 8) 0 h.whole)

    ctu : Ctu f.ctu → ctu_ok f.ctu ≡ true
    ctu = ⊎_elim (λ e. ap ctu_ok e) (⊎_elim (λ e. ap ctu_ok e) (λ e. ap ctu_ok e))

-- a block's place
pub placed_of : (f : Frame) (b : Block) → Size b.side → placed_ok f b ≡ true → Placed f b
placed_of f b s e =
    let m = both_true (in_plane f.height f.width b.row b.col b.side) (leb b.side f.ctu) e in
    let q = in-plane f.height f.width b.row b.col b.side m.0 in
    record {
      size = s;
      small = leb-true b.side f.ctu m.1;
      row_at = q.row_at;
      col_at = q.col_at;
      row_in = q.row_in;
      col_in =
          q.col_in;
    }

pub of_placed : (f : Frame) (b : Block) → Placed f b → placed_ok f b ≡ true
of_placed f b p =
    simp (
      eq-eqb (b.row % b.side) 0 p.row_at,
      eq-eqb (b.col % b.side) 0 p.col_at,
      le-leb (b.row + b.side) f.height p.row_in,
      le-leb (b.col + b.side) f.width p.col_in,
      le-leb b.side f.ctu p.small,
    )

-- what a block's number tells, where `covered` samples lie before it
pub data BlockNumbered (f : Frame) (b : Block) (covered n : ℕ) : Type 0 where
  is_fine : n ≡ 0 → Placed f b → b.mode ≤ 34 → ahead f b.row b.col ≡ covered → BlockNumbered f b covered n
  not_size : n ≡ 2 → (Size b.side → ⊥) → BlockNumbered f b covered n
  not_mode : n ≡ 3 → Size b.side → 34 < b.mode → BlockNumbered f b covered n
  not_placed : n ≡ 6 → Size b.side → b.mode ≤ 34 → (Placed f b → ⊥) → BlockNumbered f b covered n
  not_next : n ≡ 9 → Placed f b → b.mode ≤ 34 → (ahead f b.row b.col ≡ covered → ⊥) → BlockNumbered f b covered n

pub numbered : (f : Frame) (b : Block) (covered : ℕ) → BlockNumbered f b covered (block_number f b covered)
unfolding block_number
numbered f b covered = go (size_ok b.side) (mode_ok b.mode) (placed_ok f b) (eqb (ahead f b.row b.col) covered) refl refl refl refl
  where
    go : (s m p a : Bool) → size_ok b.side ≡ s → mode_ok b.mode ≡ m → placed_ok f b ≡ p → eqb (ahead f b.row b.col) covered ≡ a
        → BlockNumbered f b covered (cond s (cond m (cond p (cond a 0 9) 6) 3) 2)
    go true true true true es em ep ea = is_fine refl (placed_of f b (size_of b.side es) ep) (leb-true b.mode 34 em)
        (eqb-true (ahead f b.row b.col) covered ea)
    go true true true false es em ep ea = not_next refl (placed_of f b (size_of b.side es) ep) (leb-true b.mode 34 em)
        (eqb-false (ahead f b.row b.col) covered ea)
    go true true false a es em ep ea = not_placed refl (size_of b.side es) (leb-true b.mode 34 em)
        (λ p. true≢false (sym (of_placed f b p) ∙ ep))
    go true false p a es em ep ea = not_mode refl (size_of b.side es) (leb-false b.mode 34 em)
    go false m p a es em ep ea = not_size refl (λ s. true≢false
        (sym (at_size (λ (n : ℕ). size_ok n ≡ true) refl refl refl refl b.side s) ∙ es))

-- the number, test by test
module _ (f : Frame) (b : Block) (covered : ℕ) where
  pub no_2 : size_ok b.side ≡ false → 2 ≡ block_number f b covered
  unfolding block_number
  no_2 s = simp s

  pub no_3 : size_ok b.side ≡ true → mode_ok b.mode ≡ false → 3 ≡ block_number f b covered
  unfolding block_number
  no_3 s m = simp (s, m)

  pub no_6 : size_ok b.side ≡ true → mode_ok b.mode ≡ true → placed_ok f b ≡ false → 6 ≡ block_number f b covered
  unfolding block_number
  no_6 s m p = if_yes (size_ok b.side) _ 2 6 s (if_yes (mode_ok b.mode) _ 3 6 m (if_no (placed_ok f b) _ 6 6 p refl))

  pub no_last : size_ok b.side ≡ true → mode_ok b.mode ≡ true → placed_ok f b ≡ true → (a : Bool)
      → eqb (ahead f b.row b.col) covered ≡ a → cond a 0 9 ≡ block_number f b covered
  unfolding block_number
  no_last s m p a e = if_yes (size_ok b.side) _ 2 _ s
      (if_yes (mode_ok b.mode) _ 3 _ m (if_yes (placed_ok f b) _ 6 _ p (ap (λ (x : Bool). cond x 0 9) (sym e))))
