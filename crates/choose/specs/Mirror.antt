-- A horizontal mode is a vertical one, mirrored: mode m from its rows is mode 36 - m from the rows exchanged, with rows and columns
-- exchanged. Rests on the standard's angular clause with no number below 0.
use Rattle.std.specs.Prelude.{◌≡◌, refl, Bool, true, false, cond, ℕ, ◌-◌, ◌≤◌, ◌<◌, ltb, eqb, T, get_or}
use Rattle.std.proofs.Math.Path.{sym}
use Rattle.std.proofs.Common.{◌∙◌, subst, arith, eqb→eq}
use borrow.Author.Tests.{lt-leb, le-leb, le-ltb, eq-eqb, ne_eqb, eqb-true, eqb-false}
use Rattle.laws.specs.Table.{at}
use Rattle.h265.specs.Notation.{Neighbours}
use Rattle.predict.specs.angular.Unsigned.{angles, inverses, mirror, angular_at}
use Rattle.predict.specs.angular.Bridge.{angular_same}
use Rattle.predict.specs.modes.Modes.{predicted_by_mode}

module _ (mode : ℕ) (low : 2 ≤ mode) (high : mode < 18) where
  same_angle : get_or angles mode 0 ≡ get_or angles (36 - mode) 0
  same_angle =
      eqb→eq _ _
      (subst (λ (b : Bool). T (cond b true (eqb (get_or angles mode 0) (get_or angles (36 - mode) 0)))) (le-ltb mode 2 low)
      (at (λ k x. cond (ltb k 2) true (eqb x (get_or angles (36 - k) 0))) angles tt mode (omega arith)))

  same_inverse : get_or inverses mode 0 ≡ get_or inverses (36 - mode) 0
  same_inverse = eqb→eq _ _ (at (λ k x. eqb x (get_or inverses (36 - k) 0)) inverses tt mode (omega arith))

  same_pure : eqb mode 10 ≡ eqb (36 - mode) 26
  same_pure = go (eqb mode 10) refl
    where
      go : (b : Bool) → eqb mode 10 ≡ b → eqb mode 10 ≡ eqb (36 - mode) 26
      go true q = let e : mode ≡ 10 = eqb-true mode 10 q in q ∙ sym (eq-eqb (36 - mode) 26 (omega arith))
      go false q = q ∙ sym (ne_eqb (36 - mode) 26 (λ e. eqb-false mode 10 q (let f : 36 - mode ≡ 26 = e in omega arith)))

  module _ (bits n x y : ℕ) (edge : Bool) (nb : Neighbours) where
    at_mirror : angular_at bits edge n mode nb x y ≡ angular_at bits edge n (36 - mode) (mirror nb) y x
    unfolding angular_at
    at_mirror =
        rw (lt-leb 18 mode high, le-leb 18 (36 - mode) (omega arith), same_pure, same_angle, same_inverse)

    -- the block's sample
    pub mirrored : n ≤ 32 → x < n → y < n → predicted_by_mode bits edge edge n mode nb x y ≡ predicted_by_mode bits edge edge n (36 - mode) (mirror nb) y x
    unfolding predicted_by_mode
    mirrored s hx hy =
        rw (
          ne_eqb mode 0 (λ e. let q : mode ≡ 0 = e in omega arith),
          ne_eqb mode 1 (λ e. let q : mode ≡ 1 = e in omega arith),
          ne_eqb (36 - mode) 0 (λ e. let q : 36 - mode ≡ 0 = e in omega arith),
          ne_eqb (36 - mode) 1 (λ e. let q : 36 - mode ≡ 1 = e in omega arith),
        )
        (angular_same bits n mode edge nb x y s (omega arith) hx hy ∙ at_mirror
        ∙ sym (angular_same bits n (36 - mode) edge (mirror nb) y x s (omega arith) hy hx))
