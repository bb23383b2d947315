-- The samples of a rebuilt block are of 16 bits, so that bytes hold them. Rests on the laws of bytes.
use Rattle.std.specs.Prelude.{◌≡◌, refl, List, [], ◌∷◌, ℕ, zero, suc, ◌+◌, ◌-◌, ◌*◌, ◌^◌, ◌<◌, get_or, set, ℤ, pos, ◌+ℤ◌}
use Rattle.std.proofs.Common.{sym, ap₂, arith}
use Rattle.laws.specs.Fill.{run}
use Rattle.laws.specs.Paint.{paint}
use Rattle.octets.specs.Bytes.{samples_of, bytes_of}
use Rattle.octets.specs.Laws.{AreBytes, two_bytes, Below}
use Rattle.domain.specs.Facts.{Depth, at_depth}
use Rattle.domain.specs.helpers.Ways.{clip_most}
use Rattle.plan.specs.declared.tiling.Block.{Block}
use Rattle.walk.specs.declared.checks.Still.{Still}
use Rattle.walk.specs.checks.Checks.{largest_in}
use Rattle.walk.specs.block.Predicted.{predicted_at}
use Rattle.walk.specs.block.Rebuilt.{rebuilt}

-- samples as bytes and back
pub samples_back : (l : List ℕ) → Below l → samples_of (bytes_of l) ≡ l
unfolding samples_of bytes_of
samples_back [] h = refl
samples_back (v ∷ l) h = ap₂ (λ (a : ℕ) (r : List ℕ). a ∷ r) (sym (two_bytes v _ _ (h 0) refl refl)) (samples_back l (λ i. h (suc i)))

pub are_bytes : (l : List ℕ) → AreBytes (bytes_of l)
unfolding bytes_of
are_bytes [] i = omega arith
are_bytes (v ∷ l) zero = omega arith
are_bytes (v ∷ l) (suc zero) = omega arith
are_bytes (v ∷ l) (suc (suc i)) = are_bytes l i

-- stores of such numbers keep a list such
below_set : (l : List ℕ) (j v : ℕ) → v < 65536 → Below l → Below (set l j v)
below_set [] j v h k i = omega arith
below_set (x ∷ l) zero v h k zero = h
below_set (x ∷ l) zero v h k (suc i) = k (suc i)
below_set (x ∷ l) (suc j) v h k zero = k 0
below_set (x ∷ l) (suc j) v h k (suc i) = below_set l j v h (λ m. k (suc m)) i

below_run : (g : ℕ → ℕ) (a n : ℕ) (d : List ℕ) → ((c : ℕ) → g c < 65536) → Below d → Below (run g a n d)
unfolding run
below_run g a zero d h k = k
below_run g a (suc n) d h k = below_set (run g a n d) (a + n) (g n) (h n) (below_run g a n d h k)

below_paint : (base stride n : ℕ) (g : ℕ → ℕ → ℕ) (m : ℕ) (d : List ℕ) → ((r c : ℕ) → g r c < 65536) → Below d
    → Below (paint base stride n g m d)
unfolding paint
below_paint base stride n g zero d h k = k
below_paint base stride n g (suc m) d h k = below_run (g m) (base + m * stride) n (paint base stride n g m d) (h m)
    (below_paint base stride n g m d h k)

-- a rebuilt block's samples are
pub below_rebuilt : (s : Still) → Depth s.bits → (b : Block) (at : ℕ) (v : List ℤ) (w : List ℕ) → Below w → Below (rebuilt s b at v w)
unfolding rebuilt
below_rebuilt s depth b at v w h =
    let most : largest_in s < 65536 = at_depth (λ (b : ℕ). 2 ^ b - 1 < 65536) (omega arith) (omega arith) (omega arith) s.bits depth in
    below_paint _ _ _ _ b.side w (λ r c. let q = clip_most (largest_in s)
    (pos (predicted_at s b w r c) +ℤ get_or v (at + r * b.side + c) (pos 0)) in omega (arith, q, most)) h
