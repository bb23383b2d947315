-- Samples and residuals as bytes: how many there are, what each is, and how one is stored. Assumes nothing.
use Rattle.std.specs.Prelude.{◌≡◌, refl, Bool, true, false, ◌&&◌, List, [], ◌∷◌, ℕ, zero, suc, ◌+◌, ◌*◌, ◌/◌, ◌%◌, ◌≤◌, ◌<◌, eqb, pos, length, get_or, set}
use Rattle.std.proofs.Common.{sym, ap, ap₂, ◌∙◌, mod-eq_of_lt, arith, eq-eqb, eqb-true}
use Rattle.std.proofs.lemmas.Bool.{eqb-false}
use Rattle.laws.specs.Choose.{both_true, both_same}
use Rattle.octets.specs.Bytes.{le2, residual4, byte1, byte2, byte3, samples_of, bytes_of, residuals_of, pair_into}

-- every entry is a byte
abbrev pub AreBytes : List ℕ → Type 0
AreBytes b = (i : ℕ) → get_or b i 0 < 256

-- every entry is a sample
abbrev pub Below : List ℕ → Type 0
Below l = (i : ℕ) → get_or l i 0 < 65536

pub samples_below : (b : List ℕ) → AreBytes b → Below (samples_of b)
unfolding samples_of
samples_below [] h i = omega arith
samples_below (x ∷ []) h i = omega arith
samples_below (x ∷ y ∷ b) h zero = let p = h 0 in let q = h 1 in omega arith
samples_below (x ∷ y ∷ b) h (suc i) = samples_below b (λ j. h (suc (suc j))) i

-- samples
pub length_samples : (b : List ℕ) → length (samples_of b) ≡ length b / 2
unfolding samples_of
length_samples [] = refl
length_samples (x ∷ []) = refl
length_samples (x ∷ y ∷ b) = omega (arith, length_samples b)

pub length_bytes : (l : List ℕ) → length (bytes_of l) ≡ 2 * length l
unfolding bytes_of
length_bytes [] = refl
length_bytes (v ∷ l) = omega (arith, length_bytes l)

-- twice as many bytes are so many samples
pub bytes_whole : (b : List ℕ) (n : ℕ) → eqb (length b) (2 * n) ≡ true → length (samples_of b) ≡ n
bytes_whole b n e = omega (arith, length_samples b, eqb-true (length b) (2 * n) e)

-- as many bytes spell as many samples
pub samples_alike : (a b : List ℕ) → length a ≡ length b → length (samples_of a) ≡ length (samples_of b)
samples_alike a b e = length_samples a ∙ ap (λ (k : ℕ). k / 2) e ∙ sym (length_samples b)

-- a sample's bytes lie in the list
pub sample_in : (b : List ℕ) (i : ℕ) → i < length (samples_of b) → 2 * i + 1 < length b
sample_in b i h = omega (arith, length_samples b)

-- a sample is its two bytes
pub two_bytes : (v x y : ℕ) → v < 65536 → x ≡ v % 256 → y ≡ byte1 v → v ≡ le2 x y
two_bytes v x y h p q = let m : byte1 v ≡ v / 256 = mod-eq_of_lt (omega arith) in omega (arith, m)

-- sample i is the two bytes from 2 i on
pub sample-at : (b : List ℕ) (i at : ℕ) → at ≡ 2 * i → at + 1 < length b → get_or (samples_of b) i 0 ≡ le2 (get_or b at 0) (get_or b (at + 1) 0)
unfolding samples_of
sample-at [] i at e h = absurd (omega arith)
sample-at (x ∷ []) i at e h = absurd (omega arith)
sample-at (x ∷ y ∷ b) zero at e h =
    let z : at ≡ 0 = omega arith in
    let s : at + 1 ≡ 1 = omega arith in
    rw (s, z)
sample-at (x ∷ y ∷ b) (suc i) at e h =
    let z : at ≡ suc (suc (2 * i)) = omega arith in
    let s : at + 1 ≡ suc (suc (2 * i + 1)) = omega arith in
    sample-at b i (2 * i) refl (omega arith) ∙ ap₂ (λ (u v : ℕ). le2 (get_or (x ∷ y ∷ b) u 0) (get_or (x ∷ y ∷ b) v 0)) (sym z) (sym s)

-- two bytes stored are a sample stored
pub store_sample : (b : List ℕ) (i at x y v : ℕ) → at ≡ 2 * i → length b % 2 ≡ 0 → v ≡ le2 x y → samples_of (set (set b at x) (at + 1) y)
    ≡ set (samples_of b) i v
unfolding samples_of
store_sample [] i at x y v e h q = refl
store_sample (a ∷ []) i at x y v e h q = absurd (omega arith)
store_sample (a ∷ b ∷ l) zero at x y v e h q =
    let z : at ≡ 0 = omega arith in
    let s : at + 1 ≡ 1 = omega arith in
    rw (s, z, q)
store_sample (a ∷ b ∷ l) (suc i) at x y v e h q =
    let z : at ≡ suc (suc (2 * i)) = omega arith in
    let s : at + 1 ≡ suc (suc (2 * i + 1)) = omega arith in
    ap₂ (λ (j k : ℕ). samples_of (set (set (a ∷ b ∷ l) j x) k y)) z s
    ∙ ap (λ (r : List ℕ). le2 a b ∷ r) (store_sample l i (2 * i) x y v refl (omega arith) q)

-- bytes that are whole samples, as samples and back
pub bytes_back : (b : List ℕ) → length b % 2 ≡ 0 → AreBytes b → bytes_of (samples_of b) ≡ b
unfolding samples_of bytes_of
bytes_back [] h k = refl
bytes_back (x ∷ []) h k = absurd (omega arith)
bytes_back (x ∷ y ∷ b) h k =
    let p = k 0 in
    let q = k 1 in
    let low : le2 x y % 256 ≡ x = omega arith in
    let whole : le2 x y / 256 ≡ y = omega arith in
    let high : byte1 (le2 x y) ≡ y = ap (λ (m : ℕ). m % 256) whole ∙ mod-eq_of_lt q in
    rw (low, high) (ap (λ (r : List ℕ). x ∷ y ∷ r) (bytes_back b (omega arith) (λ i. k (suc (suc i)))))

-- residuals
pub length_residuals : (b : List ℕ) → length (residuals_of b) ≡ length b / 4
unfolding residuals_of
length_residuals [] = refl
length_residuals (x ∷ []) = refl
length_residuals (x ∷ y ∷ []) = refl
length_residuals (x ∷ y ∷ z ∷ []) = refl
length_residuals (x ∷ y ∷ z ∷ t ∷ b) = omega (arith, length_residuals b)

-- a residual's bytes lie in the list
pub residual_in : (b : List ℕ) (i : ℕ) → i < length (residuals_of b) → 4 * i + 3 < length b
residual_in b i h = omega (arith, length_residuals b)

-- residual i is the four bytes from 4 i on
pub residual-at : (b : List ℕ) (i at : ℕ) → at ≡ 4 * i → at + 3 < length b → get_or (residuals_of b) i (pos 0)
    ≡ residual4 (get_or b at 0) (get_or b (at + 1) 0) (get_or b (at + 2) 0) (get_or b (at + 3) 0)
unfolding residuals_of
residual-at [] i at e h = absurd (omega arith)
residual-at (x ∷ []) i at e h = absurd (omega arith)
residual-at (x ∷ y ∷ []) i at e h = absurd (omega arith)
residual-at (x ∷ y ∷ z ∷ []) i at e h = absurd (omega arith)
residual-at (x ∷ y ∷ z ∷ t ∷ b) zero at e h =
    let p0 : at ≡ 0 = omega arith in
    let p1 : at + 1 ≡ 1 = omega arith in
    let p2 : at + 2 ≡ 2 = omega arith in
    let p3 : at + 3 ≡ 3 = omega arith in
    rw (p1, p2, p3, p0)
residual-at (x ∷ y ∷ z ∷ t ∷ b) (suc i) at e h =
    let p0 : at ≡ suc (suc (suc (suc (4 * i)))) = omega arith in
    let p1 : at + 1 ≡ suc (suc (suc (suc (4 * i + 1)))) = omega arith in
    let p2 : at + 2 ≡ suc (suc (suc (suc (4 * i + 2)))) = omega arith in
    let p3 : at + 3 ≡ suc (suc (suc (suc (4 * i + 3)))) = omega arith in
    rw (p1, p2, p3, p0) (residual-at b i (4 * i) refl (omega arith))

-- eight stores are the pair
pub pair_stored : (d : List ℕ) (v w : ℕ) → 8 ≤ length d
    → set (set (set (set (set (set (set (set d 0 (v % 256)) 1 (byte1 v)) 2 (byte2 v)) 3 (byte3 v)) 4 (w % 256)) 5 (byte1 w)) 6 (byte2 w))
    7 (byte3 w) ≡ pair_into v w d
unfolding pair_into
pair_stored (a ∷ b ∷ c ∷ d ∷ e ∷ f ∷ g ∷ h ∷ l) v w k = refl
pair_stored [] v w k = absurd (omega arith)
pair_stored (a ∷ []) v w k = absurd (omega arith)
pair_stored (a ∷ b ∷ []) v w k = absurd (omega arith)
pair_stored (a ∷ b ∷ c ∷ []) v w k = absurd (omega arith)
pair_stored (a ∷ b ∷ c ∷ d ∷ []) v w k = absurd (omega arith)
pair_stored (a ∷ b ∷ c ∷ d ∷ e ∷ []) v w k = absurd (omega arith)
pair_stored (a ∷ b ∷ c ∷ d ∷ e ∷ f ∷ []) v w k = absurd (omega arith)
pair_stored (a ∷ b ∷ c ∷ d ∷ e ∷ f ∷ g ∷ []) v w k = absurd (omega arith)

-- an even count whose half is k is twice k
pub halved : (len k : ℕ) → (eqb (len % 2) 0 && eqb (len / 2) k) ≡ eqb len (2 * k)
halved len k = by (eqb len (2 * k)) refl (eqb (len % 2) 0 && eqb (len / 2) k) refl
  where
    by : (t : Bool) → eqb len (2 * k) ≡ t → (u : Bool) → (eqb (len % 2) 0 && eqb (len / 2) k) ≡ u → u ≡ t
    by true e true h = refl
    by false e false h = refl
    by true e false h = let q = eqb-true len (2 * k) e in sym h
        ∙ both_same (eq-eqb (len % 2) 0 (omega arith)) (eq-eqb (len / 2) k (omega arith))
    by false e true h =
        let b = both_true (eqb (len % 2) 0) (eqb (len / 2) k) h in
        let p = eqb-true (len % 2) 0 b.0 in
        let q = eqb-true (len / 2) k b.1 in
        absurd (eqb-false len (2 * k) e (omega arith))
