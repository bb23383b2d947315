-- Two samples as one number of 32 bits: a list of samples put together in pairs and taken apart, and its bytes. Assumes nothing.
use Rattle.std.specs.Prelude.{◌≡◌, List, ℕ, ◌+◌, ◌*◌, ◌/◌, ◌%◌, ◌^◌, ◌≤◌, ◌<◌, length, get_or, set}
use Rattle.std.proofs.Common.{sym, ap, subst, ◌∙◌, ⊎_elim, div-one, eq-or-lt_of_le, arith}
use Rattle.laws.specs.Fill.{fill}
use Rattle.laws.specs.FillLaws.{fill_none, fill_more, fill_same, fill_at}
use Rattle.laws.specs.Bytes.{byte_of, byte_at}
use Rattle.octets.specs.Bytes.{byte1, byte2, byte3, samples_of}
use Rattle.octets.specs.Laws.{Below, sample-at}

-- samples 2i and 2i + 1, the first in the lower half
abbrev pub pair_of : List ℕ → ℕ → ℕ
pair_of l i = get_or l (2 * i) 0 + 65536 * get_or l (2 * i + 1) 0

-- four bytes are a pair of samples
pub four_bytes : (b : List ℕ) (i : ℕ) → 4 * i + 3 < length b
    → get_or b (4 * i) 0 + 256 * get_or b (4 * i + 1) 0 + 65536 * get_or b (4 * i + 2) 0 + 16777216 * get_or b (4 * i + 3) 0
    ≡ pair_of (samples_of b) i
four_bytes b i h =
    let p = sample-at b (2 * i) (4 * i) (omega arith) (omega arith) in
    let q = sample-at b (2 * i + 1) (4 * i + 2) (omega arith) (omega arith) in
    let r : get_or b (4 * i + 2 + 1) 0 ≡ get_or b (4 * i + 3) 0 = ap (λ (k : ℕ). get_or b k 0)
    (let e : 4 * i + 2 + 1 ≡ 4 * i + 3 = omega arith in e) in
    omega arith

-- e is d with the first pairs of s
pub record Paired (s : List ℕ) (count : ℕ) (d e : List ℕ) : Type 0 where
  pub is : e ≡ fill (pair_of s) count d
  pub small : 0 < count → Below s

pub paired_none : (s d : List ℕ) → Paired s 0 d d
paired_none s d = record { is = fill_none _ _; small = λ h. absurd (omega arith) }

pub paired_more : (s d : List ℕ) {i v : ℕ} {e : List ℕ} → Paired s i d e → v ≡ pair_of s i → Below s → Paired s (i + 1) d (set e i v)
paired_more s d p q b = record { is = fill_more (pair_of s) d p.is q; small = λ h. b }

pub paired_done : (s d : List ℕ) {i k : ℕ} {e : List ℕ} → i ≤ k → k ≤ i → Paired s i d e → Paired s k d e
paired_done s d {i} {k} {e} p q h = subst (λ (m : ℕ). Paired s m d e) (let r : i ≡ k = omega arith in r) h

-- half j of a list of such numbers
abbrev pub half_of : List ℕ → ℕ → ℕ
half_of w j = get_or w (j / 2) 0 / 65536 ^ (j % 2) % 65536

low_half : (w : List ℕ) (i : ℕ) → get_or w i 0 % 65536 ≡ half_of w (2 * i)
low_half w i =
    let d : 2 * i / 2 ≡ i = omega arith in
    let m : 2 * i % 2 ≡ 0 = omega arith in
    rw (d, m) (ap (λ (x : ℕ). x % 65536) (sym (div-one (get_or w i 0))))

high_half : (w : List ℕ) (i : ℕ) → get_or w i 0 / 65536 % 65536 ≡ half_of w (2 * i + 1)
high_half w i =
    let d : (2 * i + 1) / 2 ≡ i = omega arith in
    let m : (2 * i + 1) % 2 ≡ 1 = omega arith in
    rw (d, m)

-- one number more, taken apart
pub apart_more : (w d : List ℕ) (i : ℕ) {e : List ℕ} {x y : ℕ} → e ≡ fill (half_of w) (2 * i) d → x ≡ get_or w i 0 % 65536 → y
    ≡ get_or w i 0 / 65536 % 65536
    → set (set e (2 * i) x) (2 * i + 1) y ≡ fill (half_of w) (2 * (i + 1)) d
apart_more w d i p q r =
    fill_more (half_of w) d (fill_more (half_of w) d p (q ∙ low_half w i)) (r ∙ high_half w i)
    ∙ ap (λ (k : ℕ). fill (half_of w) k d) (let e : 2 * i + 1 + 1 ≡ 2 * (i + 1) = omega arith in e)

-- what holds of even and of odd numbers, and by the remainder by four
by_two : (P : ℕ → Type 0) → ((q : ℕ) → P (2 * q)) → ((q : ℕ) → P (2 * q + 1)) → (j : ℕ) → P j
by_two P e o j =
    ⊎_elim (λ h. subst P (let q : 2 * (j / 2) + 1 ≡ j = omega arith in q) (o (j / 2)))
    (λ h. subst P (let q : 2 * (j / 2) ≡ j = omega arith in q) (e (j / 2)))
    (let m : j % 2 ≤ 1 = omega arith in eq-or-lt_of_le m)

by_four : (P : ℕ → Type 0) → ((q : ℕ) → P (4 * q)) → ((q : ℕ) → P (4 * q + 1)) → ((q : ℕ) → P (4 * q + 2)) → ((q : ℕ) → P (4 * q + 3))
    → (j : ℕ) → P j
by_four P a b c d =
    by_two P
    (by_two (λ q. P (2 * q)) (λ q. subst P (let e : 4 * q ≡ 2 * (2 * q) = omega arith in e) (a q))
    (λ q. subst P (let e : 4 * q + 2 ≡ 2 * (2 * q + 1) = omega arith in e) (c q)))
    (by_two (λ q. P (2 * q + 1)) (λ q. subst P (let e : 4 * q + 1 ≡ 2 * (2 * q) + 1 = omega arith in e) (b q))
    (λ q. subst P (let e : 4 * q + 3 ≡ 2 * (2 * q + 1) + 1 = omega arith in e) (d q)))

-- the bytes of a number of four, and one number more of them
pub word_more : (f : ℕ → ℕ) (d : List ℕ) (i : ℕ) {e : List ℕ} {v : ℕ} → e ≡ fill (byte_of 4 f) (4 * i) d → v ≡ f i
    → set (set (set (set e (4 * i) (v % 256)) (4 * i + 1) (byte1 v)) (4 * i + 2) (byte2 v)) (4 * i + 3) (byte3 v)
    ≡ fill (byte_of 4 f) (4 * (i + 1)) d
word_more f d i {e} {v} p q =
    next 3 (next 2 (next 1 (fill_more g d p (ap (λ (x : ℕ). x % 256) (q ∙ sym (div-one (f i))) ∙ byte 0 (omega arith)
    ∙ ap g (let w : 4 * i + 0 ≡ 4 * i = omega arith in w))) (ap byte1 q ∙ byte 1 (omega arith)))
    (ap byte2 q ∙ byte 2 (omega arith)))
    (ap byte3 q ∙ byte 3 (omega arith))
    ∙ ap (λ (k : ℕ). fill g k d) (let w : 4 * i + 4 ≡ 4 * (i + 1) = omega arith in w)
  where
    g : ℕ → ℕ
    g = byte_of 4 f

    byte : (k : ℕ) → k < 4 → f i / 256 ^ k % 256 ≡ g (4 * i + k)
    byte k h = byte_at 4 f i k h ∙ ap g (let w : i * 4 + k ≡ 4 * i + k = omega arith in w)

    next : (k : ℕ) {l : List ℕ} {x : ℕ} → l ≡ fill g (4 * i + k) d → x ≡ g (4 * i + k) → set l (4 * i + k) x ≡ fill g (4 * i + (k + 1)) d
    next k a b = fill_more g d a b ∙ ap (λ (m : ℕ). fill g m d) (let w : 4 * i + k + 1 ≡ 4 * i + (k + 1) = omega arith in w)

-- pairs, taken apart, are the samples; and their bytes are the samples' bytes
module _ (s : List ℕ) (count : ℕ) (w₀ : List ℕ) (room : count ≤ length w₀) {w : List ℕ} (p : Paired s count w₀ w) where
  pair-at : (i : ℕ) → i < count → get_or w i 0 ≡ pair_of s i
  pair-at i h = ap (λ (l : List ℕ). get_or l i 0) p.is ∙ fill_at (pair_of s) count w₀ i 0 h (omega arith)

  pub apart_is : (d : List ℕ) → fill (half_of w) (2 * count) d ≡ fill (λ (i : ℕ). get_or s i 0) (2 * count) d
  apart_is d = fill_same _ _ (2 * count) d (by_two (λ j. j < 2 * count → half_of w j ≡ get_or s j 0) low high) where
    low : (q : ℕ) → 2 * q < 2 * count → half_of w (2 * q) ≡ get_or s (2 * q) 0
    low q h =
        let e = pair-at q (omega arith) in
        let b = p.small (omega arith) (2 * q) in
        sym (low_half w q) ∙ (let r : get_or w q 0 % 65536 ≡ get_or s (2 * q) 0 = omega arith in r)

    high : (q : ℕ) → 2 * q + 1 < 2 * count → half_of w (2 * q + 1) ≡ get_or s (2 * q + 1) 0
    high q h =
        let e = pair-at q (omega arith) in
        let b = p.small (omega arith) (2 * q) in
        let t = p.small (omega arith) (2 * q + 1) in
        sym (high_half w q) ∙ (let r : get_or w q 0 / 65536 % 65536 ≡ get_or s (2 * q + 1) 0 = omega arith in r)

  abbrev word_byte : ℕ → ℕ
  word_byte = byte_of 4 (λ i. get_or w i 0)

  abbrev sample_byte : ℕ → ℕ
  sample_byte = byte_of 2 (λ i. get_or s i 0)

  pub spread_is : (d : List ℕ) → fill (byte_of 4 (λ i. get_or w i 0)) (4 * count) d ≡ fill (byte_of 2 (λ i. get_or s i 0)) (4 * count) d
  spread_is d = fill_same _ _ (4 * count) d (by_four (λ j. j < 4 * count → word_byte j ≡ sample_byte j) first second third fourth) where
    word : (q k : ℕ) → k < 4 → word_byte (4 * q + k) ≡ get_or w q 0 / 256 ^ k % 256
    word q k h = sym (byte_at 4 (λ i. get_or w i 0) q k h ∙ ap word_byte (let e : q * 4 + k ≡ 4 * q + k = omega arith in e))

    half : (i k j : ℕ) → k < 2 → i * 2 + k ≡ j → get_or s i 0 / 256 ^ k % 256 ≡ sample_byte j
    half i k j h e = byte_at 2 (λ n. get_or s n 0) i k h ∙ ap sample_byte e

    first : (q : ℕ) → 4 * q < 4 * count → word_byte (4 * q) ≡ sample_byte (4 * q)
    first q h =
        let e = pair-at q (omega arith) in
        ap word_byte (let r : 4 * q ≡ 4 * q + 0 = omega arith in r) ∙ word q 0 (omega arith)
        ∙ (let r : get_or w q 0 / 1 % 256 ≡ get_or s (2 * q) 0 / 1 % 256 = omega arith in r)
        ∙ half (2 * q) 0 (4 * q) (omega arith) (omega arith)

    second : (q : ℕ) → 4 * q + 1 < 4 * count → word_byte (4 * q + 1) ≡ sample_byte (4 * q + 1)
    second q h =
        let e = pair-at q (omega arith) in
        word q 1 (omega arith) ∙ (let r : get_or w q 0 / 256 % 256 ≡ get_or s (2 * q) 0 / 256 % 256 = omega arith in r)
        ∙ half (2 * q) 1 (4 * q + 1) (omega arith) (omega arith)

    third : (q : ℕ) → 4 * q + 2 < 4 * count → word_byte (4 * q + 2) ≡ sample_byte (4 * q + 2)
    third q h =
        let e = pair-at q (omega arith) in
        let b = p.small (omega arith) (2 * q) in
        word q 2 (omega arith) ∙ (let r : get_or w q 0 / 65536 % 256 ≡ get_or s (2 * q + 1) 0 / 1 % 256 = omega arith in r)
        ∙ half (2 * q + 1) 0 (4 * q + 2) (omega arith) (omega arith)

    fourth : (q : ℕ) → 4 * q + 3 < 4 * count → word_byte (4 * q + 3) ≡ sample_byte (4 * q + 3)
    fourth q h =
        let e = pair-at q (omega arith) in
        let b = p.small (omega arith) (2 * q) in
        word q 3 (omega arith) ∙ (let r : get_or w q 0 / 16777216 % 256 ≡ get_or s (2 * q + 1) 0 / 256 % 256 = omega arith in r)
        ∙ half (2 * q + 1) 1 (4 * q + 3) (omega arith) (omega arith)
