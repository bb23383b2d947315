-- Samples stored as bytes: one more, some after others, and rows. Assumes nothing.
use Rattle.std.specs.Prelude.{◌≡◌, List, ℕ, zero, suc, ◌+◌, ◌*◌, ◌/◌, ◌%◌, ◌^◌, ◌<◌, length}
use Rattle.std.proofs.Math.Path.{refl, ap}
use Rattle.std.proofs.Common.{sym, ap₂, ◌∙◌, div-one, add-zero, add-suc, add_assoc, arith, get_or-append-add}
use Rattle.std.proofs.Math.ListN.{get_or, set, get_or-append}
use Rattle.laws.specs.Fill.{run}
use Rattle.laws.specs.FillLaws.{run_none, run_more, run_same}
use Rattle.laws.specs.Bytes.{byte_of, byte_at}
use Rattle.octets.specs.Bytes.{byte1}
use Rattle.octets.specs.Laws.{length_samples}
use Rattle.domain.specs.declared.rows.Rows.{Rows}
use Rattle.camera.specs.gather.Line.{sample_byte, in_line, rows_at}

-- the two bytes of sample i
low_byte : (f : ℕ → ℕ) (i : ℕ) → f i % 256 ≡ byte_of 2 f (2 * i)
low_byte f i = ap (λ (x : ℕ). x % 256) (sym (div-one (f i))) ∙ byte_at 2 f i 0 (omega arith)
    ∙ ap (byte_of 2 f) (let q : i * 2 + 0 ≡ 2 * i = omega arith in q)

high_byte : (f : ℕ → ℕ) (i : ℕ) → byte1 (f i) ≡ byte_of 2 f (2 * i + 1)
high_byte f i = byte_at 2 f i 1 (omega arith) ∙ ap (byte_of 2 f) (let q : i * 2 + 1 ≡ 2 * i + 1 = omega arith in q)

-- one sample more: its two bytes
pub sample_more : (f : ℕ → ℕ) (at i : ℕ) (d : List ℕ) {e : List ℕ} {v : ℕ} → e ≡ run (byte_of 2 f) (2 * at) (2 * i) d → v ≡ f i
    → set (set e (2 * (at + i)) (v % 256)) (2 * (at + i) + 1) (byte1 v) ≡ run (byte_of 2 f) (2 * at) (2 * (i + 1)) d
sample_more f at i d {e} {v} p q =
    ap₂ (λ (j k : ℕ). set (set e j (v % 256)) k (byte1 v)) (let w : 2 * (at + i) ≡ 2 * at + 2 * i = omega arith in w)
    (let w : 2 * (at + i) + 1 ≡ 2 * at + (2 * i + 1) = omega arith in w)
    ∙ run_more (byte_of 2 f) (2 * at) d (run_more (byte_of 2 f) (2 * at) d p (ap (λ (x : ℕ). x % 256) q ∙ low_byte f i))
    (ap byte1 q ∙ high_byte f i)
    ∙ ap (λ (k : ℕ). run (byte_of 2 f) (2 * at) k d) (let w : 2 * i + 1 + 1 ≡ 2 * (i + 1) = omega arith in w)

-- a run that carries on where another ends
run_run : (f g : ℕ → ℕ) (a k m : ℕ) (d : List ℕ) → ((j : ℕ) → j < m → g j ≡ f (k + j)) → run g (a + k) m (run f a k d) ≡ run f a (k + m) d
unfolding run
run_run f g a k zero d h = rw add-zero
run_run f g a k (suc m) d h = rw (add-suc, run_run f g a k m d (λ j l. h j (omega arith)), h m (omega arith), add_assoc)

-- what a loop that stores samples rests on: its start, its turns, and how many samples a plane's bytes spell
pub ruleset storing = (run_none, sample_more, length_samples)

-- samples that are the same, whatever tells them
pub samples_same : (f g : ℕ → ℕ) (at count : ℕ) (d : List ℕ) → ((i : ℕ) → i < count → f i ≡ g i)
    → run (byte_of 2 f) (2 * at) (2 * count) d ≡ run (byte_of 2 g) (2 * at) (2 * count) d
samples_same f g at count d h =
    run_same (byte_of 2 f) (byte_of 2 g) (2 * at) (2 * count) d (λ j l. ap (λ (v : ℕ). v / 256 ^ (j % 2) % 256) (h (j / 2) (omega arith)))

-- more samples after k of them
pub samples_more : (f g : ℕ → ℕ) (at k count : ℕ) (d : List ℕ) → ((i : ℕ) → i < count → g i ≡ f (k + i))
    → run (byte_of 2 g) (2 * (at + k)) (2 * count) (run (byte_of 2 f) (2 * at) (2 * k) d) ≡ run (byte_of 2 f) (2 * at) (2 * (k + count)) d
samples_more f g at k count d h =
    ap (λ (x : ℕ). run (byte_of 2 g) x (2 * count) (run (byte_of 2 f) (2 * at) (2 * k) d))
    (let q : 2 * (at + k) ≡ 2 * at + 2 * k = omega arith in q)
    ∙ run_run (byte_of 2 f) (byte_of 2 g) (2 * at) (2 * k) (2 * count) d
    (λ j l.
    ap₂ (λ (x y : ℕ). x / 256 ^ y % 256) (h (j / 2) (omega arith) ∙ ap f (let q : k + j / 2 ≡ (2 * k + j) / 2 = omega arith in q))
    (let q : j % 2 ≡ (2 * k + j) % 2 = omega arith in q))
    ∙ ap (λ (x : ℕ). run (byte_of 2 f) (2 * at) x d) (let q : 2 * k + 2 * count ≡ 2 * (k + count) = omega arith in q)

-- the corner, the row above, the left column
module _ (r : Rows) (at : ℕ) (d : List ℕ) (long : length r.above ≡ 65) where
  abbrev line : ℕ → ℕ
  line i = get_or (in_line r) i 0

  above_on : (i : ℕ) → i < 65 → get_or r.above i 0 ≡ line (1 + i)
  above_on i h = sym (get_or-append r.above r.left 0 i (omega arith)) ∙ ap line (let q : suc i ≡ 1 + i = omega arith in q)

  left-on : (i : ℕ) → get_or r.left i 0 ≡ line (66 + i)
  left-on i = sym (get_or-append-add r.above r.left i 0) ∙ ap line (let q : suc (length r.above + i) ≡ 66 + i = omega arith in q)

  pub rows_stored : {x y z : List ℕ} → x ≡ set (set d (2 * at) (r.corner % 256)) (2 * at + 1) (byte1 r.corner)
      → y ≡ run (sample_byte r.above) (2 * (at + 1)) (2 * 65) x → z ≡ run (sample_byte r.left) (2 * (at + 66)) (2 * 65) y → z
      ≡ rows_at (2 * at) r d
  unfolding rows_at
  rows_stored p q w =
      let one = p ∙ ap (λ (k : ℕ). set (set d (2 * k) (r.corner % 256)) (2 * k + 1) (byte1 r.corner)) (sym (add-zero at))
      ∙ sample_more line at 0 d (run_none (byte_of 2 line) (2 * at) d) refl in
      let two = q ∙ ap (run (sample_byte r.above) (2 * (at + 1)) (2 * 65)) one
      ∙ samples_more line (λ (i : ℕ). get_or r.above i 0) at 1 65 d above_on in
      w ∙ ap (run (sample_byte r.left) (2 * (at + 66)) (2 * 65)) two
      ∙ samples_more line (λ (i : ℕ). get_or r.left i 0) at 66 65 d (λ i h. left-on i)
