-- Numbers and figures read from bytes and stored in them, a byte and a number at a time. Assumes nothing.
use Rattle.std.specs.Prelude.{◌≡◌, List, ℕ, zero, suc, ◌+◌, ◌-◌, ◌*◌, ◌/◌, ◌%◌, ◌^◌, ◌≤◌, ◌<◌, length, get_or, set, Bool, true, false, ◌&&◌, leb}
use Rattle.std.proofs.Math.Path.{refl, sym, ap, ap₂}
use Rattle.std.proofs.Common.{◌∙◌, pow-suc, div-one, add-zero, add-suc, add_assoc, arith, le-leb}
use Rattle.std.proofs.Math.Nat.{pow-le-pow_right, div-div-eq-div-mul}
use Rattle.laws.specs.Fill.{run}
use Rattle.laws.specs.FillLaws.{length_run}
use Rattle.laws.specs.Bytes.{le_at, byte_of, byte_at}
use Rattle.std.proofs.lemmas.Bool.{lt-leb}
use Rattle.laws.specs.Choose.{if_yes, if_no, worked, unserved}
use Rattle.errors.specs.declared.Report.{Report}
use Rattle.errors.specs.Answers.{Counted, Joined}
use Rattle.errors.specs.Errors.{count_bytes, join_reports}
use Rattle.errors.specs.RecordBytes.{report_at, figures_into, report_into, word_at_into, entered, count_entry, join_entry}

-- a number from its highest byte on: none read, one more, all
pub number_none : (b : List ℕ) (at w : ℕ) → (0 ≡ le_at (w - w) b (at + w)) × (0 < 256 ^ (w - w))
unfolding le_at
number_none b at w = let e : w - w ≡ 0 = omega arith in rw e (refl, omega arith)

pub number_more : (b : List ℕ) (at w i : ℕ) {v x : ℕ} → 0 < i → i ≤ w → v ≡ le_at (w - i) b (at + i) → x ≡ get_or b (at + (i - 1)) 0
    → x + 256 * v ≡ le_at (w - (i - 1)) b (at + (i - 1))
unfolding le_at
number_more b at w i {v} {x} pos l e q =
    let n : w - (i - 1) ≡ suc (w - i) = omega arith in
    let p : at + (i - 1) + 1 ≡ at + i = omega arith in
    rw n (ap₂ (λ (y z : ℕ). y + 256 * z) q (e ∙ ap (le_at (w - i) b) (sym p)))

pub number_small : (w i : ℕ) {v x : ℕ} → 0 < i → i ≤ w → v < 256 ^ (w - i) → x < 256 → x + 256 * v < 256 ^ (w - (i - 1))
number_small w i {v} {x} pos l h k =
    let n : w - (i - 1) ≡ suc (w - i) = omega arith in
    omega (arith, ap (λ (m : ℕ). 256 ^ m) n, pow-suc 256 (w - i))

pub number_fits : (w i : ℕ) {v : ℕ} → 0 < i → i ≤ w → w ≤ 8 → v < 256 ^ (w - i) → v < 72057594037927936
number_fits w i pos l most h =
    let few : w - i ≤ 7 = omega arith in
    let m : 256 ^ (w - i) ≤ 256 ^ 7 = pow-le-pow_right (omega arith) few in
    omega (arith, m, h)

pub number_whole : (b : List ℕ) (at w i : ℕ) {v : ℕ} → i ≡ 0 → (v ≡ le_at (w - i) b (at + i)) × (v < 256 ^ (w - i))
    → (v ≡ le_at w b at) × (v < 256 ^ w)
number_whole b at w i {v} e p =
    let n : w - i ≡ w = omega arith in
    let m : at + i ≡ at = omega arith in
    (p.0 ∙ ap₂ (λ (k j : ℕ). le_at k b j) n m, omega (arith, p.1, ap (λ (k : ℕ). 256 ^ k) n))

-- a number byte by byte
pub rest_none : (v : ℕ) → v ≡ v / 256 ^ 0
rest_none v = sym (div-one v)

pub rest_more : (v j : ℕ) {rest : ℕ} → rest ≡ v / 256 ^ j → rest / 256 ≡ v / 256 ^ (j + 1)
rest_more v j e =
    let n : j + 1 ≡ suc j = omega arith in
    ap (λ (r : ℕ). r / 256) e ∙ div-div-eq-div-mul v (256 ^ j) 256
    ∙ ap (λ (k : ℕ). v / k) (sym (pow-suc 256 j) ∙ ap (λ (m : ℕ). 256 ^ m) (sym n))

-- a run that goes on where another ended
run_on : (g h : ℕ → ℕ) (a k n : ℕ) (d : List ℕ) → ((j : ℕ) → j < n → h j ≡ g (k + j)) → run h (a + k) n (run g a k d) ≡ run g a (k + n) d
unfolding run
run_on g h a k zero d e = ap (λ (m : ℕ). run g a m d) (sym (add-zero k))
run_on g h a k (suc n) d e =
    ap₂ (λ (l : List ℕ) (v : ℕ). set l (a + k + n) v) (run_on g h a k n d (λ j l. e j (omega arith))) (e n (omega arith))
    ∙ ap (λ (i : ℕ). set (run g a (k + n) d) i (g (k + n))) (add_assoc a k n) ∙ ap (λ (m : ℕ). run g a m d) (sym (add-suc k n))

-- figures one after the other
pub figures_more : (f : ℕ → ℕ) (at m : ℕ) (d : List ℕ) {e e' : List ℕ} {x : ℕ} → e ≡ run (byte_of 8 f) at (m * 8) d
    → e' ≡ run (λ j. x / 256 ^ j % 256) (at + m * 8) 8 e → x ≡ f m → e' ≡ run (byte_of 8 f) at ((m + 1) * 8) d
figures_more f at m d {e} {e'} {x} p q is =
    q ∙ ap₂ (λ (y : ℕ) (l : List ℕ). run (λ j. y / 256 ^ j % 256) (at + m * 8) 8 l) is p
    ∙ run_on (byte_of 8 f) (λ j. f m / 256 ^ j % 256) at (m * 8) 8 d (λ j l. byte_at 8 f m j l)
    ∙ ap (λ (n : ℕ). run (byte_of 8 f) at n d) (let z : m * 8 + 8 ≡ (m + 1) * 8 = omega arith in z)

-- as long as before
pub length_word : (at v : ℕ) (b : List ℕ) → length (word_at_into at v b) ≡ length b
length_word at v b = length_run (λ j. v / 256 ^ j % 256) at 4 b

pub length_figures : (at : ℕ) (l b : List ℕ) → length (figures_into at l b) ≡ length b
length_figures at l b = length_run (byte_of 8 (λ m. get_or l m 0)) at 280 b

-- the ways of the two entries
module _ (a b plan d : List ℕ) where
  pub count_short : length d < 864 → entered 5 d ≡ count_entry a b plan d
  unfolding count_entry
  count_short h = if_no (leb 864 (length d)) _ (entered 5 d) (entered 5 d) (lt-leb 864 (length d) h) refl

  module _ (long : 864 ≤ length d) {v : Counted} (e : v ≡ count_bytes (report_at d) a b plan) {d1 : List ℕ}
      (q : d1 ≡ word_at_into 20 v.block d) where
    noted : d1 ≡ word_at_into 20 (count_bytes (report_at d) a b plan).block d
    noted = q ∙ ap (λ (u : Counted). word_at_into 20 u.block d) e

    pub count_refused : (v.no ≡ 0 → ⊥) → entered v.no d1 ≡ count_entry a b plan d
    unfolding count_entry
    count_refused h =
        if_yes (leb 864 (length d)) _ (entered 5 d) (entered v.no d1) (le-leb 864 (length d) long)
        (ap₂ entered (ap (λ (u : Counted). u.no) e)
        (noted ∙ unserved (count_bytes (report_at d) a b plan).no _ _ (λ z. h (ap (λ (u : Counted). u.no) e ∙ z))))

    pub count_served : v.no ≡ 0 → {d2 : List ℕ} → d2 ≡ report_into v.next d1 → entered 0 d2 ≡ count_entry a b plan d
    unfolding count_entry
    count_served z {d2} p =
        let n = sym (ap (λ (u : Counted). u.no) e) ∙ z in
        if_yes (leb 864 (length d)) _ (entered 5 d) (entered 0 d2) (le-leb 864 (length d) long)
        (ap₂ entered (sym n)
        (p ∙ ap₂ report_into (ap (λ (u : Counted). u.next) e) noted ∙ worked (count_bytes (report_at d) a b plan).no _ _ n))

module _ (other d : List ℕ) where
  abbrev rooms : Bool
  rooms = leb 864 (length d) && leb 864 (length other)

  pub join_short : rooms ≡ false → entered 5 d ≡ join_entry other d
  unfolding join_entry
  join_short h = if_no rooms _ (entered 5 d) (entered 5 d) h refl

  module _ (long : rooms ≡ true) {v : Joined} (e : v ≡ join_reports (report_at d) (report_at other)) where
    pub join_refused : (v.no ≡ 0 → ⊥) → entered v.no d ≡ join_entry other d
    unfolding join_entry
    join_refused h =
        if_yes rooms _ (entered 5 d) (entered v.no d) long
        (ap₂ entered (ap (λ (u : Joined). u.no) e)
        (unserved (join_reports (report_at d) (report_at other)).no _ d (λ z. h (ap (λ (u : Joined). u.no) e ∙ z))))

    pub join_served : v.no ≡ 0 → {d2 : List ℕ} → d2 ≡ report_into v.next d → entered 0 d2 ≡ join_entry other d
    unfolding join_entry
    join_served z {d2} p =
        let n = sym (ap (λ (u : Joined). u.no) e) ∙ z in
        if_yes rooms _ (entered 5 d) (entered 0 d2) long
        (ap₂ entered (sym n)
        (p ∙ ap (λ (x : Report). report_into x d) (ap (λ (u : Joined). u.next) e)
        ∙ worked (join_reports (report_at d) (report_at other)).no _ d n))
