-- One text laid after the other, and how long a number's text is. Rests on the kit's laws of lists.
use Rattle.std.specs.Prelude.{◌≡◌, Bool, true, false, cond, List, [], ◌∷◌, ◌++◌, ℕ, zero, suc, ◌+◌, ◌*◌, ◌/◌, ◌%◌, ◌^◌, ◌≤◌, ◌<◌, ltb, length, get_or, set, take, drop}
use Rattle.std.proofs.Common.{sym, ap, ap₂, ◌∙◌, append_assoc, add-one, arith, length-append, take_at, drop-drop, length-take-le}
use Rattle.std.proofs.Math.Nat.{pow-succ'}
use Rattle.std.proofs.Math.Seq.{drop-append-add, take-length, paste, paste-suc}
use Rattle.report.specs.text.Text.{spell, laid}

-- a text s lies over d from `at` on, which makes e of it; it ends at `upto` and has at most `room` bytes
pub record Laid (at : ℕ) (s d e : List ℕ) (upto room : ℕ) : Type 0 where
  pub over : e ≡ laid at s d
  pub ends : upto ≡ at + length s
  pub short : length s ≤ room

laid_more : (at : ℕ) (s t d : List ℕ) → at + length s ≤ length d → laid (at + length s) t (laid at s d) ≡ laid at (s ++ t) d
unfolding laid
laid_more at s t d h =
    let front : length (take at d ++ s) ≡ at + length s = length-append (take at d) s
    ∙ ap (λ (k : ℕ). k + length s) (length-take-le at d (omega arith)) in
    let n = at + length s in
    let a : take n (take at d ++ s ++ drop n d) ≡ take at d ++ s = take_at (take at d ++ s) (drop n d) n front in
    let b : drop (n + length t) (take at d ++ s ++ drop n d) ≡ drop (n + length t) d =
    ap (λ (k : ℕ). drop (k + length t) (take at d ++ s ++ drop n d)) (sym front) ∙ drop-append-add (take at d ++ s) (drop n d) (length t)
    ∙ drop-drop (length t) n d in
    let c : n + length t ≡ at + length (s ++ t) = omega (arith, length-append s t) in
    ap₂ (λ (x y : List ℕ). x ++ t ++ y) a b ∙ ap (λ (k : ℕ). take at d ++ s ++ t ++ drop k d) c
    ∙ ap (λ (x : List ℕ). x ++ drop (at + length (s ++ t)) d) (append_assoc (take at d) s t)

-- one text after the other
pub then : {at p q m n : ℕ} {s t d e f : List ℕ} → Laid at s d e p m → Laid p t e f q n → at + m ≤ length d → Laid at (s ++ t) d f q (m + n)
then {at} {p} {q} {m} {n} {s} {t} {d} {e} {f} x y h =
    record {
      over = y.over ∙ ap₂ (λ (k : ℕ) (u : List ℕ). laid k t u) x.ends x.over ∙ laid_more at s t d (omega (arith, x.short));
      ends = omega (arith, x.ends, y.ends, length-append s t);
      short = omega (arith, x.short, y.short, length-append s t);
    }

-- the same text, said otherwise, with more room
pub said : {at p m : ℕ} {s d e : List ℕ} (t : List ℕ) (n : ℕ) → Laid at s d e p m → s ≡ t → m ≤ n → Laid at t d e p n
said {at} {p} {m} {s} {d} {e} t n x q h =
    record {
      over = x.over ∙ ap (λ (u : List ℕ). laid at u d) q;
      ends = x.ends ∙ ap (λ (u : List ℕ). at + length u) q;
      short = omega (arith, x.short, ap length q);
    }

-- the power of ten that has one digit more
pub ten : (k : ℕ) → 10 ^ suc k ≡ 10 * 10 ^ k
ten k = pow-succ' 10 k

pub ten_pos : (k : ℕ) → 0 < 10 ^ k
ten_pos zero = omega arith
ten_pos (suc k) = omega (arith, ten k, ten_pos k)

-- so many digits at most
spell_short : (f n : ℕ) → length (spell f n) ≤ f + 1
unfolding spell
spell_short zero n = omega arith
spell_short (suc f) n = go (ltb n 10) (spell_short f (n / 10))
  where
    go : (t : Bool) → length (spell f (n / 10)) ≤ f + 1
        → length (cond t ((48 + n) ∷ []) (spell f (n / 10) ++ (48 + n % 10) ∷ [])) ≤ suc f + 1
    go true h = omega arith
    go false h = omega (arith, length-append (spell f (n / 10)) ((48 + n % 10) ∷ []))

pub number_short : (n : ℕ) (s : List ℕ) → s ≡ spell 19 n → length s ≤ 20
number_short n s q = omega (arith, ap length q, spell_short 19 n)

-- a whole copy
pub pasted : (at : ℕ) (s d e : List ℕ) (i : ℕ) → i ≤ length s → length s ≤ i → e ≡ paste d at s i → Laid at s d e (at + i) (length s)
unfolding laid
pasted at s d e i h k p =
    let q : i ≡ length s = omega arith in
    record {
      over = p ∙ ap (λ (m : ℕ). paste d at s m) q ∙ ap (λ (t : List ℕ). take at d ++ t ++ drop (at + length s) d) (take-length s);
      ends = omega arith;
      short = omega arith;
    }

-- a copy of one byte more
pub paste_more : (at : ℕ) (s d e : List ℕ) (i : ℕ) → at + length s ≤ length d → i < length s → e ≡ paste d at s i
    → set e (at + i) (get_or s i 0) ≡ paste d at s (i + 1)
paste_more at s d e i h l p =
    ap (λ (x : List ℕ). set x (at + i) (get_or s i 0)) p ∙ paste-suc d at s i 0 (omega arith) l ∙ ap (paste d at s) (sym (add-one i))
