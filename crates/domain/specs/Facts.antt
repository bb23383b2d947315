-- What a test of the domain that holds says of the numbers, and how a fact is shown at each of them. Assumes nothing.
use Rattle.std.specs.Prelude.{◌≡◌, true, ◌&&◌, ◌||◌, ◌⊎◌, ℕ, ◌%◌, ◌≤◌, leb, eqb}
use Rattle.std.proofs.Common.{sym, subst, inl, inr, ⊎_elim, arith, leb-true, eqb-true}
use Rattle.laws.specs.Choose.{both_true, either_true}
use Rattle.domain.specs.Domain.{depth_ok, size_ok, side_ok, ctu_ok, unit_ok}

abbrev pub Depth : ℕ → Type 0
Depth bits = (bits ≡ 8) ⊎ ((bits ≡ 10) ⊎ (bits ≡ 12))

abbrev pub Size : ℕ → Type 0
Size n = (n ≡ 4) ⊎ ((n ≡ 8) ⊎ ((n ≡ 16) ⊎ (n ≡ 32)))

abbrev pub Ctu : ℕ → Type 0
Ctu ctu = (ctu ≡ 16) ⊎ ((ctu ≡ 32) ⊎ (ctu ≡ 64))

abbrev pub Unit : ℕ → Type 0
Unit unit = (unit ≡ 4) ⊎ (unit ≡ 8)

pub record Side (s : ℕ) : Type 0 where
  pub low : 8 ≤ s
  pub high : s ≤ 4096
  pub whole : s % 8 ≡ 0

-- where n is none of the first three sizes
pub last_size : (n : ℕ) → Size n → (n ≡ 4 → ⊥) → (n ≡ 8 → ⊥) → (n ≡ 16 → ⊥) → n ≡ 32
last_size n s a b c = ⊎_elim (λ e. absurd (a e)) (λ r. ⊎_elim (λ e. absurd (b e)) (λ q. ⊎_elim (λ e. absurd (c e)) (λ e. e) q) r) s

-- a test of three or four numbers
two : (v a b : ℕ) → (eqb v a || eqb v b) ≡ true → (v ≡ a) ⊎ (v ≡ b)
two v a b e = ⊎_elim (λ h. inl (eqb-true v a h)) (λ h. inr (eqb-true v b h)) (either_true (eqb v a) (eqb v b) e)

three : (v a b c : ℕ) → (eqb v a || eqb v b || eqb v c) ≡ true → (v ≡ a) ⊎ ((v ≡ b) ⊎ (v ≡ c))
three v a b c e =
    ⊎_elim (λ h. ⊎_elim inl (λ g. inr (inl g)) (two v a b h)) (λ h. inr (inr (eqb-true v c h)))
    (either_true (eqb v a || eqb v b) (eqb v c) e)

pub depth_of : (bits : ℕ) → depth_ok bits ≡ true → Depth bits
depth_of bits e = three bits 8 10 12 e

pub ctu_of : (ctu : ℕ) → ctu_ok ctu ≡ true → Ctu ctu
ctu_of ctu e = three ctu 16 32 64 e

pub unit_of : (unit : ℕ) → unit_ok unit ≡ true → Unit unit
unit_of unit e = two unit 4 8 e

pub size_of : (n : ℕ) → size_ok n ≡ true → Size n
size_of n e =
    ⊎_elim
    (λ h. ⊎_elim inl (λ g. inr (⊎_elim inl (λ f. inr (inl f)) g)) (three n 4 8 16 h))
    (λ h. inr (inr (inr (eqb-true n 32 h))))
    (either_true (eqb n 4 || eqb n 8 || eqb n 16) (eqb n 32) e)

pub side-of : (s : ℕ) → side_ok s ≡ true → Side s
side-of s e =
    let p = both_true (leb 8 s && leb s 4096) (eqb (s % 8) 0) e in
    let q = both_true (leb 8 s) (leb s 4096) p.0 in
    record { low = leb-true 8 s q.0; high = leb-true s 4096 q.1; whole = eqb-true (s % 8) 0 p.1 }

-- what holds at each number of a kind holds of any of them
pub at_size : (P : ℕ → Type 0) → P 4 → P 8 → P 16 → P 32 → (n : ℕ) → Size n → P n
at_size P a b c d n s =
    ⊎_elim (λ e. subst P (sym e) a) (λ r. ⊎_elim (λ e. subst P (sym e) b)
    (λ q. ⊎_elim (λ e. subst P (sym e) c) (λ e. subst P (sym e) d) q) r) s

pub at_depth : (P : ℕ → Type 0) → P 8 → P 10 → P 12 → (bits : ℕ) → Depth bits → P bits
at_depth P a b c bits s = ⊎_elim (λ e. subst P (sym e) a) (λ r. ⊎_elim (λ e. subst P (sym e) b) (λ e. subst P (sym e) c) r) s

pub size_small : (n : ℕ) → Size n → (4 ≤ n) × (n ≤ 32)
size_small n s = at_size (λ (m : ℕ). (4 ≤ m) × (m ≤ 32)) (omega arith) (omega arith) (omega arith) (omega arith) n s
