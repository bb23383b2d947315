-- The laws of the line: its first place that is there, what each place has in the end, and both where what is there is known by
-- counts along each edge. Assumes nothing.
use Rattle.std.specs.Prelude.{◌≡◌, Bool, true, false, ◌||◌, List, ◌⊎◌, get_or}
use Rattle.std.proofs.Math.Path.{refl, ap, ap₂}
use Rattle.std.proofs.Common.{sym, ◌∙◌, true≢false, inl, inr, add-zero, add-one}
use Rattle.std.proofs.Math.Bool.{cond}
use Rattle.std.proofs.Math.Logic.{⊎_elim}
use Prim.Native.Nat.{ℕ, zero, suc, ◌+◌, ◌-◌, ◌*◌, ◌≤◌, ◌<◌}
use native.Mathlib.Omega.{arith}
use Rattle.std.proofs.Math.Dec.{ltb}
use borrow.Author.Tests.{lt-ltb, le-ltb, ltb-true, ltb-false, le-leb, lt-leb, eq-eqb, ne_eqb}
use Rattle.laws.specs.Diff.{order}
use Rattle.h265.specs.Substitution.{first_marked, settled}
use Rattle.domain.specs.declared.rows.Rows.{Rows}
use Rattle.refs.specs.declared.substitution.Flags.{Flags}
use Rattle.domain.specs.rows.Neighbours.{level_rows}
use Rattle.refs.specs.substitution.Substitution.{marked_on_line, flags_on, samples_on, from_line, substituted}

-- the line of two lists and a corner
abbrev pub line_of : {A : Type 0} → A → List A → A → List A → ℕ → ℕ → A
line_of d left corner above e = marked_on_line (λ i. get_or left i d) corner (λ i. get_or above i d) e

-- what stands on it
module _ {A : Type 0} (left above : ℕ → A) (corner : A) (e : ℕ) where
  pub on_left : (k : ℕ) → k ≤ e → marked_on_line left corner above e k ≡ left (e - k)
  unfolding marked_on_line
  on_left k h = simp (le-leb k e h)

  pub on_corner : marked_on_line left corner above e (e + 1) ≡ corner
  unfolding marked_on_line
  on_corner = simp (lt-leb (e + 1) e (omega arith), eq-eqb (e + 1) (e + 1) refl)

  pub on_above : (i : ℕ) → marked_on_line left corner above e (e + 2 + i) ≡ above i
  unfolding marked_on_line
  on_above i =
      simp (lt-leb (e + 2 + i) e (omega arith), ne_eqb (e + 2 + i) (e + 1) (λ q. let p : e + 2 + i ≡ e + 1 = q in omega arith))
      (ap above (omega arith))

-- the first place that is there
pub first_at : (marked : ℕ → Bool) (k m f : ℕ) → k ≤ f → f < k + m → ((j : ℕ) → k ≤ j → j < f → marked j ≡ false) → marked f ≡ true
    → first_marked marked k m ≡ f
unfolding first_marked
first_at marked k zero f low high before here = absurd (omega arith)
first_at marked k (suc m) f low high before here =
    ⊎_elim
    (λ h. simp (before k (omega arith) h) (first_at marked (suc k) m f h (omega arith) (λ j a b. before j (omega arith) b) here))
    (λ h. let e : k ≡ f = omega arith in simp (ap marked e ∙ here) e)
    (order k f)

pub first_none : (marked : ℕ → Bool) (k m : ℕ) → ((j : ℕ) → k ≤ j → j < k + m → marked j ≡ false) → first_marked marked k m ≡ k + m
unfolding first_marked
first_none marked k zero none = sym (add-zero k)
first_none marked k (suc m) none =
    simp (none k (omega arith) (omega arith)) (first_none marked (suc k) m (λ j a b. none j (omega arith) (omega arith)) ∙ (omega arith))

-- the search, a place at a time, with t places in all
pub first_here : (marked : ℕ → Bool) (p t : ℕ) → p < t → marked p ≡ true → first_marked marked p (t - p) ≡ p
first_here marked p t h here = first_at marked p (t - p) p (omega arith) (omega arith) (λ j a b. absurd (omega arith)) here

pub first_skip : (marked : ℕ → Bool) (p t : ℕ) → p < t → marked p ≡ false → first_marked marked p (t - p)
    ≡ first_marked marked (p + 1) (t - (p + 1))
unfolding first_marked
first_skip marked p t h gone =
    let u : t - p ≡ suc (t - (p + 1)) = omega arith in
    rw u (simp gone (ap (λ (k : ℕ). first_marked marked k (t - (p + 1))) (sym (add-one p))))

pub first_end : (marked : ℕ → Bool) (p t : ℕ) → t ≤ p → first_marked marked p (t - p) ≡ p
first_end marked p t h = first_none marked p (t - p) (λ j a b. absurd (omega arith)) ∙ (omega arith)

-- what is carried past k places: a place that is there hands on its own sample, a missing one what is carried to it
unfoldable pub carried_to : (ℕ → Bool) → (ℕ → ℕ) → ℕ → ℕ → ℕ
carried_to marked value start zero = start
carried_to marked value start (suc k) = cond (marked k) (value k) (carried_to marked value start k)

module _ (marked : ℕ → Bool) (value : ℕ → ℕ) (start : ℕ) where
  pub carried_start : start ≡ carried_to marked value start 0
  unfolding carried_to
  carried_start = refl

  pub carried_next : (p : ℕ) {carried next : ℕ} → carried ≡ carried_to marked value start p → next ≡ cond (marked p) (value p) carried
      → next ≡ carried_to marked value start (p + 1)
  unfolding carried_to
  carried_next p c e = e ∙ ap (cond (marked p) (value p)) c ∙ rw (add-one p)

  pub carried_done : {p k carried : ℕ} → p ≤ k → k ≤ p → carried ≡ carried_to marked value start p → carried
      ≡ carried_to marked value start k
  carried_done {p} {k} a b c = let q : p ≡ k = omega arith in c ∙ ap (carried_to marked value start) q

-- a place has in the end what is carried past it, from the sample of the place that was found
pub settled_is : (marked : ℕ → Bool) (value : ℕ → ℕ) (found k : ℕ) → carried_to marked value (value found) (k + 1)
    ≡ settled marked value found k
unfolding carried_to settled
settled_is marked value found zero = own (marked 0)
  where
    own : (b : Bool) → cond b (value 0) (value found) ≡ value (cond b 0 found)
    own true = refl
    own false = refl
settled_is marked value found (suc k) =
    rw (add-one (suc k)) (ap (cond (marked (suc k)) (value (suc k))) (rw (add-one k) at (settled_is marked value found k)))

-- what a search from the first place of the line finds where nothing is there
pub found_none : (marked : ℕ → Bool) (m : ℕ) → ((j : ℕ) → j < m → marked j ≡ false) → first_marked marked 0 m ≡ m
found_none marked m none = first_none marked 0 m (λ j a b. none j (omega arith)) ∙ (omega arith)

-- The samples there by counts: corner, a entries of the row above, l of the left column. Before the first stands start; a missing
-- corner takes what left[0] has; the row above ends as its last one, or as the corner.
abbrev pub any_by : Bool → ℕ → ℕ → Bool
any_by corner a l = ltb 0 l || corner || ltb 0 a

abbrev pub start_by : Bool → ℕ → (ℕ → ℕ) → ℕ → (ℕ → ℕ) → ℕ
start_by corner l left c above = cond (ltb 0 l) (left (l - 1)) (cond corner c (above 0))

abbrev pub left_by : ℕ → (ℕ → ℕ) → ℕ → ℕ → ℕ
left_by l left start i = cond (ltb i l) (left i) start

abbrev pub corner_by : Bool → ℕ → (ℕ → ℕ) → ℕ → ℕ → ℕ
corner_by corner l left c start = cond corner c (left_by l left start 0)

abbrev pub rest_by : ℕ → (ℕ → ℕ) → ℕ → ℕ
rest_by a above last = cond (ltb 0 a) (above (a - 1)) last

abbrev pub above_by : ℕ → (ℕ → ℕ) → ℕ → ℕ → ℕ
above_by a above rest i = cond (ltb i a) (above i) rest

-- a line whose marks go by counts
pub record CountedLine (e l a : ℕ) (corner : Bool) (left above : ℕ → ℕ) (c : ℕ) (marked : ℕ → Bool) (value : ℕ → ℕ) : Type 0 where
  pub few : l ≤ e + 1
  pub left_marked : (k : ℕ) → k ≤ e → marked k ≡ ltb (e - k) l
  pub corner_marked : marked (e + 1) ≡ corner
  pub above_marked : (i : ℕ) → i ≤ e → marked (e + 2 + i) ≡ ltb i a
  pub left_value : (k : ℕ) → k ≤ e → e - k < l → value k ≡ left (e - k)
  pub corner_value : corner ≡ true → value (e + 1) ≡ c
  pub above_value : (i : ℕ) → i ≤ e → i < a → value (e + 2 + i) ≡ above i

-- a test holds or fails
pub told : (b : Bool) → (b ≡ true) ⊎ (b ≡ false)
told true = inl refl
told false = inr refl

none_true : (a b c : Bool) → (a || b || c) ≡ false → (a ≡ false) × (b ≡ false) × (c ≡ false)
none_true true b c h = absurd (true≢false h)
none_true false true c h = absurd (true≢false h)
none_true false false c h = (refl, refl, h)

module _ {e l a : ℕ} {corner : Bool} {left above : ℕ → ℕ} {c : ℕ} {marked : ℕ → Bool} {value : ℕ → ℕ}
    (line : CountedLine e l a corner left above c marked value)
  where
    -- every place in the end, by what the first one has
    pub settled_left : (f k : ℕ) → k ≤ e → settled marked value f k ≡ left_by l left (value f) (e - k)
    unfolding settled
    settled_left f zero h =
        ⊎_elim
        (λ m. simp (line.left_marked 0 h ∙ lt-ltb (e - 0) l m, lt-ltb (e - 0) l m) (line.left_value 0 h m))
        (λ m. simp (line.left_marked 0 h ∙ le-ltb (e - 0) l m, le-ltb (e - 0) l m))
        (order (e - 0) l)
    settled_left f (suc k) h =
        ⊎_elim
        (λ m. simp (line.left_marked (suc k) h ∙ lt-ltb (e - suc k) l m, lt-ltb (e - suc k) l m) (line.left_value (suc k) h m))
        (λ m. simp (line.left_marked (suc k) h ∙ le-ltb (e - suc k) l m, le-ltb (e - suc k) l m)
        (settled_left f k (omega arith) ∙ simp (le-ltb (e - k) l (omega arith))))
        (order (e - suc k) l)

    there : (f k p : ℕ) → p ≡ suc k → marked p ≡ true → settled marked value f p ≡ value p
    unfolding settled
    there f k p q t = ap (settled marked value f) q
        ∙ ap (λ (b : Bool). cond b (value (suc k)) (settled marked value f k)) (ap marked (sym q) ∙ t) ∙ ap value (sym q)

    gap : (f k p : ℕ) → p ≡ suc k → marked p ≡ false → settled marked value f p ≡ settled marked value f k
    unfolding settled
    gap f k p q t = ap (settled marked value f) q ∙ ap (λ (b : Bool). cond b (value (suc k)) (settled marked value f k))
        (ap marked (sym q) ∙ t)

    pub settled_corner : (f : ℕ) → settled marked value f (e + 1) ≡ corner_by corner l left c (value f)
    settled_corner f =
        ⊎_elim (λ t. there f e (e + 1) (add-one e) (line.corner_marked ∙ t) ∙ line.corner_value t ∙ simp t)
        (λ t. gap f e (e + 1) (add-one e) (line.corner_marked ∙ t) ∙ settled_left f e (omega arith)
        ∙ ap (left_by l left (value f)) (let q : e - e ≡ 0 = omega arith in q) ∙ simp t)
        (told corner)

    abbrev rest : ℕ → ℕ
    rest f = rest_by a above (corner_by corner l left c (value f))

    last : (f j : ℕ) → a ≤ suc j → above_by a above (rest f) j ≡ rest f
    last f j t = ⊎_elim (λ m. simp (lt-ltb j a m, lt-ltb 0 a (omega arith)) (ap above (omega arith))) (λ m. simp (le-ltb j a m)) (order j a)

    pub settled_above : (f i : ℕ) → i ≤ e → settled marked value f (e + 2 + i) ≡ above_by a above (rest f) i
    settled_above f zero h =
        let s : e + 2 + 0 ≡ suc (e + 1) = omega arith in
        ⊎_elim (λ t. there f (e + 1) (e + 2 + 0) s (line.above_marked 0 h ∙ lt-ltb 0 a t) ∙ line.above_value 0 h t ∙ simp (lt-ltb 0 a t))
        (λ t. gap f (e + 1) (e + 2 + 0) s (line.above_marked 0 h ∙ le-ltb 0 a t) ∙ settled_corner f ∙ simp (le-ltb 0 a t))
        (order 0 a)
    settled_above f (suc i) h =
        let s : e + 2 + suc i ≡ suc (e + 2 + i) = omega arith in
        ⊎_elim
        (λ t. there f (e + 2 + i) (e + 2 + suc i) s (line.above_marked (suc i) h ∙ lt-ltb (suc i) a t) ∙ line.above_value (suc i) h t
        ∙ simp (lt-ltb (suc i) a t))
        (λ t. gap f (e + 2 + i) (e + 2 + suc i) s (line.above_marked (suc i) h ∙ le-ltb (suc i) a t) ∙ settled_above f i (omega arith)
        ∙ last f i t ∙ simp (le-ltb (suc i) a t))
        (order (suc i) a)

    -- the search finds the first, or nothing
    abbrev found : ℕ
    found = first_marked marked 0 (2 * e + 3)

    missing_left : l ≤ 0 → (j : ℕ) → j ≤ e → marked j ≡ false
    missing_left h j m = line.left_marked j m ∙ le-ltb (e - j) l (omega arith)

    missing_corner : l ≤ 0 → corner ≡ false → (j : ℕ) → j ≤ e + 1 → marked j ≡ false
    missing_corner h t j m =
        ⊎_elim (λ s. missing_left h j (omega arith)) (λ s. let q : j ≡ e + 1 = omega arith in ap marked q ∙ line.corner_marked ∙ t)
        (order j (e + 1))

    missing_all : l ≤ 0 → corner ≡ false → a ≤ 0 → (j : ℕ) → j < 2 * e + 3 → marked j ≡ false
    missing_all h t z j m =
        ⊎_elim (λ s. missing_corner h t j (omega arith))
        (λ s. let q : j ≡ e + 2 + (j - (e + 2)) = omega arith in ap marked q ∙ line.above_marked (j - (e + 2)) (omega arith)
        ∙ le-ltb (j - (e + 2)) a (omega arith))
        (order j (e + 2))

    -- it is at place f, whose sample is the start
    At : ℕ → Type 0
    At v = (found < 2 * e + 3) × (value found ≡ v)

    at : (f v : ℕ) → f < 2 * e + 3 → ((j : ℕ) → j < f → marked j ≡ false) → marked f ≡ true → value f ≡ v → At v
    unfolding At
    at f v h before here is =
        let q : found ≡ f = first_at marked 0 (2 * e + 3) f (omega arith) (omega arith) (λ j x y. before j y) here in
        (omega arith, ap value q ∙ is)

    from_left : 0 < l → At (left (l - 1))
    from_left h =
        let f : ℕ = e + 1 - l in
        let w = line.few in
        at f (left (l - 1)) (omega arith) (λ j m. line.left_marked j (omega arith) ∙ le-ltb (e - j) l (omega arith))
        (line.left_marked f (omega arith) ∙ lt-ltb (e - f) l (omega arith))
        (line.left_value f (omega arith) (omega arith) ∙ ap left (omega arith))

    from_corner : l ≤ 0 → corner ≡ true → At c
    from_corner h t = at (e + 1) c (omega arith) (λ j m. missing_left h j (omega arith)) (line.corner_marked ∙ t) (line.corner_value t)

    from_above : l ≤ 0 → corner ≡ false → 0 < a → At (above 0)
    from_above h t m =
        at (e + 2 + 0) (above 0) (omega arith) (λ j s. missing_corner h t j (omega arith))
        (line.above_marked 0 (omega arith) ∙ lt-ltb 0 a m)
        (line.above_value 0 (omega arith) m)

    pub starts : any_by corner a l ≡ true → (found < 2 * e + 3) × (value found ≡ start_by corner l left c above)
    unfolding At
    starts any =
        ⊎_elim (λ h. let f = from_left h in (f.0, f.1 ∙ simp (lt-ltb 0 l h)))
        (λ h.
        ⊎_elim (λ t. let f = from_corner h t in (
          f.0,
          f.1
              ∙ ap₂ (λ (x y : Bool). cond x (left (l - 1)) (cond y c (above 0))) (sym (le-ltb 0 l h)) (sym t),
        ))
        (λ t.
        let m = ltb-true 0 a (sym (ap₂ (λ (x y : Bool). x || y || ltb 0 a) (le-ltb 0 l h) t) ∙ any) in
        let f = from_above h t m in
        (f.0, f.1 ∙ ap₂ (λ (x y : Bool). cond x (left (l - 1)) (cond y c (above 0))) (sym (le-ltb 0 l h)) (sym t)))
        (told corner))
        (order 0 l)

    pub nothing : any_by corner a l ≡ false → found ≡ 2 * e + 3
    nothing any =
        let p = none_true (ltb 0 l) corner (ltb 0 a) any in
        found_none marked (2 * e + 3) (missing_all (ltb-false 0 l p.0) p.1 (ltb-false 0 a p.2))

-- Substitution, from the parts that the code makes
module _ (n neutral : ℕ) (flags : Flags) (rows : Rows) {found : ℕ}
    (is_found : found ≡ first_marked (flags_on flags (2 * n)) 0 (2 * (2 * n) + 3)) where
  pub none_there : 2 * (2 * n) + 3 ≤ found → level_rows neutral ≡ substituted n neutral flags rows
  unfolding substituted
  none_there h = simp (← is_found, le-ltb found (2 * (2 * n) + 3) h)

  pub some_there : found < 2 * (2 * n) + 3 → from_line (2 * n) (settled (flags_on flags (2 * n)) (samples_on rows (2 * n)) found) rows
      ≡ substituted n neutral flags rows
  unfolding substituted
  some_there h = simp (← is_found, lt-ltb found (2 * (2 * n) + 3) h)
