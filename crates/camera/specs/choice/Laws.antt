-- What a choice on bytes that is not refused for its lengths has, and that the samples that were read give the choice of the bytes.
-- Rests on the choice's numbers, and on what reaches a predicted sample.
use Rattle.std.specs.Prelude.{◌≡◌, refl, true, false, List, [], ◌∷◌, leb, length, get_or, take, replicate}
use Rattle.std.proofs.Common.{sym, ap, ◌∙◌, arith}
use Rattle.std.proofs.Math.Path.{ap₂}
use Rattle.std.proofs.Math.Bool.{Bool, cond}
use Prim.Native.Nat.{ℕ, zero, suc, ◌+◌, ◌-◌, ◌*◌, ◌^◌, ◌≤◌, ◌<◌}
use Rattle.std.proofs.Math.Arith.{digits_lt}
use Rattle.std.proofs.lemmas.List.{length-replicate}
use borrow.Author.Tests.{leb-true, le-leb}
use Rattle.laws.specs.Choose.{passed, both_true}
use Rattle.laws.specs.Every.{every}
use Rattle.laws.specs.Fill.{fill}
use Rattle.laws.specs.FillLaws.{fill_at, length_fill}
use Rattle.laws.specs.Sum.{total_same}
use Rattle.laws.specs.Least.{FirstLeast}
use Rattle.octets.specs.Bytes.{samples_of, pair_into}
use Rattle.octets.specs.Laws.{length_samples, pair_stored}
use Rattle.octets.specs.pairs.Into.{read_into}
use Rattle.octets.specs.pairs.Laws.{read_done}
use Rattle.domain.specs.Domain.{depth_ok, size_ok}
use Rattle.domain.specs.Facts.{Size, size_of, size_small}
use Rattle.h265.specs.Notation.{from_rows}
use Rattle.h265.specs.Setting.{luma_at, first_edition_strong}
use Rattle.predict.specs.refusals.Refusals.{lengths, square}
use Rattle.predict.specs.modes.Modes.{pred_alone}
use Rattle.choose.specs.Answers.{Chosen}
use Rattle.choose.specs.Choose.{apart, differences, mode_sum, choose_no, Chooses}
use Rattle.camera.specs.Written.{wrote}
use Rattle.camera.specs.replay.VerdictLaws.{put_word}
use Rattle.camera.specs.prediction.Blocks.{read_agree}
use Rattle.camera.specs.choice.Entry.{choice_room, block_ok, samples_no, choice_lent_no, choice_no, choice_sums, ChoosesInto}

-- rows and a source block that are long enough, in bytes
pub record Choosable (bits n above left source : ℕ) : Type 0 where
  pub depth : depth_ok bits ≡ true
  pub size : size_ok n ≡ true
  pub above_long : 130 ≤ above
  pub left_long : 130 ≤ left
  pub source_long : 2 * (n * n) ≤ source

-- a call that is not refused for its lengths, and room for its answer
pub choosable : (bits n above left source out : ℕ) → choice_lent_no bits n above left source out ≡ 0
    → Choosable bits n above left source × (8 ≤ out)
unfolding choice_lent_no
choosable bits n above left source out e =
    let p = passed (depth_ok bits) _ 1 (omega arith) e in
    let q = passed (size_ok n) _ 2 (omega arith) p.1 in
    let r = passed (choice_room n above left source out) 0 5 (omega arith) q.1 in
    let a = both_true _ (leb 8 out) r.0 in
    let b = both_true _ (leb (2 * (n * n)) source) a.0 in
    let c = both_true (leb 130 above) (leb 130 left) b.0 in (
      record {
        depth = p.0;
        size = q.0;
        above_long = leb-true 130 above c.0;
        left_long = leb-true 130 left c.1;
        source_long = leb-true _ source b.1;
      },
      leb-true 8 out a.1,
    )

-- the number is that of the lengths, or where these pass, that of the samples
module _ (bits n : ℕ) (above left source d : List ℕ) where
  abbrev lent : ℕ
  lent = choice_lent_no bits n (length above) (length left) (length source) (length d)

  pub lent_first : (lent ≡ 0 → ⊥) → lent ≡ choice_no bits n above left source d
  unfolding choice_lent_no choice_no
  lent_first h =
      go (depth_ok bits) (size_ok n) (choice_room n (length above) (length left) (length source) (length d))
      (samples_no bits n (samples_of source)) h
    where
      before : Bool → Bool → Bool → ℕ → ℕ
      before a b c k = cond a (cond b (cond c k 5) 2) 1

      go : (a b c : Bool) (k : ℕ) → (before a b c 0 ≡ 0 → ⊥) → before a b c 0 ≡ before a b c k
      go false b c k h = refl
      go true false c k h = refl
      go true true false k h = refl
      go true true true k h = absurd (h refl)

  pub then_samples : lent ≡ 0 → samples_no bits n (samples_of source) ≡ choice_no bits n above left source d
  unfolding choice_lent_no choice_no
  then_samples e =
      let p = passed (depth_ok bits) _ 1 (omega arith) e in
      let q = passed (size_ok n) _ 2 (omega arith) p.1 in
      let r = passed (choice_room n (length above) (length left) (length source) (length d)) 0 5 (omega arith) q.1 in
      rw (p.0, q.0, r.0)

  -- what a call gives and writes: refused for its lengths or its samples, or served
  module _ (sums : ℕ → ℕ) where
    abbrev Answers : ℕ → List ℕ → Type 0
    Answers number out = ChoosesInto (choice_no bits n above left source d) sums d (wrote number out)

    refused : {number : ℕ} → number ≡ choice_no bits n above left source d → (number ≡ 0 → ⊥) → Answers number d
    refused e h = record { number = e; best = λ z. absurd (h (e ∙ z)); kept = λ f. refl }

    pub refused_lent : {number : ℕ} → number ≡ lent → (number ≡ 0 → ⊥) → Answers number d
    refused_lent e h = refused (e ∙ lent_first (λ z. h (e ∙ z))) h

    module _ {number : ℕ} (e : number ≡ lent) (zero : number ≡ 0) {r : Chosen}
        (c : Chooses (samples_no bits n (samples_of source)) sums r) where
      number_is : r.no ≡ choice_no bits n above left source d
      number_is = c.number ∙ then_samples (sym e ∙ zero)

      pub refused_samples : (r.no ≡ 0 → ⊥) → Answers r.no d
      refused_samples h = refused number_is h

      pub chosen : r.no ≡ 0 → {out : List ℕ} → out ≡ pair_into r.mode r.sum d → Answers 0 out
      chosen z s =
          let q = sym number_is ∙ z in
          record {
            number = sym q;
            best = λ t. record { mode = r.mode; sum = r.sum; best = c.best (sym c.number ∙ z); stored = s };
            kept = λ f. absurd (f q);
          }

-- two numbers that were stored one after the other
pub two_stored : (d : List ℕ) (v w : ℕ) {e out : List ℕ} → 8 ≤ length d → e ≡ put_word d 0 v → out ≡ put_word e 4 w → out ≡ pair_into v w d
two_stored d v w h p q = q ∙ ap (λ (l : List ℕ). put_word l 4 w) p ∙ pair_stored d v w h

-- lists whose first entries agree
firsts_same : (k : ℕ) (a b : List ℕ) → k ≤ length a → k ≤ length b → ((i : ℕ) → i < k → get_or a i 0 ≡ get_or b i 0) → take k a ≡ take k b
firsts_same zero a b p q h = refl
firsts_same (suc k) [] b p q h = absurd (omega arith)
firsts_same (suc k) (x ∷ a) [] p q h = absurd (omega arith)
firsts_same (suc k) (x ∷ a) (y ∷ b) p q h =
    ap₂ (λ (v : ℕ) (l : List ℕ). v ∷ l) (h 0 (omega arith)) (firsts_same k a b (omega arith) (omega arith) (λ i l. h (suc i) (omega arith)))

-- a first least value goes by the candidates' values alone
least_same : (f g : ℕ → ℕ) (k : ℕ) {m s : ℕ} → ((j : ℕ) → j < k → f j ≡ g j) → FirstLeast f k m s → FirstLeast g k m s
least_same f g k {m} {s} same a =
    let i = a.inside in
    record {
      inside = i;
      is = a.is ∙ same m i;
      least = λ j h. omega (arith, a.least j h, same j h);
      first = λ j h. let l : j < k = omega arith in omega (arith, a.first j h, same j l);
    }

-- the samples that were read: of the source the first n * n, into 1024 zeros, and of each row 2n, into 65
module _ (bits n corner : ℕ) (above left source : List ℕ) (b : Choosable bits n (length above) (length left) (length source))
    {samples a l : List ℕ} (es : samples ≡ fill (λ (i : ℕ). get_or (samples_of source) i 0) (n * n) (replicate 1024 0))
    (ea : a ≡ read_into n above (replicate 65 0)) (el : l ≡ read_into n left (replicate 65 0)) where
  side : Size n
  side = size_of n b.size

  few : n * n ≤ length (replicate {A = ℕ} 1024 0)
  few = let q = length-replicate {A = ℕ} 1024 0 in omega (arith, square n side)

  pub as_long : length samples ≡ 1024
  as_long = ap length es ∙ length_fill (λ (i : ℕ). get_or (samples_of source) i 0) (n * n) (replicate 1024 0) ∙ length-replicate {A = ℕ} 1024 0

  row_long : (b : List ℕ) → 130 ≤ length b → {r : List ℕ} → r ≡ read_into n b (replicate 65 0) → length r ≡ 65
  row_long b h e =
      let m = size_small n side in
      let q = length-replicate {A = ℕ} 65 0 in
      ap length (e ∙ read_done n b (replicate 65 0) m.1 (omega arith) (omega arith))
      ∙ length_fill (λ (i : ℕ). get_or (samples_of b) i 0) (2 * n) (replicate 65 0) ∙ q

  sample_same : (i : ℕ) → i < n * n → get_or samples i 0 ≡ get_or (samples_of source) i 0
  sample_same i h =
      ap (λ (s : List ℕ). get_or s i 0) es
      ∙ fill_at (λ (j : ℕ). get_or (samples_of source) j 0) (n * n) (replicate 1024 0) i 0 h (omega (arith, few))

  -- the same number
  ok_same : block_ok bits n samples ≡ block_ok bits n (samples_of source)
  ok_same =
      ap (λ (s : List ℕ). every (λ v. leb v (2 ^ bits - 1)) s)
      (firsts_same (n * n) samples (samples_of source) (omega (arith, as_long, square n side))
      (omega (arith, length_samples source, b.source_long)) sample_same)

  number_same : choose_no bits n samples (lengths (length a) (length l) 1024 193 32 32) ≡ samples_no bits n (samples_of source)
  unfolding choose_no
  number_same =
      rw (
        b.depth,
        b.size,
        row_long above b.above_long ea,
        row_long left b.left_long el,
        as_long,
        le-leb (n * n) 1024 (square n side),
      ) (ap (λ (t : Bool). cond t 0 7) ok_same)

  -- and the same sums
  sum_same : (mode : ℕ) → mode < 35
      → mode_sum bits n (from_rows corner a l) samples mode ≡ choice_sums bits n corner above left source mode
  unfolding differences
  sum_same mode h =
      let m = size_small n side in
      total_same _ _ n (λ y hy.
      total_same _ _ n (λ x hx.
      ap₂ apart (sample_same (y * n + x) (digits_lt hy hx))
      (pred_alone (luma_at bits) first_edition_strong n mode x y _ _ side (omega arith) hx hy
      (read_agree 65 n corner above left (omega arith) side (omega (arith, m, b.above_long)) (omega (arith, m, b.left_long)) ea el))))

  pub choice_read : {r : Chosen}
      → Chooses (choose_no bits n samples (lengths (length a) (length l) 1024 193 32 32)) (mode_sum bits n (from_rows corner a l) samples) r
      → Chooses (samples_no bits n (samples_of source)) (choice_sums bits n corner above left source) r
  choice_read {r} c =
      record {
        number = c.number ∙ number_same;
        best = λ z. least_same _ _ 35 sum_same (c.best (number_same ∙ z));
        nothing = λ f. c.nothing (λ z. f (sym number_same ∙ z));
      }
