-- Document 01, 'The program': that the rows of specs/run_tables/TableProgram are met. What is printed tells the number and the block. Rests
-- on Exact and on the walk's rows.
use Rattle.std.specs.Prelude.{◌≡◌, refl, Bool, true, false, cond, List, [], ◌∷◌, ◌++◌, ℕ, zero, suc, ◌+◌, ◌-◌, ◌*◌, ◌/◌, ◌%◌, ◌≤◌, ◌<◌, eqb, ltb, get_or, drop, replicate}
use Rattle.std.proofs.Common.{sym, ap, ap₂, ◌∙◌, subst, append_assoc, inl, inr, arith, length-append, eqb-true, eq-eqb, ltb-true, ne_eqb}
use Rattle.std.proofs.Math.ListN.{length}
use Rattle.std.proofs.lemmas.List.{length-replicate}
use Rattle.std.proofs.Math.Seq.{append_snoc}
use Rattle.std.proofs.lemmas.Bool.{eqb-false}
use Rattle.laws.specs.Choose.{both_same}
use Rattle.laws.specs.Bytes.{le_at}
use Rattle.laws.specs.FillLaws.{length_fill, fill_at}
use Rattle.plan.specs.declared.tiling.Frame.{Frame}
use Rattle.plan.specs.declared.tiling.Block.{Block}
use Rattle.plan.specs.Answers.{Verdict}
use Rattle.walk.specs.Answers.{Stepped}
use Rattle.walk.specs.checks.Checks.{largest_in}
use Rattle.walk.specs.Door.{stepped_by}
use Rattle.report.specs.file.File.{trailer_of, area_of, file_ok, tabulated, source_of, plan_in}
use Rattle.report.specs.sums.Sums.{agree}
use Rattle.report.specs.text.Text.{spell, number, refusal, ending}
use Rattle.walk.specs.Lent.{scratch_tables}
use Rattle.report.specs.Told.{Job, still_in, job_of, none_done, blank, verdict, residuals, replayed_plane, lines, told, printed}
use Rattle.promises.specs.tables.Exact.{Row, ◌when◌, ◌or◌, First, ExactFirst, Tells, first_exact, first_test, all_of, at-most}
use Rattle.promises.specs.run_tables.TableWalk.{about, done, block_rows, Uncovered, Some, last_rows, Ragged, BadPlane}
use Rattle.promises.specs.run_tables.TableWalk.{BadTables, verdict_in}
use Rattle.promises.proofs.run_tables.TableWalk.{walk}
use Rattle.promises.specs.run_tables.TableProgram.{BadFile, BadSample, file_rows, program_rows, served_text, ProgramTable}

-- The rows. One of the walk's that is the same, one that never holds, and all blocks'
record Has (a : Verdict) (rows : List (Row Verdict)) : Type 0 where
  first : First done a rows

row_same : {a k : Verdict} {P Q : Type 0} {xs ys : List (Row Verdict)} → (P → Q) → (Q → P) → (Has a xs → Has a ys)
    → Has a ((k when P) ∷ xs) → Has a ((k when Q) ∷ ys)
row_same {a} {k} {P} {Q} {xs} {ys} to from rest h = record { first = go h.first }
  where
    go : First done a ((k when P) ∷ xs) → First done a ((k when Q) ∷ ys)
    go (inl p) = inl (to p.0, p.1)
    go (inr p) = inr (λ q. p.0 (from q), (rest (record { first = p.1 })).first)

row_kept : {a k : Verdict} {P : Type 0} {xs ys : List (Row Verdict)} → (Has a xs → Has a ys) → Has a ((k when P) ∷ xs)
    → Has a ((k when P) ∷ ys)
row_kept rest h = row_same (λ p. p) (λ p. p) rest h

row_dropped : {a k : Verdict} {P : Type 0} {xs : List (Row Verdict)} → ¬ P → Has a ((k when P) ∷ xs) → Has a xs
row_dropped {a} {k} {P} {xs} never h = record { first = go h.first }
  where
    go : First done a ((k when P) ∷ xs) → First done a xs
    go (inl p) = absurd (never p.0)
    go (inr p) = p.1

blocks_kept : (f : Frame) (plan : ℕ → Block) (m k : ℕ) {a : Verdict} {xs ys : List (Row Verdict)} → (Has a xs → Has a ys)
    → Has a (block_rows f plan m k xs) → Has a (block_rows f plan m k ys)
blocks_kept f plan zero k rest h = rest h
blocks_kept f plan (suc m) k rest h = row_kept (row_kept (row_kept (row_kept (blocks_kept f plan m (suc k) rest)))) h

-- the walk's answer on a file's job
abbrev stepped : Job → Verdict
stepped j = verdict_in (stepped_by (verdict j) j.plan none_done j.plan.count)

module _ (input : List ℕ) where
  abbrev n : ℕ
  n = area_of (trailer_of input)

  file : Tells (file_ok input) (BadFile input)
  unfolding file_ok
  file =
      let t = trailer_of input in
      let start = length input - 16 in
      all_of (all_of (at-most 16 (length input)) (at-most (length input) 65536))
      (all_of (all_of (all_of (at-most n 8192) (at-most t.blocks 512)) (at-most (t.samples + 2 * n) start))
      (at-most (t.plan + 6 * t.blocks) start))

  source_long : length (source_of input (trailer_of input)) ≡ n
  source_long = length_fill _ n (replicate n 0) ∙ length-replicate n 0

  sample-at : (i : ℕ) → i < n → get_or (source_of input (trailer_of input)) i 0 ≡ le_at 2 input ((trailer_of input).samples + 2 * i)
  sample-at i h = fill_at _ n (replicate n 0) i 0 h (omega (arith, h, length-replicate {A = ℕ} n 0))

  -- whole records, planes of the picture's size, and whole tables
  same_long : (f g : ℕ → ℕ) (m : ℕ) → eqb (length (tabulated f m 0)) (length (tabulated g m 0)) ≡ true
  same_long f g m =
      let long : (h : ℕ → ℕ) → length (tabulated h m 0) ≡ m = λ h. length_fill h m (replicate m 0) ∙ length-replicate m 0 in
      eq-eqb (length (tabulated f m 0)) (length (tabulated g m 0)) (long f ∙ sym (long g))

  no_five : ¬ (Ragged (plan_in input (trailer_of input)) or BadPlane (still_in (trailer_of input)) (length (source_of input (trailer_of input)))
      or BadPlane (still_in (trailer_of input)) (length (blank (still_in (trailer_of input))).work) or BadPlane (still_in (trailer_of input))
      (length (blank (still_in (trailer_of input))).residuals) or BadTables scratch_tables)
  no_five (inl (inl (inl (inl p)))) = p (both_same (both_same (same_long _ _ _) (same_long _ _ _)) (same_long _ _ _))
  no_five (inl (inl (inl (inr p)))) = p source_long
  no_five (inl (inl (inr p))) = p (length-replicate n 0)
  no_five (inl (inr p)) = p (length-replicate n _)
  no_five (inr (inl (inl p))) = omega (arith, p)
  no_five (inr (inl (inr p))) = omega (arith, p)
  no_five (inr (inr p)) = omega (arith, p)

  walk_rows : Has (stepped (job_of input)) (file_rows input)
  walk_rows =
      let j = job_of input in
      let bare : Row Verdict = (about 10 0 when Uncovered j.still.frame j.plan) in
      row_kept
      (row_kept
      (λ h. row_same to from
      (blocks_kept j.still.frame j.plan.block j.plan.count 0 {ys = bare ∷ []}
      (row_kept (row_dropped {k = about 11 0} {P = j.plan.count < 0} (λ p. omega (arith, p)))))
      (row_dropped {xs = (about 7 0 when Some 0 (λ v. largest_in j.still < v) j.source) ∷ last_rows j.still j.plan none_done}
      no_five h)))
      (record {
        first = ((walk j.still j.plan none_done scratch_tables j.plan.count j.source (blank j.still)).given
            (stepped j)).0 refl;
      })
    where
      to : Some 0 (λ v. largest_in (still_in (trailer_of input)) < v) (source_of input (trailer_of input)) → BadSample input
      to p = (
        p.0,
        let h : p.0 < n = omega (arith, p.1.0, source_long) in
            (h, subst (λ (v : ℕ). largest_in (still_in (trailer_of input)) < v) (sample-at p.0 h) p.1.1),
      )

      from : BadSample input → Some 0 (λ v. largest_in (still_in (trailer_of input)) < v) (source_of input (trailer_of input))
      from p = (
        p.0,
        (
          omega (arith, p.1.0, source_long),
          subst (λ (v : ℕ). largest_in (still_in (trailer_of input)) < v)
              (sym (sample-at p.0 p.1.0)) p.1.1,
        ),
      )

  -- the verdict on an input
  abbrev given : Verdict
  given = cond (file_ok input) (stepped (job_of input)) (about 12 0)

  exact : ExactFirst done given (program_rows input)
  exact =
      first_exact done given (program_rows input)
      (first_test done (λ (b : Bool). cond b (stepped (job_of input)) (about 12 0)) (file_rows input) file (λ e. walk_rows.first))

-- The text. Digits are from 48 on, so a byte below ends them
abbrev Digits : List ℕ → Type 0
Digits [] = ◌≡◌ {A = ℕ} 0 0
Digits (x ∷ xs) = (48 ≤ x) × Digits xs

digits_more : (xs : List ℕ) (d : ℕ) → Digits xs → 48 ≤ d → Digits (xs ++ d ∷ [])
digits_more [] d h l = (l, refl)
digits_more (x ∷ xs) d h l = (h.0, digits_more xs d h.1 l)

spell_digits : (k n : ℕ) → Digits (spell k n)
unfolding spell
spell_digits zero n = (omega arith, refl)
spell_digits (suc k) n = go (spell_digits k (n / 10)) (ltb n 10)
  where
    go : Digits (spell k (n / 10)) → (b : Bool) → Digits (cond b ((48 + n) ∷ []) (spell k (n / 10) ++ (48 + n % 10) ∷ []))
    go d true = (omega arith, refl)
    go d false = digits_more (spell k (n / 10)) (48 + n % 10) d (omega arith)

head_of : {x y : ℕ} {xs ys : List ℕ} → x ∷ xs ≡ y ∷ ys → x ≡ y
head_of e = ap (λ (l : List ℕ). get_or l 0 0) e

tail_of : {x y : ℕ} {xs ys : List ℕ} → x ∷ xs ≡ y ∷ ys → xs ≡ ys
tail_of e = ap (drop 1) e

parts : (z : ℕ) (xs ys r s : List ℕ) → z < 48 → Digits xs → Digits ys → xs ++ z ∷ r ≡ ys ++ z ∷ s → (xs ≡ ys) × (r ≡ s)
parts z [] [] r s h a b e = (refl, tail_of e)
parts z [] (y ∷ ys) r s h a b e = absurd (omega (arith, h, b.0, head_of e))
parts z (x ∷ xs) [] r s h a b e = absurd (omega (arith, h, a.0, head_of e))
parts z (x ∷ xs) (y ∷ ys) r s h a b e =
    let p = parts z xs ys r s h a.1 b.1 (tail_of e) in
    (ap₂ (λ (u : ℕ) (v : List ℕ). u ∷ v) (head_of e) p.0, p.1)

last_parts : (xs ys : List ℕ) (a b : ℕ) → xs ++ a ∷ [] ≡ ys ++ b ∷ [] → (xs ≡ ys) × (a ≡ b)
last_parts [] [] a b e = (refl, head_of e)
last_parts [] (y ∷ ys) a b e = absurd (omega (arith, ap length (tail_of e), length-append ys (b ∷ [])))
last_parts (x ∷ xs) [] a b e = absurd (omega (arith, ap length (tail_of e), length-append xs (a ∷ [])))
last_parts (x ∷ xs) (y ∷ ys) a b e =
    let p = last_parts xs ys a b (tail_of e) in
    (ap₂ (λ (u : ℕ) (v : List ℕ). u ∷ v) (head_of e) p.0, p.1)

-- digits tell their number
spell_some : (k n : ℕ) → 1 ≤ length (spell k n)
unfolding spell
spell_some zero n = omega arith
spell_some (suc k) n = go (ltb n 10)
  where
    go : (b : Bool) → 1 ≤ length (cond b ((48 + n) ∷ []) (spell k (n / 10) ++ (48 + n % 10) ∷ []))
    go true = omega arith
    go false = omega (arith, length-append (spell k (n / 10)) ((48 + n % 10) ∷ []))

spell_tells : (k n m : ℕ) → spell k n ≡ spell k m → n ≡ m
unfolding spell
spell_tells zero n m e = omega (arith, head_of e)
spell_tells (suc k) n m e = go (ltb n 10) (ltb m 10) (spell_tells k (n / 10) (m / 10)) e
  where
    go : (a b : Bool) → (spell k (n / 10) ≡ spell k (m / 10) → n / 10 ≡ m / 10)
        → cond a ((48 + n) ∷ []) (spell k (n / 10) ++ (48 + n % 10) ∷ [])
        ≡ cond b ((48 + m) ∷ []) (spell k (m / 10) ++ (48 + m % 10) ∷ []) → n ≡ m
    go true true ih e = omega (arith, head_of e)
    go true false ih e = absurd (omega (arith, ap length e, length-append (spell k (m / 10)) ((48 + m % 10) ∷ []), spell_some k (m / 10)))
    go false true ih e = absurd (omega (arith, ap length e, length-append (spell k (n / 10)) ((48 + n % 10) ∷ []), spell_some k (n / 10)))
    go false false ih e =
        let p = last_parts (spell k (n / 10)) (spell k (m / 10)) (48 + n % 10) (48 + m % 10) e in
        omega (arith, ih p.0, p.1)

-- a refusal tells its number and its block
refusal_tells : (n m k j : ℕ) → refusal n k ≡ refusal m j → (n ≡ m) × (k ≡ j)
refusal_tells n m k j e =
    let d = ap (drop 8) e in
    let p = parts 32 (spell 19 n) (spell 19 m) (number k 10) (number j 10) (omega arith) (spell_digits 19 n) (spell_digits 19 m)
    (sym (append_snoc (spell 19 n) 32 (number k 10)) ∙ d ∙ append_snoc (spell 19 m) 32 (number j 10)) in
    let q = parts 10 (spell 19 k) (spell 19 j) [] [] (omega arith) (spell_digits 19 k) (spell_digits 19 j) p.1 in
    (spell_tells 19 n m p.0, spell_tells 19 k j q.0)

-- it ends in a digit and a line's end, the blocks' lines in a letter
spell_last : (k n : ℕ) → (xs : List ℕ) × ((d : ℕ) × ((d ≤ 57) × (spell (suc k) n ≡ xs ++ d ∷ [])))
unfolding spell
spell_last k n = go (ltb n 10) refl
  where
    go : (b : Bool) → ltb n 10 ≡ b → (xs : List ℕ) ×
        ((d : ℕ) × ((d ≤ 57) × (cond b ((48 + n) ∷ []) (spell k (n / 10) ++ (48 + n % 10) ∷ []) ≡ xs ++ d ∷ [])))
    go true e = ([], (48 + n, (omega (arith, ltb-true n 10 e), refl)))
    go false e = (spell k (n / 10), (48 + n % 10, (omega arith, refl)))

-- two texts that end in a byte and a line's end
last_two : (xs ys : List ℕ) (a b : ℕ) → xs ++ (a ∷ []) ++ 10 ∷ [] ≡ ys ++ (b ∷ []) ++ 10 ∷ [] → a ≡ b
last_two xs ys a b e = (last_parts xs ys a b (last_parts (xs ++ a ∷ []) (ys ++ b ∷ []) 10 10 e).0).1

refusal_end : (n k : ℕ) → (xs : List ℕ) × ((d : ℕ) × ((d ≤ 57) × (refusal n k ≡ xs ++ (d ∷ []) ++ 10 ∷ [])))
refusal_end n k =
    let p = spell_last 18 k in
    let start : List ℕ = (114 ∷ 101 ∷ 102 ∷ 117 ∷ 115 ∷ 101 ∷ 100 ∷ 32 ∷ []) ++ number n 32 in (
      start ++ p.0,
      (
        p.1.0,
        (
          p.1.1.0,
          ap (λ (l : List ℕ). start ++ (l ++ 10 ∷ [])) p.1.1.1
              ∙ sym (append_assoc start (p.0 ++ p.1.0 ∷ []) (10 ∷ []))
              ∙ ap (λ (l : List ℕ). l ++ 10 ∷ []) (sym (append_assoc start p.0 (p.1.0 ∷ []))),
        ),
      ),
    )

ending_end : (n : ℕ) (same : Bool) → (xs : List ℕ) × (ending n same ≡ xs ++ (cond same 101 115 ∷ []) ++ 10 ∷ [])
ending_end n true =
    let start : List ℕ = (101 ∷ 110 ∷ 100 ∷ 32 ∷ []) ++ number n 32 in (
      start ++ 115 ∷ 97 ∷ 109 ∷ [],
      sym (append_assoc (start ++ 115 ∷ 97 ∷ 109 ∷ []) (101 ∷ []) (10 ∷ [])
          ∙ append_assoc start (115 ∷ 97 ∷ 109 ∷ []) (101 ∷ 10 ∷ [])),
    )
ending_end n false =
    let start : List ℕ = (101 ∷ 110 ∷ 100 ∷ 32 ∷ []) ++ number n 32 in (
      start ++ 100 ∷ 105 ∷ 102 ∷ 102 ∷ 101 ∷ 114 ∷ [],
      sym (append_assoc (start ++ 100 ∷ 105 ∷ 102 ∷ 102 ∷ 101 ∷ 114 ∷ []) (115 ∷ []) (10 ∷ [])
          ∙ append_assoc start (100 ∷ 105 ∷ 102 ∷ 102 ∷ 101 ∷ 114 ∷ []) (115 ∷ 10 ∷ [])),
    )

letter_high : (same : Bool) → 57 < cond same 101 115
letter_high true = omega arith
letter_high false = omega arith

not_served : (j : Job) (n k : ℕ) → ¬ (served_text j ≡ refusal n k)
not_served j n k e =
    let same : Bool = agree (replayed_plane j) j.source (length j.source) in
    let all : List ℕ = lines j.plan.block (residuals j) j.plan.count in
    let p = ending_end j.plan.count same in
    let q = refusal_end n k in
    let l : served_text j ≡ (all ++ p.0) ++ (cond same 101 115 ∷ []) ++ 10 ∷ [] =
    ap (λ (r : List ℕ). all ++ r) p.1 ∙ sym (append_assoc all (p.0 ++ cond same 101 115 ∷ []) (10 ∷ []))
    ∙ ap (λ (r : List ℕ). r ++ 10 ∷ []) (sym (append_assoc all p.0 (cond same 101 115 ∷ []))) in
    omega (arith, letter_high same, q.1.1.0, last_two (all ++ p.0) q.0 (cond same 101 115) q.1.0 (sym l ∙ e ∙ q.1.1.1))

-- The text goes by the verdict
abbrev text_of : Job → Verdict → List ℕ
text_of j v = cond (eqb v.no 0) (served_text j) (refusal v.no v.block)

text_stepped : (j : Job) → told j ≡ text_of j (stepped j)
unfolding told
text_stepped j = go (eqb (verdict j).no 0) refl _ refl
  where
    go : (b : Bool) → eqb (verdict j).no 0 ≡ b → (a : Stepped) → verdict_in a ≡ done
        → cond b (served_text j) (refusal (verdict j).no (verdict j).block)
        ≡ text_of j (verdict_in (cond b a (record { no = (verdict j).no; block = (verdict j).block; did = 0; next = none_done })))
    go true e a z = sym (ap (text_of j) z)
    go false e a z = sym (ap (λ (b : Bool). cond b (served_text j) (refusal (verdict j).no (verdict j).block)) e)

by_verdict : (input : List ℕ) → printed input ≡ text_of (job_of input) (given input)
unfolding printed
by_verdict input = go (file_ok input) (text_stepped (job_of input))
  where
    go : (b : Bool) → told (job_of input) ≡ text_of (job_of input) (stepped (job_of input))
        → cond b (told (job_of input)) (refusal 12 0) ≡ text_of (job_of input) (cond b (stepped (job_of input)) (about 12 0))
    go true h = h
    go false h = refl

-- a verdict of number 0 names no block
names_none : (input : List ℕ) → (given input).no ≡ 0 → given input ≡ done
names_none input = go (file_ok input) (eqb (verdict (job_of input)).no 0) refl _ refl
  where
    go : (a b : Bool) → eqb (verdict (job_of input)).no 0 ≡ b → (s : Stepped) → verdict_in s ≡ done
        → let w = verdict (job_of input) in
        let v : Verdict = cond a (verdict_in (cond b s (record { no = w.no; block = w.block; did = 0; next = none_done }))) (about 12 0) in
        v.no ≡ 0 → v ≡ done
    go true true e s q z = q
    go true false e s q z = absurd (eqb-false (verdict (job_of input)).no 0 e z)
    go false b e s q z = absurd (omega (arith, z))

pub program : (input : List ℕ) → ProgramTable input
program input =
    record {
      refused = λ n k. (
        λ e. let p = tells n k e in (p.0, ((exact input).given (about n k)).0 p.1),
        λ p. shown n k p.0
            (((exact input).given (about n k)).1 p.1),
      );
      ended = (λ e. ((exact input).given done).0 (ends e), λ p. by_verdict input ∙ ap (text_of (job_of input)) (((exact input).given done).1 p));
    }
  where
    tells : (n k : ℕ) → printed input ≡ refusal n k → (¬ (n ≡ 0)) × (given input ≡ about n k)
    tells n k e = go (eqb (given input).no 0) refl (sym (by_verdict input) ∙ e)
      where
        go : (b : Bool) → eqb (given input).no 0 ≡ b → cond b (served_text (job_of input)) (refusal (given input).no (given input).block)
            ≡ refusal n k → (¬ (n ≡ 0)) × (given input ≡ about n k)
        go true z q = absurd (not_served (job_of input) n k q)
        go false z q =
            let p = refusal_tells (given input).no n (given input).block k q in
            (λ m. eqb-false (given input).no 0 z (p.0 ∙ m), ap₂ about p.0 p.1)

    shown : (n k : ℕ) → ¬ (n ≡ 0) → given input ≡ about n k → printed input ≡ refusal n k
    shown n k h e =
        by_verdict input ∙ ap (text_of (job_of input)) e
        ∙ ap (λ (b : Bool). cond b (served_text (job_of input)) (refusal n k)) (ne_eqb n 0 h)

    ends : printed input ≡ served_text (job_of input) → given input ≡ done
    ends e = go (eqb (given input).no 0) refl (sym (by_verdict input) ∙ e)
      where
        go : (b : Bool) → eqb (given input).no 0 ≡ b → cond b (served_text (job_of input)) (refusal (given input).no (given input).block)
            ≡ served_text (job_of input) → given input ≡ done
        go true z q = names_none input (eqb-true (given input).no 0 z)
        go false z q = absurd (not_served (job_of input) (given input).no (given input).block (sym q))
