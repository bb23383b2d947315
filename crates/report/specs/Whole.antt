-- What joins the walk, the replay and the text, and the file with what is walked. Rests on walk's laws of a call that is served.
use Rattle.std.specs.Prelude.{◌≡◌, Bool, true, false, cond, ◌&&◌, ℕ, ◌+◌, ◌-◌, ◌*◌, ◌≤◌, leb, ltb, eqb, ℤ, pos, length, get_or, take, drop}
use Rattle.std.specs.Prelude.{replicate}
use Rattle.std.proofs.Math.Path.{refl, ap, ap₂}
use Rattle.std.proofs.Common.{sym, ◌∙◌, subst, arith, length-append, length-take-le, leb-true, ltb-true, ltb-false, eqb-true, eq-eqb}
use Rattle.std.proofs.Common.{ne_eqb}
use mathlib.Core.List.{List, ◌++◌}
use Rattle.std.proofs.lemmas.List.{length-replicate, take-replicate, get_or_past}
use Rattle.laws.specs.Fill.{fill}
use Rattle.laws.specs.FillLaws.{length_fill, fill_at}
use Rattle.laws.specs.Bytes.{le_at}
use Rattle.laws.specs.Choose.{if_yes, if_no, both_true, unserved}
use Rattle.domain.specs.Facts.{size_small}
use Rattle.report.specs.declared.file.Trailer.{Trailer}
use Rattle.report.specs.file.File.{trailer_of, area_of, regions_ok, file_ok, tabulated, source_of, block_in, plan_in}
use Rattle.plan.specs.Answers.{Verdict}
use Rattle.plan.specs.declared.tiling.Block.{Block}
use Rattle.plan.specs.tiling.Plan.{Plan, plan_of, listed, no_block}
use Rattle.plan.specs.tiling.Cover.{area as plan-area}
use Rattle.walk.specs.declared.checks.Still.{Still}
use Rattle.walk.specs.declared.Progress.{Progress}
use Rattle.walk.specs.Answers.{Stepped}
use Rattle.walk.specs.block.Walked.{World}
use Rattle.walk.specs.calls.Door.{walk_verdict, walk_after, replay_after}
use Rattle.walk.specs.calls.Ready.{Sound}
use Rattle.walk.specs.calls.Laws.{walk_sound}
use Rattle.walk.specs.Door.{stepped_by}
use Rattle.walk.specs.Lent.{scratch_tables}
use Rattle.report.specs.sums.Sums.{agree}
use Rattle.report.specs.text.Text.{laid, refusal, ending}
use Rattle.report.specs.text.Laid.{Laid}
use Rattle.report.specs.declared.Printout.{Printout}
use Rattle.report.specs.Told.{Job, still_in, job_of, none_done, zeros, blank, verdict, residuals, replayed_plane, lines, told}
use Rattle.report.specs.Told.{printed, report_of}
use Rattle.report.specs.Laws.{Listed, WholeWalk, take_fill}

-- what the program lends a walk: few blocks, planes and residuals of zeros
pub record Blank (s : Still) (blocks : ℕ) (w : World) (plane : List ℕ) : Type 0 where
  pub few : blocks ≤ 512
  pub world : w ≡ blank s
  pub plane_zero : plane ≡ zeros s

-- the same, and room for the text in a buffer
pub record BlankRoom (s : Still) (blocks : ℕ) (w : World) (plane : List ℕ) (room : ℕ) : Type 0 where
  pub few : blocks ≤ 512
  pub world : w ≡ blank s
  pub plane_zero : plane ≡ zeros s
  pub roomy : 65536 ≤ room

-- a call's number is its verdict's, and so is a refused call's block
stepped_no : (v : Verdict) (plan : Plan) (p : Progress) (grant : ℕ) → (stepped_by v plan p grant).no ≡ v.no
stepped_no v plan p grant = go (eqb v.no 0) refl _ refl
  where
    go : (t : Bool) → eqb v.no 0 ≡ t → (a : Stepped) → a.no ≡ 0
        → (cond t a (record { no = v.no; block = v.block; did = 0; next = p })).no ≡ v.no
    go true e a z = z ∙ sym (eqb-true v.no 0 e)
    go false e a z = refl

stepped_block : (v : Verdict) (plan : Plan) (p : Progress) (grant : ℕ) → (v.no ≡ 0 → ⊥) → (stepped_by v plan p grant).block ≡ v.block
stepped_block v plan p grant h = ap (λ (a : Stepped). a.block) (sym (unserved v.no _ _ h))

module _ {j : Job} {w x : World} {r : Stepped} (h : WholeWalk j w x r) (b : w ≡ blank j.still) where
  given : r ≡ stepped_by (verdict j) j.plan none_done j.plan.count
  given = h.gives ∙ ap (λ (u : World). stepped_by (walk_verdict j.still j.plan scratch_tables 0 j.source u) j.plan none_done
      j.plan.count) b

  number_is : r.no ≡ (verdict j).no
  number_is = ap (λ (u : Stepped). u.no) given ∙ stepped_no (verdict j) j.plan none_done j.plan.count

  pub refused_told : (r.no ≡ 0 → ⊥) → refusal r.no r.block ≡ told j
  unfolding told
  refused_told z =
      let k : (verdict j).no ≡ 0 → ⊥ = λ e. z (number_is ∙ e) in
      ap₂ refusal number_is (ap (λ (u : Stepped). u.block) given ∙ stepped_block (verdict j) j.plan none_done j.plan.count k)
      ∙ if_no (eqb (verdict j).no 0) _ _ _ (ne_eqb (verdict j).no 0 k) refl

  pub residuals_are : x.residuals ≡ residuals j
  residuals_are = ap (λ (u : World). u.residuals) h.leaves
      ∙ ap (λ (u : World). (walk_after j.still j.plan scratch_tables 0 j.plan.count j.source u).residuals) b

  module _ (z : r.no ≡ 0) where
    sound : Sound j.still j.plan (length w.work) (length w.residuals) scratch_tables
        × ((length j.source ≡ length w.work) × (0 ≤ j.plan.count))
    sound =
        walk_sound j.still j.plan scratch_tables 0 j.source w
        (ap (λ (u : World). (walk_verdict j.still j.plan scratch_tables 0 j.source u).no) b ∙ sym number_is ∙ z)

    pub listed_all : (n : ℕ) → n ≡ length w.residuals → j.plan.count ≤ 512 → Listed j.plan n
    listed_all n e few =
        let s = sound.0 in
        record {
          few = few;
          sides = λ k l. (size_small _ (s.accepted.plan_good.placed k l).size).1;
          all = omega (arith, e, s.resid_len, plan-area s.accepted.picture j.plan.block j.plan.count s.accepted.plan_good);
        }

    pub source_long : (plane : List ℕ) → plane ≡ zeros j.still → length plane ≡ length j.source
    source_long plane e =
        let n = j.still.frame.height * j.still.frame.width in
        ap length e ∙ length-replicate n 0 ∙ sym (length-replicate n 0) ∙ sym (ap (λ (u : World). length u.work) b) ∙ sym sound.1.0

    pub served_told : (plane back : List ℕ) (same : Bool) → plane ≡ zeros j.still
        → back ≡ replay_after j.still j.plan scratch_tables 0 j.plan.count x.residuals plane → same
        ≡ agree back j.source (length j.source)
        → lines j.plan.block x.residuals j.plan.count ++ ending j.plan.count same ≡ told j
    unfolding told
    served_told plane back same e q s =
        let v = residuals_are in
        let f : back ≡ replayed_plane j = q ∙ ap₂ (λ (u : List ℤ) (d : List ℕ). replay_after j.still j.plan scratch_tables 0
        j.plan.count u d) v e in
        ap₂ (λ (u : List ℤ) (t : Bool). lines j.plan.block u j.plan.count ++ ending j.plan.count t) v
        (s ∙ ap (λ (d : List ℕ). agree d j.source (length j.source)) f)
        ∙ if_yes (eqb (verdict j).no 0) _ _ _ (eq-eqb (verdict j).no 0 (sym number_is ∙ z)) refl

-- a file that number 12 is not given for, and its trailer
pub record GoodFile (b : List ℕ) (t : Trailer) : Type 0 where
  pub trailer : t ≡ trailer_of b
  pub samples_few : area_of t ≤ 8192
  pub blocks_few : t.blocks ≤ 512
  pub samples-in : t.samples + 2 * area_of t ≤ length b
  pub plan-in : t.plan + 6 * t.blocks ≤ length b

pub held_file : (b : List ℕ) (t : Trailer) → file_ok b ≡ true → t ≡ trailer_of b → GoodFile b t
unfolding file_ok
held_file b t e q =
    let start = length b - 16 in
    let x = both_true (leb 16 (length b) && leb (length b) 65536) (regions_ok (trailer_of b) start) e in
    let r : regions_ok t start ≡ true = ap (λ (u : Trailer). regions_ok u start) q ∙ x.1 in
    let a = both_true (leb (area_of t) 8192 && leb t.blocks 512 && leb (t.samples + 2 * area_of t) start)
    (leb (t.plan + 6 * t.blocks) start) r in
    let c = both_true (leb (area_of t) 8192 && leb t.blocks 512) (leb (t.samples + 2 * area_of t) start) a.0 in
    let d = both_true (leb (area_of t) 8192) (leb t.blocks 512) c.0 in
    record {
      trailer = q;
      samples_few = leb-true (area_of t) 8192 d.0;
      blocks_few = leb-true t.blocks 512 d.1;
      samples-in = omega (arith, leb-true (t.samples + 2 * area_of t) start c.1);
      plan-in = omega (arith, leb-true (t.plan + 6 * t.blocks) start a.1);
    }

-- the part of an array that was filled
pub fill_long : {A : Type 0} (f : ℕ → A) (k m : ℕ) (z : A) {d : List A} → d ≡ fill f k (replicate m z) → k ≤ m → k ≡ length (take k d)
fill_long f k m z {d} e h =
    let l : length d ≡ m = ap length e ∙ length_fill f k (replicate m z) ∙ length-replicate m z in
    sym (length-take-le k d (omega (arith, l)))

pub part_long : {A : Type 0} (n : ℕ) (d : List A) {m : ℕ} → length d ≡ m → n ≤ m → n ≡ length (take n d)
part_long n d e h = sym (length-take-le n d (omega arith))

pub zeros_long : {A : Type 0} (n m : ℕ) (z : A) {d : List A} → d ≡ replicate m z → n ≤ m → n ≡ length (take n d)
zeros_long n m z {d} e h = part_long n d (ap length e ∙ length-replicate m z) h

pub fill_room : {A : Type 0} (f : ℕ → A) (k m n : ℕ) (z : A) {d : List A} → d ≡ fill f k (replicate m z) → n ≤ m → n ≤ length d
fill_room f k m n z {d} e h = omega (arith, ap length e ∙ length_fill f k (replicate m z) ∙ length-replicate m z)

-- parts of arrays of zeros
take_zeros : {A : Type 0} (n m : ℕ) (z : A) → n ≤ m → take n (replicate m z) ≡ replicate n z
take_zeros n m z h = take-replicate n m z h

-- so what the program lends is blank, with room for the text or without
pub blank_part : {f : List ℕ} (s : Still) (t : Trailer) (n blocks : ℕ) (d e : List ℕ) (v : List ℤ) → GoodFile f t → s ≡ still_in t
    → n ≡ area_of t → blocks ≡ t.blocks
    → d ≡ replicate 8192 0 → v ≡ replicate 8192 (pos 0) → e ≡ replicate 8192 0
    → Blank s blocks (record { work = take n d; residuals = take n v }) (take n e)
blank_part s t n blocks d e v h i m k p q u =
    let l : n ≤ 8192 = omega (arith, h.samples_few) in
    let g : n ≡ s.frame.height * s.frame.width = m ∙ sym (ap (λ (x : Still). x.frame.height * x.frame.width) i) in
    let a : take n d ≡ zeros s = ap (take n) p ∙ take_zeros n 8192 0 l ∙ ap (λ (x : ℕ). replicate x 0) g in
    let b : take n v ≡ (blank s).residuals = ap (take n) q ∙ take_zeros n 8192 (pos 0) l ∙ ap (λ (x : ℕ). replicate x (pos 0)) g in
    let c : take n e ≡ zeros s = ap (take n) u ∙ take_zeros n 8192 0 l ∙ ap (λ (x : ℕ). replicate x 0) g in
    record { few = omega (arith, k, h.blocks_few); world = λ x. record { work = a x; residuals = b x }; plane_zero = c }

pub blank_room : {f : List ℕ} (s : Still) (t : Trailer) (n blocks room : ℕ) (d e : List ℕ) (v : List ℤ) → GoodFile f t
    → s ≡ still_in t → n ≡ area_of t → blocks ≡ t.blocks → 65536 ≤ room
    → d ≡ replicate 8192 0 → v ≡ replicate 8192 (pos 0) → e ≡ replicate 8192 0
    → BlankRoom s blocks (record { work = take n d; residuals = take n v }) (take n e) room
blank_room s t n blocks room d e v h i m k r p q u =
    let b = blank_part s t n blocks d e v h i m k p q u in
    record { few = b.few; world = b.world; plane_zero = b.plane_zero; roomy = r }

-- what is read of the file, without the zeros after it
read_is : {A : Type 0} (f : ℕ → A) (n m : ℕ) (z : A) (d : List A) → n ≤ m → d ≡ fill f n (replicate m z) → take n d ≡ tabulated f n z
read_is f n m z d h p = ap (take n) p ∙ take_fill f n n m z (omega arith) h

-- a plan of block records is one of four fields
long : {A : Type 0} (f : ℕ → A) (n : ℕ) (z : A) → length (tabulated f n z) ≡ n
long f n z = length_fill f n (replicate n z) ∙ length-replicate n z

entry : {A : Type 0} (f : ℕ → A) (n k : ℕ) (z : A) → get_or (tabulated f n z) k z ≡ cond (ltb k n) (f k) z
entry f n k z = go (ltb k n) refl
  where
    go : (t : Bool) → ltb k n ≡ t → get_or (tabulated f n z) k z ≡ cond t (f k) z
    go true e = let l = ltb-true k n e in fill_at f n (replicate n z) k z l (omega (arith, length-replicate n z))
    go false e = get_or_past (tabulated f n z) k z (omega (arith, long f n z, ltb-false k n e))

block_is : (b : List ℕ) (at k : ℕ) (t : Bool) → cond t (block_in b (at + 6 * k)) no_block
    ≡ record {
      row = cond t (le_at 2 b (at + 6 * k)) 0;
      col = cond t (le_at 2 b (at + 2 + 6 * k)) 0;
      side = cond t (get_or b (at + 4 + 6 * k) 0) 0;
      mode = cond t (get_or b (at + 5 + 6 * k) 0) 0;
    }
block_is b at k true =
    let two : at + 6 * k + 2 ≡ at + 2 + 6 * k = omega arith in
    let four : at + 6 * k + 4 ≡ at + 4 + 6 * k = omega arith in
    let five : at + 6 * k + 5 ≡ at + 5 + 6 * k = omega arith in
    λ i. record { row = le_at 2 b (at + 6 * k); col = le_at 2 b (two i); side = get_or b (four i) 0; mode = get_or b (five i) 0 }
block_is b at k false = refl

listed_is : (b : List ℕ) (t : Trailer) → listed (tabulated (λ (k : ℕ). block_in b (t.plan + 6 * k)) t.blocks no_block) ≡ plan_in b t
listed_is b t =
    let n = t.blocks in
    let rows : ℕ → ℕ = λ k. le_at 2 b (t.plan + 6 * k) in
    let cols : ℕ → ℕ = λ k. le_at 2 b (t.plan + 2 + 6 * k) in
    let sides : ℕ → ℕ = λ k. get_or b (t.plan + 4 + 6 * k) 0 in
    let modes : ℕ → ℕ = λ k. get_or b (t.plan + 5 + 6 * k) 0 in
    let same : (f : ℕ → ℕ) → true ≡ eqb (length (tabulated f n 0)) (length (tabulated rows n 0)) =
    λ f. sym (eq-eqb _ _ (long f n 0 ∙ sym (long rows n 0))) in
    let whole = ap₂ (λ (x y : Bool). x && y) (ap₂ (λ (x y : Bool). x && y) (same cols) (same sides)) (same modes) in
    let count = long (λ (k : ℕ). block_in b (t.plan + 6 * k)) n no_block ∙ sym (long rows n 0) in
    let block : (k : ℕ) → get_or (tabulated (λ (i : ℕ). block_in b (t.plan + 6 * i)) n no_block) k no_block ≡ (plan_in b t).block k =
    λ k. entry (λ (i : ℕ). block_in b (t.plan + 6 * i)) n k no_block ∙ block_is b t.plan k (ltb k n)
    ∙ (λ i. record {
      row = sym (entry rows n k 0) i;
      col = sym (entry cols n k 0) i;
      side = sym (entry sides n k 0) i;
      mode = sym (entry modes n k 0) i;
    }) in
    λ i. record { whole = whole i; count = count i; block = λ k. block k i }

-- what is read is what the file asks to be walked
pub job_is : (b : List ℕ) (t : Trailer) (s : Still) (n : ℕ) (plan : List Block) (source : List ℕ) → GoodFile b t → s ≡ still_in t
    → n ≡ area_of t
    → plan ≡ fill (λ (k : ℕ). block_in b (t.plan + 6 * k)) t.blocks (replicate 512 no_block)
    → source ≡ fill (λ (i : ℕ). le_at 2 b (t.samples + 2 * i)) n (replicate 8192 0)
    → record { still = s; plan = listed (take t.blocks plan); source = take n source } ≡ job_of b
job_is b t s n plan source h e m p q =
    let x : listed (take t.blocks plan) ≡ plan_in b t = ap listed (read_is _ t.blocks 512 no_block plan h.blocks_few p) ∙ listed_is b t in
    let y : take n source ≡ source_of b t = read_is _ n 8192 0 source (omega (arith, h.samples_few)) q
    ∙ ap (λ (k : ℕ). tabulated (λ (i : ℕ). le_at 2 b (t.samples + 2 * i)) k 0) m in
    (λ i. record { still = e i; plan = x i; source = y i })
    ∙ ap (λ (u : Trailer). record { still = still_in u; plan = plan_in b u; source = source_of b u }) h.trailer

-- the same, the plan read as four slices of numbers
pub job_of_numbers : (b : List ℕ) (t : Trailer) (s : Still) (n : ℕ) (rows cols sides modes source : List ℕ) → GoodFile b t
    → s ≡ still_in t → n ≡ area_of t
    → rows ≡ fill (λ (k : ℕ). le_at 2 b (t.plan + 6 * k)) t.blocks (replicate 512 0)
    → cols ≡ fill (λ (k : ℕ). le_at 2 b (t.plan + 2 + 6 * k)) t.blocks (replicate 512 0)
    → sides ≡ fill (λ (k : ℕ). get_or b (t.plan + 4 + 6 * k) 0) t.blocks (replicate 512 0)
    → modes ≡ fill (λ (k : ℕ). get_or b (t.plan + 5 + 6 * k) 0) t.blocks (replicate 512 0)
    → source ≡ fill (λ (i : ℕ). le_at 2 b (t.samples + 2 * i)) n (replicate 8192 0)
    → let m = t.blocks in
    record { still = s; plan = plan_of (take m rows) (take m cols) (take m sides) (take m modes); source = take n source } ≡ job_of b
job_of_numbers b t s n rows cols sides modes source h e m p₀ p₁ p₂ p₃ q =
    let x₀ = read_is _ t.blocks 512 0 rows h.blocks_few p₀ in
    let x₁ = read_is _ t.blocks 512 0 cols h.blocks_few p₁ in
    let x₂ = read_is _ t.blocks 512 0 sides h.blocks_few p₂ in
    let x₃ = read_is _ t.blocks 512 0 modes h.blocks_few p₃ in
    let y : take n source ≡ source_of b t = read_is _ n 8192 0 source (omega (arith, h.samples_few)) q
    ∙ ap (λ (k : ℕ). tabulated (λ (i : ℕ). le_at 2 b (t.samples + 2 * i)) k 0) m in
    (λ i. record { still = e i; plan = plan_of (x₀ i) (x₁ i) (x₂ i) (x₃ i); source = y i })
    ∙ ap (λ (u : Trailer). record { still = still_in u; plan = plan_in b u; source = source_of b u }) h.trailer

-- the whole text of an input
pub printed_is : (b : List ℕ) (t : Bool) → file_ok b ≡ t → cond t (told (job_of b)) (refusal 12 0) ≡ printed b
unfolding printed
printed_is b t e = ap (λ (x : Bool). cond x (told (job_of b)) (refusal 12 0)) (sym e)

pub report_is : (b s d : List ℕ) (n : ℕ) → s ≡ printed b → d ≡ replicate 65536 0 → n ≡ length s
    → record { text = s ++ drop n d; length = n } ≡ report_of b
unfolding laid
report_is b s d n q p e =
    let z : n ≡ 0 + length s = omega (arith, e) in
    let x : s ++ drop n d ≡ laid 0 (printed b) (replicate 65536 0) = ap (λ (m : ℕ). s ++ drop m d) z
    ∙ ap₂ (λ (u v : List ℕ). laid 0 u v) q p in
    let y : n ≡ length (printed b) = e ∙ ap length q in
    λ i. record { text = x i; length = y i }

-- the same of a text that lies over the zeros from their start on
pub report_laid : (b s d e : List ℕ) (upto room : ℕ) → Laid 0 s d e upto room → s ≡ printed b → d ≡ replicate 65536 0
    → record { text = e; length = upto } ≡ report_of b
report_laid b s d e upto room h q p =
    let x : e ≡ laid 0 (printed b) (replicate 65536 0) = h.over ∙ ap₂ (λ (u v : List ℕ). laid 0 u v) q p in
    let y : upto ≡ length (printed b) = omega (arith, h.ends, ap length q) in
    λ i. record { text = x i; length = y i }

-- the text is within its buffer
laid_long : (s d : List ℕ) → length s ≤ length (laid 0 s d)
unfolding laid
laid_long s d = omega (arith, length-append (take 0 d ++ s) (drop (0 + length s) d), length-append (take 0 d) s)

pub text_fits : (b : List ℕ) {p : Printout} → p ≡ report_of b → p.length ≤ length p.text
text_fits b e = subst (λ (q : Printout). q.length ≤ length q.text) (sym e) (laid_long (printed b) _)
