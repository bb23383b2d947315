-- Document 01, 'The numbers a call gives back', where a number carries a block. The rows are in the order of the checks, the blocks'
-- in list order, and the answer is given exactly when it is that of the first row that holds. A plan is any `Plan`: of lent numbers
-- (`plan_of`), of records (`listed`) or of bytes (`records_of`). Where the call takes the scratch struct, its tables (`scratch_tables`)
-- are never short. Rests on Exact and on what the plan's verdict tells.  plan::check_plan, any plan                       check_plan
-- plan::check_plan_numbers                         check_plan_numbers plan::check_plan_bytes
-- check_plan_bytes checks::check_opening, walk::granted              opening, settled Progress::walk, Progress::walk_numbers
-- walk Progress::replay, Progress::replay_numbers       replay
use Rattle.std.specs.Prelude.{◌≡◌, Bool, true, List, [], ◌∷◌, ℕ, zero, suc, ◌*◌, ◌<◌, leb, eqb, ℤ, pos, nat_abs, length, get_or}
use Rattle.std.proofs.Math.Path.{refl}
use Rattle.std.proofs.Common.{sym, ◌∙◌, true≢false, inl, inr, ⊎_elim, not-suc-le-zero, le_of_suc-le-suc, arith}
use Rattle.std.proofs.Math.Bool.{cond}
use Rattle.laws.specs.Every.{every}
use Rattle.domain.specs.Facts.{Depth, Size}
use Rattle.plan.specs.declared.tiling.Frame.{Frame}
use Rattle.plan.specs.declared.tiling.Block.{Block}
use Rattle.plan.specs.Answers.{Verdict}
use Rattle.plan.specs.tiling.Tiling.{picture_of, In, Covered, Next}
use Rattle.plan.specs.tiling.Plan.{Plan}
use Rattle.plan.specs.tiling.PlanCheck.{blocks_verdict}
use Rattle.walk.specs.declared.checks.Still.{Still}
use Rattle.walk.specs.declared.Progress.{Progress}
use Rattle.walk.specs.Answers.{Stepped}
use Rattle.walk.specs.checks.Checks.{largest_in, Tables, opening_no, settle}
use Rattle.promises.specs.tables.Exact.{Row, ◌when◌, ◌or◌, Exact, ExactFirst, Tells, exact_none, exact_row}
use Rattle.promises.specs.tables.Exact.{first_exact, first_test, all_of, at-most, same}
use Rattle.promises.specs.tables.Table.{BadPicture, BadPlace, depth, picture, held}

-- number n, about block k of the list
abbrev pub about : ℕ → ℕ → Verdict
about n k = record { no = n; block = k }

abbrev pub done : Verdict
done = about 0 0

-- number 6 of a block
abbrev pub BadBlock : Frame → Block → Type 0
BadBlock f b = BadPlace f.height f.width b.row b.col b.side or f.ctu < b.side

-- the rows of m blocks from block k on, and then more
abbrev pub block_rows : Frame → (ℕ → Block) → ℕ → ℕ → List (Row Verdict) → List (Row Verdict)
block_rows f plan zero k more = more
block_rows f plan (suc m) k more =
    (about 2 k when ¬ Size (plan k).side)
    ∷ (about 3 k when 34 < (plan k).mode)
    ∷ (about 6 k when BadBlock f (plan k))
    ∷ (about 9 k when ¬ Next f plan k)
    ∷ block_rows f plan m (suc k) more

-- number 10: the plan ends with a sample uncovered
abbrev pub Uncovered : Frame → Plan → Type 0
Uncovered f l = (r : ℕ) × ((c : ℕ) × (In f r c × (¬ Covered l.block l.count r c)))

-- the plan's rows, and then more
abbrev pub plan_rows : Frame → Plan → List (Row Verdict) → List (Row Verdict)
plan_rows f l more = block_rows f l.block l.count 0 ((about 10 0 when Uncovered f l) ∷ more)

-- an entry of a list, one past whose end is d
abbrev pub Some : {A : Type 0} → A → (A → Type 0) → List A → Type 0
Some d P l = (i : ℕ) × ((i < length l) × P (get_or l i d))

-- number 5: a plan that is lent in parts which make no whole records
abbrev pub Ragged : Plan → Type 0
Ragged l = ¬ (l.whole ≡ true)

-- number 5: a plane that is not the picture's size, and the scratch
abbrev pub BadPlane : Still → ℕ → Type 0
BadPlane s len = ¬ (len ≡ s.frame.height * s.frame.width)

abbrev pub BadTables : Tables → Type 0
BadTables t = t.refs < 193 or t.indices < 32 or t.fractions < 32

-- number 8: a residual out of every range; number 14 (document 02): one larger than the depth's largest sample
abbrev pub OutOfRange : List ℤ → Type 0
OutOfRange v = Some (pos 0) (λ r. 65535 < nat_abs r) v

abbrev pub TooLarge : Still → List ℤ → Type 0
TooLarge s v = Some (pos 0) (λ r. largest_in s < nat_abs r) v

-- the number and the block of a call's answer
abbrev pub verdict_in : Stepped → Verdict
verdict_in r = about r.no r.block

-- whole records or not
pub ragged : (l : Plan) → Tells l.whole (Ragged l)
ragged l = record { passed = λ e h. h e; failed = λ e h. true≢false (sym h ∙ e) }

-- the checks before the blocks, where `fit` says that all that is lent is long enough
pub opening : (s : Still) (fit : Bool)
    → Exact (opening_no s fit) ((1 when ¬ Depth s.bits) ∷ (4 when BadPicture (picture_of s.frame)) ∷ (5 when ¬ (fit ≡ true)) ∷ [])
opening s fit =
    exact_row (depth s.bits) refl
    (λ e. exact_row (picture (picture_of s.frame)) refl (λ e. exact_row (held fit) refl (λ e. exact_none)))

-- their number, then the plan's verdict, then 11
pub settled : (found : Verdict) (count k early : ℕ)
    → ExactFirst done (settle found count k early)
    ((about early 0 when ¬ (early ≡ 0)) ∷ (found when ¬ (found.no ≡ 0)) ∷ (about 11 0 when count < k) ∷ [])
unfolding settle
settled found count k early =
    first_exact done _ _
    (first_test done (λ (b : Bool). cond b (cond (eqb found.no 0) (about (cond (leb k count) 0 11) 0) found) (about early 0))
    (second ∷ third ∷ []) (same early 0)
    (λ e. first_test done (λ (b : Bool). cond b (about (cond (leb k count) 0 11) 0) found) (third ∷ []) (same found.no 0)
    (λ e. first_test done (λ (b : Bool). about (cond b 0 11) 0) [] (at-most k count) (λ e. refl))))
  where
    second : Row Verdict
    second = found when ¬ (found.no ≡ 0)

    third : Row Verdict
    third = about 11 0 when count < k

-- a test of every entry
pub every_one : {A : Type 0} (d : A) {test : A → Bool} {P : A → Type 0} → ((x : A) → Tells (test x) (P x)) → (l : List A)
    → Tells (every test l) (Some d P l)
unfolding every
every_one d t [] = record { passed = λ e h. not-suc-le-zero h.1.0; failed = λ e. absurd (true≢false e) }
every_one {A} d {test} {P} t (x ∷ l) =
    let u = all_of (t x) (every_one d t l) in
    record {
      passed = λ e h. u.passed e (split h.0 h.1.0 h.1.1);
      failed = λ e. ⊎_elim (λ p. (0, (omega arith, p)))
          (λ h. (suc h.0, (omega (arith, h.1.0), h.1.1))) (u.failed e);
    }
  where
    split : (i : ℕ) → i < length (x ∷ l) → P (get_or (x ∷ l) i d) → P x or Some d P l
    split zero h p = inl p
    split (suc i) h p = inr (i, (le_of_suc-le-suc h, p))

module _ (s : Still) (plan : Plan) (p : Progress) where
  -- the rows after those that come before the blocks
  abbrev pub last_rows : List (Row Verdict)
  last_rows = plan_rows s.frame plan ((about 11 0 when plan.count < p.done) ∷ [])

  abbrev pub last : Verdict
  last = about (cond (leb p.done plan.count) 0 11) 0

  -- the verdict by the number of the checks before the blocks
  abbrev pub from : ℕ → Verdict
  from early = cond (eqb early 0) (cond (eqb (blocks_verdict s.frame plan).no 0) last (blocks_verdict s.frame plan)) (about early 0)

  -- the same of a replay: over all residuals 8, then 14
  abbrev pub residual_rows : List ℤ → List (Row Verdict)
  residual_rows v = (about 8 0 when OutOfRange v) ∷ (about 14 0 when TooLarge s v) ∷ last_rows
