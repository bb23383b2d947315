-- That the rows of specs/run_tables/TableWalk are met: the answer of the plan check, of walk and of replay is given exactly when it is that
-- of the first row that holds. Rests on Exact and on what the plan's verdict tells.
use Rattle.std.specs.Prelude.{◌≡◌, Bool, true, false, List, [], ◌∷◌, ◌⊎◌, ℕ, zero, suc, ◌+◌, ◌*◌, ◌%◌, ◌<◌, ◌≤◌, leb, eqb, ℤ, pos, nat_abs, length}
use Rattle.std.proofs.Math.Path.{refl}
use Rattle.std.proofs.Common.{sym, ap, subst, ◌∙◌, true≢false, inl, inr, eq-or-lt_of_le, arith, eqb-true}
use Rattle.std.proofs.Math.Bool.{cond}
use Rattle.std.proofs.lemmas.Bool.{eqb-false}
use Rattle.laws.specs.Choose.{first_fail, served, if_no}
use Rattle.domain.specs.Facts.{Depth}
use Rattle.order.specs.Order.{picture_ok}
use Rattle.plan.specs.declared.tiling.Frame.{Frame}
use Rattle.plan.specs.declared.tiling.Block.{Block}
use Rattle.plan.specs.Answers.{Verdict}
use Rattle.plan.specs.tiling.Tiling.{picture_of, Placed, Next}
use Rattle.plan.specs.tiling.Plan.{Plan, plan_of}
use Rattle.plan.specs.tiling.Check.{placed_ok}
use Rattle.plan.specs.tiling.PlanCheck.{blocks_verdict, plan_verdict}
use Rattle.plan.specs.RecordPlan.{records_of}
use Rattle.plan.specs.tiling.Tests.{picture_good, placed_of}
use Rattle.plan.specs.tiling.Verdict.{Fine, Broken, bad_size, bad_mode, bad_place, bad_order, Told, is_good, bad_picture, not_whole}
use Rattle.plan.specs.tiling.Verdict.{bad_block, bad_cover, told, verdict_good, good_verdict}
use Rattle.walk.specs.declared.checks.Still.{Still}
use Rattle.walk.specs.declared.Progress.{Progress}
use Rattle.walk.specs.checks.Checks.{largest_in, is_whole, Tables, is_roomy, residual_checks, settle}
use Rattle.walk.specs.calls.Steps.{doing_of}
use Rattle.walk.specs.block.Walked.{World}
use Rattle.walk.specs.calls.Door.{verdict_of, replay_verdict, walk_verdict}
use Rattle.walk.specs.Door.{stepped_by}
use Rattle.promises.specs.tables.Exact.{Row, ◌when◌, ◌or◌, First, ExactFirst, FirstBy, Tells}
use Rattle.promises.specs.tables.Exact.{first_exact, first_test, first_row, all_of, at-most, same}
use Rattle.promises.specs.tables.Table.{BadPicture, depth, picture, placed}
use Rattle.promises.specs.run_tables.TableWalk.{about, done, BadBlock, block_rows, plan_rows, Some, Ragged, BadPlane, BadTables, verdict_in, ragged, every_one, last_rows, last, from, residual_rows}

module _ (f : Frame) (plan : ℕ → Block) where
  -- a block that is placed and has a mode has none of the first three rows
  placed_row : (k : ℕ) (v : Verdict) (more : List (Row Verdict)) → Placed f (plan k) → (plan k).mode ≤ 34
      → First done v ((about 9 k when ¬ Next f plan k) ∷ more) → First done v (block_rows f plan 1 k more)
  placed_row k v more p m rest = inr (λ e. e p.size, inr (λ l. omega (arith, l, m), inr (unplaced, rest)))
    where
      unplaced : ¬ BadBlock f (plan k)
      unplaced (inl (inl (inl (inl e)))) = e p.row_at
      unplaced (inl (inl (inl (inr e)))) = e p.col_at
      unplaced (inl (inl (inr l))) = omega (arith, l, p.row_in)
      unplaced (inl (inr l)) = omega (arith, l, p.col_in)
      unplaced (inr l) = omega (arith, l, p.small)

  -- blocks that break no rule have no row
  passes : (m k : ℕ) (v : Verdict) (more : List (Row Verdict))
      → ((i : ℕ) → i < k + m → Placed f (plan i) × (((plan i).mode ≤ 34) × Next f plan i))
      → First done v more → First done v (block_rows f plan m k more)
  passes zero k v more h rest = rest
  passes (suc m) k v more h rest =
      let b = h k (omega arith) in
      placed_row k v (block_rows f plan m (suc k) more) b.0 b.1.0
      (inr (λ e. e b.1.1, passes m (suc k) v more (λ i l. h i (omega arith)) rest))

  -- the block that breaks a rule has the row of its number
  breaks : (k n : ℕ) (more : List (Row Verdict)) → Broken f plan k n → First done (about n k) (block_rows f plan 1 k more)
  breaks k n more (bad_size z p) = inl (p, ap (λ (x : ℕ). about x k) z)
  breaks k n more (bad_mode z p m) = inr (λ e. e p, inl (m, ap (λ (x : ℕ). about x k) z))
  breaks k n more (bad_place z p m a) = inr (
    λ e. e p,
    inr
        (λ l. omega (arith, l, m), inl (go (placed_ok f (plan k)) refl, ap (λ (x : ℕ). about x k) z)),
  )
    where
      tells : Tells (placed_ok f (plan k)) (BadBlock f (plan k))
      tells = all_of (placed f.height f.width (plan k).row (plan k).col (plan k).side) (at-most (plan k).side f.ctu)

      go : (b : Bool) → placed_ok f (plan k) ≡ b → BadBlock f (plan k)
      go true e = absurd (a (placed_of f (plan k) p e))
      go false e = tells.failed e
  breaks k n more (bad_order z p m a) = placed_row k (about n k) more p m (inl (a, ap (λ (x : ℕ). about x k) z))

  -- the first block that breaks a rule, with those before it
  stops : (m i k n : ℕ) (more : List (Row Verdict)) → i ≤ k → k < i + m → Fine f plan k → Broken f plan k n
      → First done (about n k) (block_rows f plan m i more)
  stops zero i k n more a b h r = absurd (omega arith)
  stops (suc m) i k n more a b h r = go (eq-or-lt_of_le a) (stops m (suc i) k n more)
    where
      rest : List (Row Verdict)
      rest = block_rows f plan m (suc i) more

      go : (i ≡ k) ⊎ (i < k) → (suc i ≤ k → k < suc i + m → Fine f plan k → Broken f plan k n → First done (about n k) rest)
          → First done (about n k) (block_rows f plan 1 i rest)
      go (inl e) later = subst (λ (j : ℕ). First done (about n k) (block_rows f plan 1 j rest)) (sym e) (breaks k n rest r)
      go (inr l) later =
          let x = h i l in
          placed_row i (about n k) rest x.0 x.1.0 (inr (λ e. e x.1.1, later l (omega arith) h r))

  not_zero : {k n : ℕ} → Broken f plan k n → eqb n 0 ≡ false
  not_zero (bad_size z p) = ap (λ (x : ℕ). eqb x 0) z
  not_zero (bad_mode z p m) = ap (λ (x : ℕ). eqb x 0) z
  not_zero (bad_place z p m a) = ap (λ (x : ℕ). eqb x 0) z
  not_zero (bad_order z p m a) = ap (λ (x : ℕ). eqb x 0) z

module _ (f : Frame) (l : Plan) where
  abbrev v : Verdict
  v = blocks_verdict f l

  -- the blocks alone decide of whole records
  abbrev made : Plan
  made = record { whole = true; count = l.count; block = l.block }

  -- the blocks of a picture that is not refused, and where they are good what follows
  pub blocks_first : picture_ok (picture_of f) ≡ true → (last : Verdict) (more : List (Row Verdict)) → First done last more
      → First done (cond (eqb v.no 0) last v) (plan_rows f l more)
  unfolding plan_verdict
  blocks_first ok last more rest = go (rw ok at (told f made))
    where
      after : Verdict → Verdict
      after w = cond (eqb w.no 0) last w

      at : (w : Verdict) → v ≡ w → First done (after w) (plan_rows f l more) → First done (after v) (plan_rows f l more)
      at w q h = subst (λ (u : Verdict). First done (after u) (plan_rows f l more)) (sym q) h

      go : Told f made v → First done (after v) (plan_rows f l more)
      go (is_good q w a) =
          at done q
          (passes f l.block l.count 0 last _ (λ i h.
          (a.plan_good.placed i (omega arith), (a.modes i (omega arith), a.plan_good.next i (omega arith))))
          (inr (λ u. u.1.1.1 (a.plan_good.all u.0 u.1.0 u.1.1.0), rest)))
      go (bad_picture q a) = absurd (a (picture_good f ok))
      go (not_whole q g w) = absurd (true≢false w)
      go (bad_block n k q g w r) =
          at (about n k) q
          (subst (λ (w : Verdict). First done w (plan_rows f l more))
          (if_no (eqb n 0) last (about n k) (about n k) (not_zero f l.block r.broken) refl)
          (stops f l.block l.count 0 k n _ (omega arith) (omega (arith, r.listed)) r.before r.broken))
      go (bad_cover q g w a) =
          at (about 10 0) q
          (passes f l.block l.count 0 (about 10 0) _ (λ i h. a.before i (omega arith))
          (inl ((a.row, (a.col, (a.inside, a.bare))), refl)))

  -- a verdict of number 0 names no block
  zero_done : picture_ok (picture_of f) ≡ true → v.no ≡ 0 → v ≡ done
  unfolding plan_verdict
  zero_done ok e = rw ok at (good_verdict f made refl (verdict_good f made (rw ok e)).1)

  -- the blocks, and nothing after them
  blocks_alone : picture_ok (picture_of f) ≡ true → First done v (plan_rows f l [])
  blocks_alone ok = subst (λ (w : Verdict). First done w (plan_rows f l [])) (go (eqb v.no 0) refl) (blocks_first ok done [] refl)
    where
      go : (b : Bool) → eqb v.no 0 ≡ b → cond b done v ≡ v
      go true e = sym (zero_done ok (eqb-true v.no 0 e))
      go false e = refl

-- the plan check; P says that what was lent is not whole records
check_by : (f : Frame) (l : Plan) {P : Type 0} → Tells l.whole P
    → ExactFirst done (plan_verdict f l) ((about 4 0 when BadPicture (picture_of f)) ∷ (about 5 0 when P) ∷ plan_rows f l [])
unfolding plan_verdict
check_by f l {P} t =
    first_exact done (plan_verdict f l) _
    (first_test done (λ (b : Bool). cond b (cond l.whole (blocks_verdict f l) (about 5 0)) (about 4 0))
    ((about 5 0 when P) ∷ plan_rows f l []) (picture (picture_of f))
    (λ ok. first_test done (λ (b : Bool). cond b (blocks_verdict f l) (about 5 0)) (plan_rows f l []) t (λ e. blocks_alone f l ok)))

pub check_plan : (f : Frame) (l : Plan) → ExactFirst done (plan_verdict f l)
    ((about 4 0 when BadPicture (picture_of f)) ∷ (about 5 0 when Ragged l) ∷ plan_rows f l [])
check_plan f l = check_by f l (ragged l)

-- of numbers: slices of different lengths; of bytes: no multiple of six
pub check_plan_numbers : (f : Frame) (rows cols sides modes : List ℕ)
    → let n = length rows in
    ExactFirst done (plan_verdict f (plan_of rows cols sides modes))
    ((about 4 0 when BadPicture (picture_of f)) ∷ (about 5 0 when (¬ (length cols ≡ n)) or (¬ (length sides ≡ n)) or (¬ (length modes ≡ n)))
    ∷ plan_rows f (plan_of rows cols sides modes) [])
check_plan_numbers f rows cols sides modes =
    let n = length rows in
    check_by f (plan_of rows cols sides modes) (all_of (all_of (same (length cols) n) (same (length sides) n)) (same (length modes) n))

pub check_plan_bytes : (f : Frame) (b : List ℕ)
    → ExactFirst done (plan_verdict f (records_of b))
    ((about 4 0 when BadPicture (picture_of f)) ∷ (about 5 0 when ¬ (length b % 6 ≡ 0)) ∷ plan_rows f (records_of b) [])
check_plan_bytes f b = check_by f (records_of b) (same (length b % 6) 0)

module _ (s : Still) (plan : Plan) (p : Progress) where
  last_first : picture_ok (picture_of s.frame) ≡ true → FirstBy done (from s plan p) 0 (last_rows s plan p)
  last_first ok = record { first = blocks_first s.frame plan ok (last s plan p) _ eleven.first }
    where
      eleven : FirstBy done (λ (x : ℕ). about x 0) (cond (leb p.done plan.count) 0 11) ((about 11 0 when plan.count < p.done) ∷ [])
      eleven = first_row (at-most p.done plan.count) (λ e. record { first = refl })

  pub residuals_first : (v : List ℤ) → picture_ok (picture_of s.frame) ≡ true
      → FirstBy done (from s plan p) (first_fail (residual_checks (largest_in s) v)) (residual_rows s plan p v)
  residuals_first v ok =
      first_row (every_one (pos 0) (λ r. at-most (nat_abs r) 65535) v)
      (λ e. first_row (every_one (pos 0) (λ r. at-most (nat_abs r) (largest_in s)) v) (λ e. last_first ok))

  -- a verdict of number 0 names no block, so the answer holds the verdict
  names_none : (early : ℕ) → (verdict_of s plan p.done early).no ≡ 0 → done ≡ verdict_of s plan p.done early
  unfolding verdict_of settle
  names_none early = go (eqb early 0) (eqb v.no 0) (leb p.done plan.count) refl refl
    where
      v : Verdict
      v = blocks_verdict s.frame plan

      go : (a b d : Bool) → eqb early 0 ≡ a → eqb v.no 0 ≡ b
          → let w : Verdict = cond a (cond b (about (cond d 0 11) 0) v) (about early 0) in w.no ≡ 0 → done ≡ w
      go true true true x y e = refl
      go true true false x y e = absurd (omega (arith, e))
      go true false d x y e = absurd (eqb-false v.no 0 y e)
      go false b d x y e = absurd (eqb-false early 0 x e)

  holds_verdict : (w : Verdict) → (w.no ≡ 0 → done ≡ w) → (grant : ℕ) → verdict_in (stepped_by w plan p grant) ≡ w
  holds_verdict w h grant = go (eqb w.no 0) refl
    where
      go : (b : Bool) → eqb w.no 0 ≡ b → verdict_in
          (cond b (record {
            no = 0;
            block = 0;
            did = doing_of plan.count p.done grant;
            next = record
                { done = p.done + doing_of plan.count p.done grant };
          }) (record { no = w.no; block = w.block; did = 0; next = p })) ≡ w
      go true e = h (eqb-true w.no 0 e)
      go false e = refl

  given_by : (early : ℕ) (a : Verdict) (rows : List (Row Verdict)) → a ≡ verdict_of s plan p.done early → FirstBy done (from s plan p) early rows
      → ExactFirst done a rows
  unfolding verdict_of settle
  given_by early a rows e h = first_exact done a rows (subst (λ (w : Verdict). First done w rows) (sym e) h.first)

  -- the number and the block of an answer, and a number beside the block that is written
  answer_exact : (early grant : ℕ) (rows : List (Row Verdict)) → FirstBy done (from s plan p) early rows
      → ExactFirst done (verdict_in (stepped_by (verdict_of s plan p.done early) plan p grant)) rows
  answer_exact early grant rows h = given_by early _ rows (holds_verdict (verdict_of s plan p.done early) (names_none early) grant) h

  pub number_exact : (early : ℕ) (rows : List (Row Verdict)) → FirstBy done (from s plan p) early rows
      → let w = verdict_of s plan p.done early in
      ExactFirst done (about w.no (served w.no 0 w.block)) rows
  number_exact early rows h = given_by early _ rows (go (eqb w.no 0) refl) h
    where
      w : Verdict
      w = verdict_of s plan p.done early

      go : (b : Bool) → eqb w.no 0 ≡ b → about w.no (cond b 0 w.block) ≡ w
      go true e = let z = eqb-true w.no 0 e in ap (λ (k : ℕ). about k 0) z ∙ names_none early z
      go false e = refl

  whole_plane : (len : ℕ) → Tells (is_whole s len) (BadPlane s len)
  whole_plane len = same len (s.frame.height * s.frame.width)

  tables : (t : Tables) → Tells (is_roomy t) (BadTables t)
  tables t = all_of (all_of (at-most 193 t.refs) (at-most 32 t.indices)) (at-most 32 t.fractions)

  pub walk : (t : Tables) (grant : ℕ) (source : List ℕ) (w : World)
      → ExactFirst done (verdict_in (stepped_by (walk_verdict s plan t p.done source w) plan p grant))
      ((about 1 0 when ¬ Depth s.bits) ∷ (about 4 0 when BadPicture (picture_of s.frame))
      ∷ (about 5 0 when Ragged plan or BadPlane s (length source) or BadPlane s (length w.work) or BadPlane s (length w.residuals)
      or BadTables t)
      ∷ (about 7 0 when Some 0 (λ v. largest_in s < v) source)
      ∷ last_rows s plan p)
  unfolding walk_verdict
  walk t grant source w =
      answer_exact _ grant _
      (first_row (depth s.bits)
      (λ e. first_row (picture (picture_of s.frame))
      (λ ok. first_row (all_of (all_of (all_of (all_of (ragged plan) (whole_plane (length source))) (whole_plane (length w.work)))
      (whole_plane (length w.residuals))) (tables t))
      (λ e. first_row (every_one 0 (λ v. at-most v (largest_in s)) source) (λ e. last_first ok)))))

  pub replay : (t : Tables) (grant : ℕ) (residuals : List ℤ) (plane : List ℕ)
      → ExactFirst done (verdict_in (stepped_by (replay_verdict s plan t p.done (length plane) residuals) plan p grant))
      ((about 1 0 when ¬ Depth s.bits) ∷ (about 4 0 when BadPicture (picture_of s.frame))
      ∷ (about 5 0 when Ragged plan or BadPlane s (length plane) or BadPlane s (length residuals) or BadTables t)
      ∷ residual_rows s plan p residuals)
  unfolding replay_verdict
  replay t grant residuals plane =
      answer_exact _ grant _
      (first_row (depth s.bits)
      (λ e. first_row (picture (picture_of s.frame))
      (λ ok. first_row (all_of (all_of (all_of (ragged plan) (whole_plane (length plane))) (whole_plane (length residuals))) (tables t))
      (λ e. residuals_first residuals ok))))
