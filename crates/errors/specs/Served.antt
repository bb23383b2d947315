-- What a pair that is counted rests on: the numbers of its report, its planes and its plan, as facts. Rests on what a verdict tells.
use Rattle.std.specs.Prelude.{◌≡◌, refl, Bool, true, false, cond, ◌&&◌, List, [], ◌∷◌, ℕ, suc, ◌+◌, ◌-◌, ◌*◌, ◌^◌, ◌≤◌, ◌<◌, ltb, eqb, length, get_or, set}
use Rattle.std.proofs.Common.{sym, ap, ap₂, ◌∙◌, arith, mul-le-mul_right, mul-le-mul, ltb-true, eqb-true, eq-eqb}
use Rattle.std.proofs.lemmas.Bool.{eqb-false}
use Rattle.laws.specs.Choose.{◌unless◌, first_fail, served, worked, unserved, passed, both_true, both_same}
use Rattle.laws.specs.Every.{most_at}
use Rattle.domain.specs.Domain.{depth_ok}
use Rattle.domain.specs.Facts.{Depth, Size, depth_of, at_depth, size_small}
use Rattle.order.specs.Order.{picture_ok}
use Rattle.order.specs.Good.{Good}
use Rattle.fmt.specs.depth.Depth.{largest_of}
use Rattle.fmt.specs.depth.Laws.{largest_of_is}
use Rattle.plan.specs.declared.tiling.Block.{Block}
use Rattle.plan.specs.Answers.{Verdict}
use Rattle.plan.specs.tiling.Tiling.{picture_of, Placed}
use Rattle.plan.specs.tiling.Plan.{Plan}
use Rattle.plan.specs.tiling.PlanCheck.{plan_verdict}
use Rattle.plan.specs.tiling.Verdict.{Accepted, verdict_good}
use Rattle.errors.specs.declared.Report.{Report}
use Rattle.errors.specs.Errors.{Tally, tallied, counted_by}
use Rattle.errors.specs.Errors.{plane_area, top_of, at_most, keeps_limits, room_for_pair, pair_no, settle_full, pair_verdict}

-- samples of a depth
abbrev pub SamplesLow : List ℕ → Type 0
SamplesLow l = (i : ℕ) → get_or l i 0 ≤ 4095

-- a block that lies in a plane of so many samples
pub record BlockWithin (width : ℕ) (t : Block) (entries : ℕ) : Type 0 where
  pub size : Size t.side
  pub across : t.col + t.side ≤ width
  pub narrow : width ≤ 4096
  pub down : t.row + t.side ≤ 4096
  pub inside : (t.row + t.side) * width ≤ entries

-- a block of a pair of planes: it lies in both, and their samples are of a depth
pub record BlockPair (a b : List ℕ) (width : ℕ) (t : Block) : Type 0 where
  pub in_a : BlockWithin width t (length a)
  pub in_b : BlockWithin width t (length b)
  pub low_a : SamplesLow a
  pub low_b : SamplesLow b

-- more for the mode of a block
abbrev pub under_mode : Block → List ℕ → ℕ → List ℕ
under_mode t l more = set l t.mode (get_or l t.mode 0 + more)

-- figures that have room for a block and its squares
pub record RoomFor (blocks samples squares : List ℕ) (t : Block) (more : ℕ) : Type 0 where
  pub mode : t.mode < 35
  pub side : t.side ≤ 32
  pub for_block : get_or blocks t.mode 0 + 1 < 18446744073709551616
  pub for_samples : get_or samples t.mode 0 + t.side * t.side < 18446744073709551616
  pub for_squares : get_or squares t.mode 0 + more < 18446744073709551616

-- a row of a block lies in the plane too
pub row_within : {width : ℕ} {t : Block} {entries : ℕ} → BlockWithin width t entries → (r : ℕ) → r < t.side
    → ((t.row + r) * width ≤ 16777216) × ((t.row + r) * width + t.col + t.side ≤ entries)
row_within {width} {t} {entries} w r h =
    let a = mul-le-mul_right width (let l : suc (t.row + r) ≤ t.row + t.side = omega arith in l) in
    let b = mul-le-mul (let l : t.row + r ≤ 4096 = omega (arith, w.down) in l) w.narrow in
    (omega (arith, b), omega (arith, a, w.inside, w.across))

pub side_small : {a b : List ℕ} {width : ℕ} {t : Block} → BlockPair a b width t → t.side ≤ 32
side_small {t = t} p = (size_small t.side p.in_a.size).1

-- a report has figures of 35 modes
abbrev pub Figured : Report → Type 0
Figured r = (length r.blocks ≡ 35) × ((length r.samples ≡ 35) × (length r.squares ≡ 35))

-- a report whose limits can be worked out
pub record Limitable (r : Report) : Type 0 where
  pub depth : Depth r.bits
  pub picture : Good (picture_of r.frame)
  pub few : r.pairs ≤ 65536

-- a pair that is counted
pub record Countable (r : Report) (fit : Bool) (a b : List ℕ) (plan : Plan) : Type 0 where
  pub depth : Depth r.bits
  pub accepted : Accepted r.frame plan.block plan.count
  pub fits : fit ≡ true
  pub low_a : (i : ℕ) → get_or a i 0 ≤ top_of r
  pub low_b : (i : ℕ) → get_or b i 0 ≤ top_of r
  pub few : r.pairs < 65536
  pub limits : keeps_limits r ≡ true

pub top_most : (r : Report) → Depth r.bits → top_of r ≤ 4095
top_most r d = at_depth (λ (k : ℕ). 2 ^ k - 1 ≤ 4095) (omega arith) (omega arith) (omega arith) r.bits d

-- number 0 of 1, 4, 5, 7
pub record Opened (r : Report) (fit ok : Bool) : Type 0 where
  pub depth : Depth r.bits
  pub picture : picture_ok (picture_of r.frame) ≡ true
  pub fits : fit ≡ true
  pub fine : ok ≡ true

pub opened : (r : Report) (fit ok : Bool) → pair_no r fit ok ≡ 0 → Opened r fit ok
unfolding pair_no
opened r fit ok e =
    let a = passed (depth_ok r.bits) _ 1 (omega arith) e in
    let b = passed (picture_ok (picture_of r.frame)) _ 4 (omega arith) a.1 in
    let c = passed fit _ 5 (omega arith) b.1 in
    let d = passed ok 0 7 (omega arith) c.1 in
    record { depth = depth_of r.bits a.0; picture = b.0; fits = c.0; fine = d.0 }

-- number 0 of the whole
pub settled_zero : (early : ℕ) (found : Verdict) (room : Bool) → (settle_full early found room).no ≡ 0
    → (early ≡ 0) × ((found.no ≡ 0) × (room ≡ true))
unfolding settle_full
settled_zero early found room = go (eqb early 0) (eqb found.no 0) room refl refl
  where
    go : (a b c : Bool) → eqb early 0 ≡ a → eqb found.no 0 ≡ b
        → (cond a (cond b (record { no = cond c 0 15; block = 0 }) found) (record { no = early; block = 0 })).no ≡ 0
        → (early ≡ 0) × ((found.no ≡ 0) × (c ≡ true))
    go true true true x y e = (eqb-true early 0 x, (eqb-true found.no 0 y, refl))
    go true true false x y e = absurd (omega arith)
    go true false c x y e = absurd (eqb-false found.no 0 y e)
    go false b c x y e = absurd (eqb-false early 0 x e)

pub countable : (r : Report) (fit : Bool) (a b : List ℕ) (plan : Plan) → (pair_verdict r fit a b plan).no ≡ 0 → Countable r fit a b plan
countable r fit a b plan e =
    let s = settled_zero _ (plan_verdict r.frame plan) (room_for_pair r) e in
    let o = opened r (plan.whole && fit) (at_most (top_of r) a && at_most (top_of r) b) s.0 in
    let ok = both_true (at_most (top_of r) a) (at_most (top_of r) b) o.fine in
    let room = both_true (ltb r.pairs 65536) (keeps_limits r) s.1.1 in
    record {
      depth = o.depth;
      accepted = (verdict_good r.frame plan s.1.0).1;
      fits = (both_true plan.whole fit o.fits).1;
      low_a = most_at (top_of r) a ok.0;
      low_b = most_at (top_of r) b ok.1;
      few = ltb-true r.pairs 65536 room.0;
      limits = room.1;
    }

-- the number by a test of the samples against the figure of the depth: where the depth is none, that test is not looked at
abbrev four_checks : Bool → Bool → Bool → Bool → ℕ
four_checks a b c d = first_fail ((1 unless a) ∷ (4 unless b) ∷ (5 unless c) ∷ (7 unless d) ∷ [])

unlooked : (a b c x y : Bool) → (a ≡ true → x ≡ y) → four_checks a b c x ≡ four_checks a b c y
unlooked true b c x y h = ap (λ (d : Bool). four_checks true b c d) (h refl)
unlooked false b c x y h = refl

pub by_top : (r : Report) (fit : Bool) (a b : List ℕ) {x y : Bool} {largest : ℕ} → largest ≡ largest_of r.bits
    → x ≡ at_most largest a → y ≡ at_most largest b → pair_no r fit (x && y) ≡ pair_no r fit (at_most (top_of r) a && at_most (top_of r) b)
unfolding pair_no
by_top r fit a b {x} {y} {largest} is e q =
    unlooked (depth_ok r.bits) (picture_ok (picture_of r.frame)) fit (x && y) (at_most (top_of r) a && at_most (top_of r) b)
    (λ d. let t = is ∙ largest_of_is r.bits (depth_of r.bits d) in
    both_same (e ∙ ap (λ (m : ℕ). at_most m a) t) (q ∙ ap (λ (m : ℕ). at_most m b) t))

-- the two ways of a call
pub counted_not : (r : Report) (v : Verdict) (t : Tally) {w : Verdict} → w ≡ v → (w.no ≡ 0 → ⊥)
    → record { no = w.no; block = w.block; next = r } ≡ counted_by r v t
unfolding counted_by
counted_not r v t {w} e d =
    ap (λ (u : Verdict). record { no = u.no; block = u.block; next = r }) e
    ∙ ap (λ (x : Report). record { no = v.no; block = v.block; next = x })
    (unserved v.no (tallied r t) r (λ z. d (ap (λ (u : Verdict). u.no) e ∙ z)))

pub counted_so : (r : Report) (v : Verdict) (t : Tally) {w : Verdict} → w ≡ v → w.no ≡ 0 → v.block ≡ 0 → {x : Report} → x ≡ tallied r t
    → record { no = 0; block = 0; next = x } ≡ counted_by r v t
unfolding counted_by
counted_so r v t {w} e z b {x} is =
    let n = sym (ap (λ (u : Verdict). u.no) e) ∙ z in
    ap (λ (y : Report). record { no = 0; block = 0; next = y }) (is ∙ worked v.no (tallied r t) r n)
    ∙ ap₂ (λ (k m : ℕ). record { no = k; block = m; next = served v.no (tallied r t) r }) (sym n) (sym b)

-- a counted pair is about no block
no_block : (early : ℕ) (found : Verdict) (room : Bool) → (settle_full early found room).no ≡ 0 → (settle_full early found room).block ≡ 0
unfolding settle_full
no_block early found room e =
    let z = settled_zero early found room e in rw (eq-eqb early 0 z.0, eq-eqb found.no 0 z.1.0) refl

pub counted_block : (r : Report) (fit : Bool) (a b : List ℕ) (plan : Plan) → (pair_verdict r fit a b plan).no ≡ 0
    → (pair_verdict r fit a b plan).block ≡ 0
counted_block r fit a b plan e = no_block _ (plan_verdict r.frame plan) (room_for_pair r) e

-- the samples of a counted pair, and where its blocks lie
module _ {r : Report} {fit : Bool} {a b : List ℕ} {plan : Plan} (c : Countable r fit a b plan) where
  a_low : SamplesLow a
  a_low i = omega (arith, c.low_a i, top_most r c.depth)

  b_low : SamplesLow b
  b_low i = omega (arith, c.low_b i, top_most r c.depth)

  block_within : (k : ℕ) (t : Block) → t ≡ plan.block k → k < plan.count → {entries : ℕ} → entries ≡ plane_area r
      → BlockWithin r.frame.width t entries
  block_within k t e l {entries} q = rw e (go (plan.block k) (c.accepted.plan_good.placed k l))
    where
      go : (u : Block) → Placed r.frame u → BlockWithin r.frame.width u entries
      go u p =
          let g = c.accepted.picture in
          let m = mul-le-mul_right r.frame.width p.row_in in
          record {
            size = p.size;
            across = p.col_in;
            narrow = g.wide.high;
            down = omega (arith, p.row_in, g.tall.high);
            inside = omega (arith, m, q);
          }

  pub pair_of : (k : ℕ) (t : Block) → t ≡ plan.block k → k < plan.count → length a ≡ plane_area r → length b ≡ plane_area r
      → BlockPair a b r.frame.width t
  pair_of k t e l p q = record { in_a = block_within k t e l p; in_b = block_within k t e l q; low_a = a_low; low_b = b_low }

  -- the mode and the side of a block
  pub block_figures : (k : ℕ) (t : Block) → t ≡ plan.block k → k < plan.count → (t.mode < 35) × (t.side ≤ 32)
  block_figures k t e l =
      let m = ap (λ (u : Block). u.mode) e in
      let s = ap (λ (u : Block). u.side) e in (
        omega (arith, m, c.accepted.modes k l),
        omega (arith, s, size_small (plan.block k).side (c.accepted.plan_good.placed k l).size),
      )
