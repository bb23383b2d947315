-- That the code's rule with its two limits is the chroma rule. It stands apart from specs/ since it rests on what `chroma_has` says.
use Rattle.std.specs.Prelude.{◌≡◌, refl, Bool, true, false, ◌&&◌, ◌||◌, ℕ, ◌+◌, ◌-◌, ◌*◌, ◌≤◌, ◌<◌, ltb, eqb}
use Rattle.std.proofs.Common.{sym, ap, ap₂, ◌∙◌, arith, lt-ltb, le-ltb, eq-eqb, ne_eqb}
use Rattle.std.proofs.Math.Decide.{dec_lt, ℕ_discrete}
use Rattle.h265.specs.Order.{min_tb_addr_zs}
use Rattle.domain.specs.Facts.{size_small}
use Rattle.fmt.specs.Fmt.{sub_width, sub_height}
use Rattle.order.specs.declared.ChromaBlock.{ChromaBlock}
use Rattle.order.specs.Answers.{Reached}
use Rattle.order.specs.declared.Shifts.{Shifts}
use Rattle.order.specs.declared.Site.{Site}
use Rattle.order.specs.Order.{number_at}
use Rattle.order.specs.Good.{shifts_of}
use Rattle.order.specs.Reach.{reach_by, chroma_height, chroma_width, chroma_has}
use Rattle.order.specs.Edges.{edges_of}
use Rattle.order.specs.Blocks.{TellsEach, reach_is, ChromaFine, chroma_site, chroma_over}

-- the chroma rule in a row above the block, and in one that is not
above_block : (nb cur r row : ℕ) → r < row → ltb nb (cur + 1) ≡ (ltb nb cur || eqb nb cur && ltb r row)
above_block nb cur r row h = rw (lt-ltb r row h) (go (dec_lt nb cur) (ℕ_discrete nb cur))
  where
    go : Dec (nb < cur) → Dec (nb ≡ cur) → ltb nb (cur + 1) ≡ (ltb nb cur || eqb nb cur && true)
    go (yes l) _ = simp (lt-ltb nb (cur + 1) (omega arith), lt-ltb nb cur l)
    go (no l) (yes e) = simp (lt-ltb nb (cur + 1) (omega arith), le-ltb nb cur (omega arith), eq-eqb nb cur e)
    go (no l) (no e) = simp (le-ltb nb (cur + 1) (omega arith), le-ltb nb cur (omega arith), ne_eqb nb cur e)

beside_block : (nb cur r row : ℕ) → row ≤ r → ltb nb cur ≡ (ltb nb cur || eqb nb cur && ltb r row)
beside_block nb cur r row h = rw (le-ltb r row h) (go (ltb nb cur) (eqb nb cur))
  where
    go : (a b : Bool) → a ≡ (a || b && false)
    go true b = refl
    go false true = refl
    go false false = refl

chroma_tells : (b : ChromaBlock)
    → let p = b.picture in
    let cur = number_at p b.cur_luma_row.0 b.cur_luma_col.0 in
    let nb : ℕ → ℕ → ℕ = λ r c. number_at p (r * sub_height b.format) (c * sub_width b.format) in
    TellsEach (chroma_has b) (chroma_height b) (chroma_width b) (λ r c. ltb (nb r c) cur || eqb (nb r c) cur && ltb r b.row.0)
unfolding chroma_has
chroma_tells b = record { inside = λ r c. refl; top = λ r c. refl; side = λ r c. refl }

-- the code's rule with its two limits is the chroma rule
pub chroma_edges : (b : ChromaBlock) → ChromaFine b → (s : Shifts) (e : Site) (cur : ℕ) (r : Reached) → s ≡ shifts_of b.picture → e
    ≡ chroma_site b
    → cur ≡ number_at b.picture b.cur_luma_row.0 b.cur_luma_col.0 → r ≡ edges_of s e b.n (cur + 1) cur
    → r ≡ reach_by 0 (chroma_has b) b.row.0 b.col.0 b.n
unfolding number_at min_tb_addr_zs
chroma_edges b f s e cur r es ee ec er =
    let p = b.picture in
    let k = number_at p b.cur_luma_row.0 b.cur_luma_col.0 in
    let nb : ℕ → ℕ → ℕ = λ y x. number_at p (y * sub_height b.format) (x * sub_width b.format) in
    let some = size_small b.n f.size in
    er
    ∙ ap (λ (j : ℕ). edges_of s e b.n (j + 1) j) ec
    ∙ ap₂ (λ (t : Shifts) (m : Site). edges_of t m b.n (k + 1) k) es ee
    ∙ reach_is (chroma_tells b) (shifts_of p) (chroma_site b) b.row.0 b.col.0 (omega (arith, f.placed.row_in))
    (omega (arith, f.placed.col_in)) (chroma_over b f) b.n (k + 1) k
    (λ c h. sym (above_block (nb (b.row.0 - 1) c) k (b.row.0 - 1) b.row.0 (omega arith)))
    (λ y h. sym (beside_block (nb y (b.col.0 - 1)) k y b.row.0 h))
