-- No sample that is not there is read: two planes that agree on the neighbours that are there, the corner and entries 0 to 2n of both rows,
-- give the same rows, whatever the samples are. Assumes nothing.
use Rattle.std.specs.Prelude.{◌≡◌, refl, Bool, true, false, cond, List, ℕ, zero, suc, ◌+◌, ◌-◌, ◌*◌, ℤ, pos, ◌-ℤ◌, replicate}
use Rattle.std.proofs.Common.{sym, ◌∙◌, inl, inr, arith}
use Rattle.std.proofs.Math.Path.{ap}
use Rattle.std.proofs.lemmas.Bool.{false≢true}
use Rattle.laws.specs.FillLaws.{fill_same}
use Rattle.h265.specs.Locality.{Beside}
use Rattle.order.specs.Reach.{luma_has, chroma_has, chroma_width}
use Rattle.refs.specs.declared.LumaRefGeometry.{LumaRefGeometry}
use Rattle.refs.specs.declared.ChromaRefGeometry.{ChromaRefGeometry}
use Rattle.refs.specs.substitution.Substitution.{substituted}
use Rattle.refs.specs.Gather.{flags_by, samples_by, gathered_by, sample_of}
use Rattle.refs.specs.substitution.Door.{neutral_at}
use Rattle.refs.specs.Door.{luma_block, luma_rows, chroma_block, chroma_rows}
use Rattle.refs.specs.Rules.{Bounded, Near, back, at_place, luma_off, chroma_off}

same_where : (b : Bool) (x y : ℕ) → (b ≡ true → x ≡ y) → cond b x 0 ≡ cond b y 0
same_where true x y h = h refl
same_where false x y h = refl

-- two samplings agree at each neighbour of the block of side n at (row, col) that the rule says is there, entries 0 to 2n
abbrev pub AgreeBeside : (ℤ → ℤ → Bool) → ℕ → ℕ → ℕ → (ℕ → ℕ → ℕ) → (ℕ → ℕ → ℕ) → Type 0
AgreeBeside has row col n s t = (r c : ℕ) → Beside (2 * n + 1) col row c r → has (pos r) (pos c) ≡ true → s r c ≡ t r c

-- nothing is there before the first row, nor before the first column
module _ {has : ℤ → ℤ → Bool} (off : Bounded has) where
  not_first_row : (row : ℕ) (w : ℤ) → has (pos row -ℤ pos 1) w ≡ true → row - 1 + 1 ≡ row
  not_first_row zero w e = absurd (false≢true (sym (off.top 0 w) ∙ e))
  not_first_row (suc row) w e = omega arith

  not_first_col : (col : ℕ) (z : ℤ) → has z (pos col -ℤ pos 1) ≡ true → col - 1 + 1 ≡ col
  not_first_col zero z e = absurd (false≢true (sym (off.side z 0) ∙ e))
  not_first_col (suc col) z e = omega arith

module _ {has : ℤ → ℤ → Bool} (off : Bounded has) (s t : ℕ → ℕ → ℕ) (row col n : ℕ) (agree : AgreeBeside has row col n s t) where
  same_at : (z w : ℤ) (r c : ℕ) → Near z r → Near w c → (has z w ≡ true → Beside (2 * n + 1) col row c r)
      → cond (has z w) (s r c) 0 ≡ cond (has z w) (t r c) 0
  same_at z w r c p q near = same_where (has z w) (s r c) (t r c) (λ e. agree r c (near e) (at_place off z w r c p q e))

  same_samples : samples_by has s row col n ≡ samples_by has t row col n
  same_samples =
      λ i.
      record {
        corner =
            same_at (pos row -ℤ pos 1) (pos col -ℤ pos 1) (row - 1) (col - 1) (back row) (back col)
            (λ e.
            let h = not_first_row off row (pos col -ℤ pos 1) e in
            inl (not_first_col off col (pos row -ℤ pos 1) e, omega arith, omega arith))
            i;
        above =
            fill_same _ _ (2 * n + 1) (replicate 65 0)
            (λ j l.
            same_at (pos row -ℤ pos 1) (pos (col + j)) (row - 1) (col + j) (back row) (inl refl)
            (λ e. inr (not_first_row off row (pos (col + j)) e, omega arith, omega arith)))
            i;
        left =
            fill_same _ _ (2 * n + 1) (replicate 65 0)
            (λ j l.
            same_at (pos (row + j)) (pos col -ℤ pos 1) (row + j) (col - 1) (inl refl) (back col)
            (λ e. inl (not_first_col off col (pos (row + j)) e, omega arith, omega arith)))
            i;
      }

  pub unread : (neutral : ℕ) → gathered_by has s row col n neutral ≡ gathered_by has t row col n neutral
  unfolding gathered_by
  unread neutral = ap (substituted n neutral (flags_by has row col n)) same_samples

-- so for luma, and for each plane of chroma
pub luma_unread : (g : LumaRefGeometry) (p q : List ℕ) → let w = g.picture.width in
    AgreeBeside (luma_has (luma_block g)) g.block_row.0 g.block_col.0 g.n (sample_of p w) (sample_of q w)
    → luma_rows p g ≡ luma_rows q g
unfolding luma_rows
luma_unread g p q agree =
    let w = g.picture.width in
    unread (luma_off (luma_block g)) (sample_of p w) (sample_of q w) g.block_row.0 g.block_col.0 g.n agree (neutral_at g.bits)

pub chroma_unread : (g : ChromaRefGeometry) (p q : List ℕ) → let w = chroma_width (chroma_block g) in
    AgreeBeside (chroma_has (chroma_block g)) g.block_row.0 g.block_col.0 g.n (sample_of p w) (sample_of q w)
    → chroma_rows p g ≡ chroma_rows q g
unfolding chroma_rows
chroma_unread g p q agree =
    let w = chroma_width (chroma_block g) in
    unread (chroma_off (chroma_block g)) (sample_of p w) (sample_of q w) g.block_row.0 g.block_col.0 g.n agree
    (neutral_at g.bits)
