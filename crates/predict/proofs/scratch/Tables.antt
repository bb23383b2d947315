-- The three tables of a scratch, lent out of a `&mut AngularScratch` for one call, and taken back. Of use to any walk by hand whose function holds such a reference.
--     apart     a scratch at (b, o)  ⊢  each table is as long as its type says, and its elements lie at its offset; and the way back
--     whole     three lists of those lengths that lie at those offsets, with the way back  ⊢  the scratch of these lists at (b, o)
--     lend      the `&mut` and a share of its lifetime's token  ⊢ ⇛ for some loan: its tokens, the tables as three `&mut` slices, and what is kept
--     regain    the tokens, the slices' last lists and what was kept  ⊢ ⇛ the `&mut` at the scratch of these lists, and the share of the token
-- Assumes `Logic`.
use mathlib.Core.Path.{◌≡◌, refl, sym, subst}
use Prim.Native.Nat.{ℕ, ◌+◌}
use native.Mathlib.Omega.{arith}
use mathlib.Core.List.{List, [], ◌∷◌}
use lib.ListN.{length}
use seplogic.Ra.Ura.{Ura}
use base.Fraction.{full_share}
use mir.Syntax.{named, Lifetime}
use mir.Val.{Val, vptr}
use base.Logic.{SProp, ent, sep, wand, all_e, apply∗}
use base.Fml.{Fml, Lft, Share, GName, flft, fobs, fauth, fobor, flent}
use types.Logic.{Logic, sem}
use types.Kit.{Item, ‵, raw, given, some, later, ◌⊛◌, mean, ◌$◌, ◌∵◌, !, qed, move, keep, drop, group, use1, use2, use3, split, pick, learn, check, rewrite, fsplit, fsplit3, fjoin, fjoin3, feq_l, feq_i, frame, await, updating, now as at_once, show, done}
use types.Mut.{open_ref, close_ref}
use types.SemTy.{Body, Arr, cells}
use types.Share.{arr_parts}
use types.Tokens.{lft_new, lft_end}
use denote.RattleType.{RattleType, Denots}
use denote.Memory.{lone, mem, shares, part_at, part_of}
use denote.Array.{Array}
use denote.ArrayMemory.{Single, Array-apart, Array-whole}
use denote.Builtin.{u16, u32}
use denote.Index.{whole_out, whole_in, row}
use denote.Lend.{Held, lends_slice, slice_back}
use denote.Ref.{MutBor, MutRef}
use denote.Slice.{slice_val, MutSlice, Room, finally}
use denote.Steps.{nothing}
use denote.Struct.Laws as LL
use denote.Struct.Recorded.{Recorded-part}
use denote.Struct.Struct.{Struct}
use denote.Struct.Members.{Member, rows_of, parts_at}
use denote.Struct.Parts.{shape_of, PartsBack, Struct-parts}
use Rattle.predict.specs.declared.scratch.AngularScratch.{AngularScratch}
use Rattle.predict.specs.contracts.scratch.AngularScratch as T
use Rattle.predict.proofs.scratch.AngularScratch.TheLaws as T'

abbrev table : RattleType → ℕ → Member
table R n = record { row = Array R n; ty = lone (Array R n).mir }

abbrev members : List Member
members = table u16 193 ∷ table u32 32 ∷ table u32 32 ∷ []

-- the lengths that the struct's type says
abbrev pub Long : List ℕ → List ℕ → List ℕ → Type 0
Long xs ys zs = (length xs ≡ 193) × ((length ys ≡ 32) × (length zs ≡ 32))

abbrev pub made : List ℕ → List ℕ → List ℕ → AngularScratch
made xs ys zs = record { refs = xs; indices = ys; fractions = zs }

-- a scratch lies in memory as its three tables do, one after the other
as_struct : (h : AngularScratch) (b o : ℕ) → part_at T.the_row full_share h b o
    ≡ part_at (Struct (shape_of (T.the_type).name members)) full_share ((T.the_type).to h) b o
as_struct h b o = Recorded-part (Struct (shape_of (T.the_type).name members)) AngularScratch (T.the_type).to (T.the_type).to_one full_share h b o

-- one array: its elements, and their number
module _ {M : Type 1} {𝓤 : Ura M} (𝓛 : Logic 𝓤) (R : RattleType) (b n p : ℕ) (xs : List R.Denot) where
  out : Single R.mir → ent 𝓤 (sem 𝓛 (part_at (Array R n) full_share xs b p)) (mean 𝓛 (given (length xs ≡ n) (‵ (cells (mem R) xs b p))))
  out s =
      qed 𝓛 (‵ (part_at (Array R n) full_share xs b p) ∷ []) ∵ use1 𝓛 (‵ ((arr_parts (shares R) n).part full_share xs b p)) (Array-apart 𝓛 R full_share s n xs b p) $ fsplit ! $ feq_l ! (λ e.
      use1 𝓛 (‵ (cells (mem R) xs b p)) (whole_in 𝓛 R xs b p) $ check ! e $ done !)

  back : length xs ≡ n → ent 𝓤 (sem 𝓛 (cells (mem R) xs b p)) (sem 𝓛 (part_at (Array R n) full_share xs b p))
  back e =
      qed 𝓛 (‵ (cells (mem R) xs b p) ∷ []) ∵ use1 𝓛 (‵ (row R full_share xs b p)) (whole_out 𝓛 R xs b p) $ feq_i ! ℕ (length xs) n e $ fjoin ! $
      use1 𝓛 (‵ (part_at (Array R n) full_share xs b p)) (Array-whole 𝓛 R full_share n xs b p) $ done !

module _ {M : Type 1} {𝓤 : Ura M} (𝓛 : Logic 𝓤) (b o : ℕ) where
  abbrev Back : SProp 𝓤
  Back = PartsBack 𝓛 full_share (T.the_type).name members b o

  abbrev Lie : List ℕ → List ℕ → List ℕ → Item 𝓤
  Lie xs ys zs = ‵ (cells (mem u16) xs b (o + 0)) ⊛ (‵ (cells (mem u32) ys b (o + 388)) ⊛ (‵ (cells (mem u32) zs b (o + 516)) ⊛ raw Back))

  abbrev Parts : List ℕ → List ℕ → List ℕ → SProp 𝓤
  Parts xs ys zs = sem 𝓛 (parts_at full_share members 0 (xs, (ys, (zs, tt))) b o)

module _ {M : Type 1} {𝓤 : Ura M} (𝓛 : Logic 𝓤) (b o : ℕ) where
  parts_of : (h : AngularScratch) → ent 𝓤 (sem 𝓛 (part_at T.the_row full_share h b o)) (sep 𝓤 (Parts 𝓛 b o h.refs h.indices h.fractions) (Back 𝓛 b o))
  unfolding part_of
  parts_of h =
      subst (λ (X : Fml). ent 𝓤 (sem 𝓛 X) (sep 𝓤 (Parts 𝓛 b o h.refs h.indices h.fractions) (Back 𝓛 b o))) (sym (as_struct h b o))
      (Struct-parts 𝓛 full_share (T.the_type).name members (LL.lawfuls 𝓛 (T.the_type).parts T'.the_laws) ((T.the_type).to h) b o)

  of_parts : (xs ys zs : List ℕ) → ent 𝓤 (sep 𝓤 (Parts 𝓛 b o xs ys zs) (Back 𝓛 b o)) (sem 𝓛 (part_at T.the_row full_share (made xs ys zs) b o))
  unfolding part_of
  of_parts xs ys zs =
      subst (λ (X : Fml). ent 𝓤 (sep 𝓤 (Parts 𝓛 b o xs ys zs) (Back 𝓛 b o)) (sem 𝓛 X)) (sym (as_struct (made xs ys zs) b o))
      (qed 𝓛 (raw (Parts 𝓛 b o xs ys zs) ∷ raw (Back 𝓛 b o) ∷ []) ∵ move ! (1 ∷ []) $
      use1 𝓛 (raw (wand 𝓤 (Parts 𝓛 b o xs ys zs) (sem 𝓛 (part_at (Struct (shape_of (T.the_type).name members)) full_share (xs, (ys, (zs, tt))) b o))))
      (all_e 𝓤 (λ (a : Denots (rows_of members)). wand 𝓤 (sem 𝓛 (parts_at full_share members 0 a b o)) (sem 𝓛 (part_at (Struct (shape_of (T.the_type).name members)) full_share a b o))) (xs, (ys, (zs, tt)))) $ move ! (1 ∷ 0 ∷ []) $
      use2 𝓛 (‵ (part_at (Struct (shape_of (T.the_type).name members)) full_share (xs, (ys, (zs, tt))) b o))
      (apply∗ 𝓤 (Parts 𝓛 b o xs ys zs) (sem 𝓛 (part_at (Struct (shape_of (T.the_type).name members)) full_share (xs, (ys, (zs, tt))) b o))) $ done !)

  apart : (h : AngularScratch) → ent 𝓤 (sem 𝓛 (part_at T.the_row full_share h b o)) (mean 𝓛 (given (Long h.refs h.indices h.fractions) (Lie 𝓛 b o h.refs h.indices h.fractions)))
  apart h =
      qed 𝓛 (‵ (part_at T.the_row full_share h b o) ∷ []) ∵ use1 𝓛 (‵ (parts_at full_share members 0 (h.refs, (h.indices, (h.fractions, tt))) b o) ⊛ raw (Back 𝓛 b o)) (parts_of h) $ split ! $ fsplit ! $
      use1 𝓛 (given (length h.refs ≡ 193) (‵ (cells (mem u16) h.refs b (o + 0)))) (out 𝓛 u16 b 193 (o + 0) h.refs tt) $ learn ! (λ e₁. move ! (1 ∷ []) $ fsplit ! $
      use1 𝓛 (given (length h.indices ≡ 32) (‵ (cells (mem u32) h.indices b (o + 388)))) (out 𝓛 u32 b 32 (o + 388) h.indices tt) $ learn ! (λ e₂. move ! (1 ∷ []) $ fsplit ! $
      use1 𝓛 (given (length h.fractions ≡ 32) (‵ (cells (mem u32) h.fractions b (o + 516)))) (out 𝓛 u32 b 32 (o + 516) h.fractions tt) $ learn ! (λ e₃.
      -- [fractions; true; indices; refs; the way back]
      check ! (e₁, (e₂, e₃)) $ keep ! (3 ∷ 2 ∷ 0 ∷ 4 ∷ []) $ frame ! $ frame ! $ frame ! $ done !)))

  whole : (xs ys zs : List ℕ) → Long xs ys zs → ent 𝓤 (mean 𝓛 (Lie 𝓛 b o xs ys zs)) (sem 𝓛 (part_at T.the_row full_share (made xs ys zs) b o))
  whole xs ys zs e =
      qed 𝓛 (Lie 𝓛 b o xs ys zs ∷ []) ∵ split ! $ use1 𝓛 (‵ (part_at (Array u16 193) full_share xs b (o + 0))) (back 𝓛 u16 b 193 (o + 0) xs e.0) $ move ! (1 ∷ []) $ split ! $
      use1 𝓛 (‵ (part_at (Array u32 32) full_share ys b (o + 388))) (back 𝓛 u32 b 32 (o + 388) ys e.1.0) $ move ! (1 ∷ []) $ split ! $
      use1 𝓛 (‵ (part_at (Array u32 32) full_share zs b (o + 516))) (back 𝓛 u32 b 32 (o + 516) zs e.1.1) $
      -- [fractions; the way back; indices; refs]
      nothing ! $ move ! (1 ∷ 0 ∷ []) $ fjoin ! $ move ! (2 ∷ 0 ∷ []) $ fjoin ! $ move ! (2 ∷ 0 ∷ []) $ fjoin ! $
      use2 𝓛 (‵ (part_at T.the_row full_share (made xs ys zs) b o)) (of_parts xs ys zs) $ done !

-- a loan: a lifetime and a name for each table
pub record Loan : Type 0 where
  pub life₁ : ℕ
  pub life₂ : ℕ
  pub life₃ : ℕ
  pub name₁ : GName
  pub name₂ : GName
  pub name₃ : GName

refs_room : (xs : List ℕ) → length xs ≡ 193 → Room u16 (length xs)
refs_room xs e = (omega (arith, e), omega (arith, e))

table_room : (xs : List ℕ) → length xs ≡ 32 → Room u32 (length xs)
table_room xs e = (omega (arith, e), omega (arith, e))

-- a table as a slice: the list xs at (b, p), under the name δ
abbrev pub table_at : ℕ → ℕ → GName → List ℕ → MutBor (List ℕ)
table_at b p δ xs = record { ref_ptr = (b, p); ghost_name = δ; now = xs }

module _ {M : Type 1} {𝓤 : Ura M} (𝓛 : Logic 𝓤) (b o : ℕ) where
  -- the tokens of a loan
  abbrev pub Tokens : Loan → Item 𝓤
  Tokens l = ‵ (flft (l.life₁ ∷ []) full_share) ⊛ (‵ (flft (l.life₂ ∷ []) full_share) ⊛ ‵ (flft (l.life₃ ∷ []) full_share))

  -- the tables of h, lent
  abbrev pub Lent : Loan → AngularScratch → Item 𝓤
  Lent l h = ‵ ((MutSlice (named 0) (l.life₁ ∷ []) u16).own_val (table_at b (o + 0) l.name₁ h.refs) (slice_val (b, o + 0) 193 ∷ []))
      ⊛ (‵ ((MutSlice (named 1) (l.life₂ ∷ []) u32).own_val (table_at b (o + 388) l.name₂ h.indices) (slice_val (b, o + 388) 32 ∷ []))
      ⊛ ‵ ((MutSlice (named 2) (l.life₃ ∷ []) u32).own_val (table_at b (o + 516) l.name₃ h.fractions) (slice_val (b, o + 516) 32 ∷ [])))

  -- the last lists of the tables
  abbrev pub Lasts : Loan → AngularScratch → Item 𝓤
  Lasts l h = ‵ (finally u16 l.name₁ h.refs) ⊛ (‵ (finally u32 l.name₂ h.indices) ⊛ ‵ (finally u32 l.name₃ h.fractions))

  -- what the holder of the reference, of name γ, keeps meanwhile
  abbrev pub Kept : Lft → Share → GName → Loan → AngularScratch → Item 𝓤
  Kept κ q γ l h = (‵ (flent (l.life₁ ∷ []) (Held u16 193 b (o + 0) l.name₁)) ⊛ (‵ (flent (l.life₂ ∷ []) (Held u32 32 b (o + 388) l.name₂)) ⊛ ‵ (flent (l.life₃ ∷ []) (Held u32 32 b (o + 516) l.name₃))))
      ⊛ (raw (Back 𝓛 b o) ⊛ (‵ (fobor κ q (Body (mem T.the_row) b o γ)) ⊛ (‵ (fobs γ ((T.the_row).coded.code h)) ⊛ ‵ (fauth γ ((T.the_row).coded.code h)))))

  -- the reference itself
  abbrev pub Holds : Lifetime → Lft → GName → AngularScratch → Item 𝓤
  Holds ℓ κ γ h = ‵ ((MutRef ℓ κ T.the_row).own_val (record { ref_ptr = (b, o); ghost_name = γ; now = h }) (vptr b o ∷ []))

module _ {M : Type 1} {𝓤 : Ura M} (𝓛 : Logic 𝓤) (b o : ℕ) (ℓ : Lifetime) (κ : Lft) (q : Share) (γ : GName) where
  pub lend : (h : AngularScratch) → ent 𝓤 (mean 𝓛 (Holds 𝓛 b o ℓ κ γ h ⊛ ‵ (flft κ q)))
      (mean 𝓛 (later (some (λ (l : Loan). given (Long h.refs h.indices h.fractions) (Tokens 𝓛 b o l ⊛ (Lent 𝓛 b o l h ⊛ Kept 𝓛 b o κ q γ l h))))))
  lend h =
      qed 𝓛 ((Holds 𝓛 b o ℓ κ γ h ⊛ ‵ (flft κ q)) ∷ []) ∵ updating ! $ split ! $ fsplit3 ! $ drop ! $ open_ref ! tt (mem T.the_row) {x = h} {b = b} {o = o} $
      use1 𝓛 (given (Long h.refs h.indices h.fractions) (Lie 𝓛 b o h.refs h.indices h.fractions)) (apart 𝓛 b o h) $ learn ! (λ long.
      split ! $ move ! (1 ∷ []) $ split ! $ move ! (1 ∷ []) $ split ! $
      -- [fractions; the way back; indices; refs; the open borrow; obs; auth]
      lft_new ! tt (λ α₁. lft_new ! tt (λ α₂. lft_new ! tt (λ α₃. move ! (6 ∷ []) $
      use1 𝓛 (later (some (λ (δ : GName). ‵ ((MutSlice (named 0) (α₁ ∷ []) u16).own_val (table_at b (o + 0) δ h.refs) (slice_val (b, o + 0) (length h.refs) ∷ [])) ⊛ ‵ (flent (α₁ ∷ []) (Held u16 (length h.refs) b (o + 0) δ)))))
      (lends_slice 𝓛 u16 (named 0) (α₁ ∷ []) h.refs b (o + 0) (refs_room h.refs long.0)) $ await ! tt $ pick ! (λ δ₁. split ! $
      rewrite ! 0 (λ (m : ℕ). ‵ ((MutSlice (named 0) (α₁ ∷ []) u16).own_val (table_at b (o + 0) δ₁ h.refs) (slice_val (b, o + 0) m ∷ []))) long.0 refl $
      rewrite ! 1 (λ (m : ℕ). ‵ (flent (α₁ ∷ []) (Held u16 m b (o + 0) δ₁))) long.0 refl $ move ! (7 ∷ []) $
      use1 𝓛 (later (some (λ (δ : GName). ‵ ((MutSlice (named 1) (α₂ ∷ []) u32).own_val (table_at b (o + 388) δ h.indices) (slice_val (b, o + 388) (length h.indices) ∷ [])) ⊛ ‵ (flent (α₂ ∷ []) (Held u32 (length h.indices) b (o + 388) δ)))))
      (lends_slice 𝓛 u32 (named 1) (α₂ ∷ []) h.indices b (o + 388) (table_room h.indices long.1.0)) $ await ! tt $ pick ! (λ δ₂. split ! $
      rewrite ! 0 (λ (m : ℕ). ‵ ((MutSlice (named 1) (α₂ ∷ []) u32).own_val (table_at b (o + 388) δ₂ h.indices) (slice_val (b, o + 388) m ∷ []))) long.1.0 refl $
      rewrite ! 1 (λ (m : ℕ). ‵ (flent (α₂ ∷ []) (Held u32 m b (o + 388) δ₂))) long.1.0 refl $ move ! (7 ∷ []) $
      use1 𝓛 (later (some (λ (δ : GName). ‵ ((MutSlice (named 2) (α₃ ∷ []) u32).own_val (table_at b (o + 516) δ h.fractions) (slice_val (b, o + 516) (length h.fractions) ∷ [])) ⊛ ‵ (flent (α₃ ∷ []) (Held u32 (length h.fractions) b (o + 516) δ)))))
      (lends_slice 𝓛 u32 (named 2) (α₃ ∷ []) h.fractions b (o + 516) (table_room h.fractions long.1.1)) $ await ! tt $ pick ! (λ δ₃. split ! $
      rewrite ! 0 (λ (m : ℕ). ‵ ((MutSlice (named 2) (α₃ ∷ []) u32).own_val (table_at b (o + 516) δ₃ h.fractions) (slice_val (b, o + 516) m ∷ []))) long.1.1 refl $
      rewrite ! 1 (λ (m : ℕ). ‵ (flent (α₃ ∷ []) (Held u32 m b (o + 516) δ₃))) long.1.1 refl $
      -- [fractions lent; its lender's part; indices lent; its; refs lent; its; the tokens 3, 2, 1; the way back; the open borrow; obs; auth]
      at_once ! $ show ! (λ (l : Loan). mean 𝓛 (given (Long h.refs h.indices h.fractions) (Tokens 𝓛 b o l ⊛ (Lent 𝓛 b o l h ⊛ Kept 𝓛 b o κ q γ l h))))
      (record { life₁ = α₁; life₂ = α₂; life₃ = α₃; name₁ = δ₁; name₂ = δ₂; name₃ = δ₃ }) $ check ! long $
      move ! (8 ∷ 7 ∷ 6 ∷ []) $ group ! 3 $ move ! (5 ∷ 3 ∷ 1 ∷ []) $ group ! 3 $ move ! (4 ∷ 3 ∷ 2 ∷ []) $ group ! 3 $ move ! (2 ∷ 1 ∷ 0 ∷ []) $ frame ! $ frame ! $ frame ! $ done !)))))))

  pub regain : (l : Loan) (h h' : AngularScratch) → Long h'.refs h'.indices h'.fractions → ent 𝓤 (mean 𝓛 (Tokens 𝓛 b o l ⊛ (Lasts 𝓛 b o l h' ⊛ Kept 𝓛 b o κ q γ l h))) (mean 𝓛 (later (Holds 𝓛 b o ℓ κ γ h' ⊛ ‵ (flft κ q))))
  regain l h h' long =
      qed 𝓛 ((Tokens 𝓛 b o l ⊛ (Lasts 𝓛 b o l h' ⊛ Kept 𝓛 b o κ q γ l h)) ∷ []) ∵ updating ! $ split ! $ split ! $ lft_end ! tt $ move ! (1 ∷ []) $ split ! $ lft_end ! tt $ move ! (1 ∷ []) $ lft_end ! tt $
      -- [ended 3, 2, 1; the rest]
      move ! (3 ∷ []) $ split ! $ split ! $ move ! (1 ∷ []) $ split ! $ move ! (3 ∷ []) $ split ! $ split ! $ move ! (1 ∷ []) $ split ! $
      -- [lent 2, 3, 1; the rest kept; last 2, 3, 1; ended 3, 2, 1]
      move ! (9 ∷ 2 ∷ 6 ∷ []) $ use3 𝓛 (later (‵ ((Arr (mem u16) 193).own_at h'.refs b (o + 0)))) (slice_back 𝓛 u16 (l.life₁ ∷ []) l.name₁ h'.refs 193 b (o + 0)) $ await ! tt $ fsplit ! $ drop ! $
      move ! (7 ∷ 1 ∷ 4 ∷ []) $ use3 𝓛 (later (‵ ((Arr (mem u32) 32).own_at h'.indices b (o + 388)))) (slice_back 𝓛 u32 (l.life₂ ∷ []) l.name₂ h'.indices 32 b (o + 388)) $ await ! tt $ fsplit ! $ drop ! $
      move ! (5 ∷ 2 ∷ 4 ∷ []) $ use3 𝓛 (later (‵ ((Arr (mem u32) 32).own_at h'.fractions b (o + 516)))) (slice_back 𝓛 u32 (l.life₃ ∷ []) l.name₃ h'.fractions 32 b (o + 516)) $ await ! tt $ fsplit ! $ drop ! $
      -- [fractions; indices; refs; the rest kept]
      move ! (3 ∷ []) $ split ! $ move ! (4 ∷ 3 ∷ 2 ∷ 0 ∷ []) $ group ! 4 $ use1 𝓛 (‵ (part_at T.the_row full_share h' b o)) (whole 𝓛 b o h'.refs h'.indices h'.fractions long) $
      move ! (1 ∷ []) $ split ! $ move ! (1 ∷ []) $ split ! $ move ! (3 ∷ 2 ∷ 0 ∷ 1 ∷ []) $ close_ref ! tt (mem T.the_row) h' {b = b} {o = o} $ at_once ! $ feq_i ! (List Val) (vptr b o ∷ []) (vptr b o ∷ []) refl $ fjoin3 ! $ frame ! $ done !
