-- A scratch in a local, lent as `&mut AngularScratch` for one call, after which the local is only room. Of use to any walk by hand whose function makes its own scratch.
--     lend_local     the local's cell with what the scratch in it owns  ⊢ ⇛ for some loan: its token, the `&mut`, and the lender's part
--     local_back     the token, the last value and the lender's part  ⊢ ⇛ the local is room
-- Assumes `Logic`.
use Prim.Native.Nat.{ℕ}
use mathlib.Core.List.{List, [], ◌∷◌}
use seplogic.Ra.Ura.{Ura}
use base.Fraction.{full_share}
use mir.Syntax.{named}
use mir.Val.{Val}
use base.Logic.{ent, sep}
use base.Fml.{GName, fsep, fat, froom, flft, fres, flent}
use types.Logic.{Logic, sem}
use types.Kit.{Item, ‵, some, later, ◌⊛◌, mean, ◌$◌, ◌∵◌, !, qed, move, keep, use1, use2, use3, split, pick, fsplit, fjoin, fpick, fpack, frame, await, updating, now as at_once, show, done}
use types.SemTy.{Body}
use types.Tokens.{lft_new, lft_end}
use denote.Laws.{Is, shows}
use denote.Lend.{lends_ref, ref_back}
use denote.Memory.{mem, part_at, part_of, cell_at}
use denote.Struct.Laws as LL
use denote.Struct.Steps.{spelt}
use Rattle.predict.specs.declared.scratch.AngularScratch.{AngularScratch}
use Rattle.predict.specs.contracts.scratch.AngularScratch as T
use Rattle.predict.proofs.scratch.AngularScratch.TheLaws as T'
use Rattle.predict.proofs.scratch.Tables.{Holds}

-- a loan: a lifetime and a name
pub record LocalLoan : Type 0 where
  pub life : ℕ
  pub name : GName

module _ {M : Type 1} (𝓤 : Ura M) where
  -- the token of a loan of the local b, and the lender's part
  abbrev pub Token : LocalLoan → Item 𝓤
  Token l = ‵ (flft (l.life ∷ []) full_share)

  abbrev pub Lender : ℕ → LocalLoan → Item 𝓤
  Lender b l = ‵ (flent (l.life ∷ []) (Body (mem T.the_row) b 0 l.name))

module _ {M : Type 1} {𝓤 : Ura M} (𝓛 : Logic 𝓤) where
  -- a scratch whose machine value lies in a cell is a scratch in memory
  lies_in : (h : AngularScratch) (w : Val) (b o : ℕ) → ent 𝓤 (sep 𝓤 (sem 𝓛 (cell_at full_share (T.the_row).mir (w ∷ []) b o)) (sem 𝓛 ((T.the_row).own_val h (w ∷ [])))) (sem 𝓛 (part_at T.the_row full_share h b o))
  unfolding part_of
  lies_in h w b o =
      qed 𝓛 (‵ (cell_at full_share (T.the_row).mir (w ∷ []) b o) ∷ ‵ ((T.the_row).own_val h (w ∷ [])) ∷ []) ∵ fjoin ! $ fpack ! (List Val) (λ us. fsep (cell_at full_share (T.the_row).mir us b o) ((T.the_row).own_val h us)) (w ∷ []) $ done !

  -- a scratch in memory is room for one
  roomy : (h : AngularScratch) (b o : ℕ) → ent 𝓤 (sem 𝓛 (part_at T.the_row full_share h b o)) (sem 𝓛 (froom T'.mir b o))
  unfolding part_of
  roomy h b o =
      qed 𝓛 (‵ (part_at T.the_row full_share h b o) ∷ []) ∵ fpick ! (λ vs. fsplit ! $ spelt ! T.the_row (Is T.the_row) (shows 𝓛 T.the_row) (LL.vals T.the_type T'.the_laws) (LL.tells T.the_type T'.the_laws) full_share h vs b o $
      use1 𝓛 (‵ (fat full_share T'.mir b o (LL.tuple_val T.the_type T'.the_laws ((T.the_type).to h)))) (𝓛.laws.raw_at full_share T'.mir b o (LL.tuple_val T.the_type T'.the_laws ((T.the_type).to h))) $ keep ! (0 ∷ []) $
      use1 𝓛 (‵ (froom T'.mir b o)) (𝓛.laws.at_room T'.mir b o (LL.tuple_val T.the_type T'.the_laws ((T.the_type).to h))) $ done !)

  pub lend_local : (h : AngularScratch) (w : Val) (b : ℕ) → ent 𝓤 (mean 𝓛 (‵ (fat full_share T'.mir b 0 w) ⊛ ‵ ((T.the_row).own_val h (w ∷ []))))
      (mean 𝓛 (later (some (λ (l : LocalLoan). Token 𝓤 l ⊛ (Holds 𝓛 b 0 (named 0) (l.life ∷ []) l.name h ⊛ Lender 𝓤 b l)))))
  lend_local h w b =
      qed 𝓛 ((‵ (fat full_share T'.mir b 0 w) ⊛ ‵ ((T.the_row).own_val h (w ∷ []))) ∷ []) ∵ updating ! $ split ! $
      use1 𝓛 (‵ (cell_at full_share (T.the_row).mir (w ∷ []) b 0)) (𝓛.laws.at_raw full_share T'.mir b 0 w) $ use2 𝓛 (‵ (part_at T.the_row full_share h b 0)) (lies_in h w b 0) $ lft_new ! tt (λ α. move ! (1 ∷ []) $
      use1 𝓛 (later (some (λ (δ : GName). Holds 𝓛 b 0 (named 0) (α ∷ []) δ h ⊛ ‵ (flent (α ∷ []) (Body (mem T.the_row) b 0 δ))))) (lends_ref 𝓛 T.the_row (named 0) (α ∷ []) h b 0) $ await ! tt $ pick ! (λ δ. split ! $ at_once ! $
      show ! (λ (l : LocalLoan). mean 𝓛 (Token 𝓤 l ⊛ (Holds 𝓛 b 0 (named 0) (l.life ∷ []) l.name h ⊛ Lender 𝓤 b l))) (record { life = α; name = δ }) $ move ! (2 ∷ 0 ∷ 1 ∷ []) $ frame ! $ frame ! $ done !))

  pub local_back : (l : LocalLoan) (h : AngularScratch) (b : ℕ) → ent 𝓤 (mean 𝓛 (Token 𝓤 l ⊛ (‵ (fres l.name ((T.the_row).coded.code h)) ⊛ Lender 𝓤 b l))) (mean 𝓛 (later (‵ (froom T'.mir b 0))))
  local_back l h b =
      qed 𝓛 ((Token 𝓤 l ⊛ (‵ (fres l.name ((T.the_row).coded.code h)) ⊛ Lender 𝓤 b l)) ∷ []) ∵ updating ! $ split ! $ lft_end ! tt $ move ! (1 ∷ []) $ split ! $ move ! (2 ∷ 1 ∷ 0 ∷ []) $
      use3 𝓛 (later (‵ (part_at T.the_row full_share h b 0))) (ref_back 𝓛 T.the_row (l.life ∷ []) l.name h b 0) $ await ! tt $ use1 𝓛 (‵ (froom T'.mir b 0)) (roomy h b 0) $ at_once ! $ done !
