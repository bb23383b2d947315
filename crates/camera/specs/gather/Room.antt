-- A gather's number where its buffer may be short, and what one that is not refused rests on. Assumes nothing.
use Rattle.std.specs.Prelude.{◌≡◌, refl, Bool, true, false, cond, ◌&&◌, ◌||◌, ℕ, ◌*◌, ◌≤◌, Result, Ok, IfOk}
use Rattle.std.proofs.Math.Path.{sym, ap, subst}
use Rattle.std.proofs.Common.{◌∙◌, true≢false, ⊎_elim, arith, leb-true}
use Rattle.std.proofs.Math.Dec.{leb, eqb}
use Rattle.laws.specs.Choose.{passed}
use Rattle.domain.specs.Domain.{depth_ok, size_ok}
use Rattle.domain.specs.declared.refusal.Refusal.{Refusal}
use Rattle.order.specs.declared.Reach.{Reach}
use Rattle.order.specs.Order.{picture_ok}
use Rattle.order.specs.Reach.{luma_place_ok, chroma_place_ok}
use Rattle.camera.specs.gather.Line.{room_no}
use Rattle.refs.specs.substitution.Line.{told}
use Rattle.refs.specs.declared.LumaRefGeometry.{LumaRefGeometry}
use Rattle.refs.specs.declared.ChromaRefGeometry.{ChromaRefGeometry}
use Rattle.refs.specs.Door.{luma_block, luma_length, chroma_picture, chroma_block, chroma_length}
use Rattle.camera.specs.gather.Door.{luma_bytes_no, chroma_bytes_no}
use Rattle.camera.specs.gather.Entry.{luma_entry_no, chroma_entry_no}

-- depth, size, picture, plane, place; the buffer
room_number : (d s p w q r : Bool) → cond d (cond s (cond p (cond (w && r) (cond q 0 6) 5) 4) 2) 1
    ≡ room_no r (cond d (cond s (cond p (cond w (cond q 0 6) 5) 4) 2) 1)
room_number false s p w q r = refl
room_number true false p w q r = refl
room_number true true false w q r = refl
room_number true true true false q r = refl
room_number true true true true true true = refl
room_number true true true true true false = refl
room_number true true true true false true = refl
room_number true true true true false false = refl

-- a number of 0: the buffer is long enough, and nothing else refuses
room_fine : (roomy : Bool) (k : ℕ) → room_no roomy k ≡ 0 → (roomy ≡ true) × (k ≡ 0)
room_fine roomy k e =
    ⊎_elim (λ t. passed roomy k 5 (omega arith) (sym (ap (λ (b : Bool). cond b (cond roomy k 5) k) t) ∙ e))
    (λ t. absurd (stuck t (sym (ap (λ (b : Bool). cond b (cond roomy k 5) k) t) ∙ e)))
    (told (eqb k 0 || eqb k 6))
  where
    stuck : (eqb k 0 || eqb k 6) ≡ false → k ≡ 0 → ⊥
    stuck t z = true≢false (ap (λ (v : ℕ). eqb v 0 || eqb v 6) (sym z) ∙ t)

-- a reach that is given with the buffer's room is the one that was found
pub own_reach : (found : Result Reach Refusal) {early : Result Reach Refusal} {r : Reach} → early ≡ Ok r
    → IfOk early (λ q. found ≡ Ok q) → found ≡ Ok r
own_reach found e h = subst (λ (s : Result Reach Refusal). IfOk s (λ q. found ≡ Ok q)) e h

-- the luma gather's, from its number over the plane alone
module _ (plane out : ℕ) (g : LumaRefGeometry) {j k : ℕ} (e : j ≡ luma_bytes_no plane g) (ek : k ≡ room_no (leb 262 out) j) where
  pub luma-entry-no : k ≡ luma_entry_no plane out g
  unfolding luma_bytes_no
  luma-entry-no =
      ek ∙ ap (room_no (leb 262 out)) e
      ∙ sym (room_number (depth_ok g.bits) (size_ok g.n) (picture_ok g.picture) (eqb plane (2 * luma_length g))
      (luma_place_ok (luma_block g)) (leb 262 out))

  pub luma_entry_fine : k ≡ 0 → (262 ≤ out) × (luma_bytes_no plane g ≡ 0)
  luma_entry_fine z = let f = room_fine (leb 262 out) j (sym ek ∙ z) in (leb-true 262 out f.0, sym e ∙ f.1)

-- the chroma pair gather's
module _ (cb cr out : ℕ) (g : ChromaRefGeometry) {j k : ℕ} (e : j ≡ chroma_bytes_no cb cr g) (ek : k ≡ room_no (leb 524 out) j) where
  pub chroma-entry-no : k ≡ chroma_entry_no cb cr out g
  unfolding chroma_bytes_no
  chroma-entry-no =
      ek ∙ ap (room_no (leb 524 out)) e
      ∙ sym (room_number (depth_ok g.bits) (size_ok g.n) (picture_ok (chroma_picture g) && leb 1 g.format && leb g.format 3)
      (eqb cb (2 * chroma_length g) && eqb cr (2 * chroma_length g)) (chroma_place_ok (chroma_block g)) (leb 524 out))

  pub chroma_entry_fine : k ≡ 0 → (524 ≤ out) × (chroma_bytes_no cb cr g ≡ 0)
  chroma_entry_fine z = let f = room_fine (leb 524 out) j (sym ek ∙ z) in (leb-true 524 out f.0, sym e ∙ f.1)
