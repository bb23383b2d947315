-- What is there is read, then what the others have is filled in. Rests on `sample_in`.
use Rattle.std.proofs.Common.{◌≡◌, refl, subst, ◌∙◌, sym, ap, ℕ, zero, suc, ◌+◌, ◌-◌, ◌*◌, ◌≤◌, List, [], length, take, drop, replicate, add-one, arith}
use Rattle.std.proofs.lemmas.List.{length-take, length-drop, length-replicate}
use Rattle.std.proofs.lemmas.List.Edits.{paste_none, fill_from_more}
use Rattle.std.proofs.lemmas.Slice.{put_mid-paste}
use borrow.Rule.Slice.PartMut.{put_mid}
use lib.Seq.{paste}
use Rattle.laws.specs.Fill.{fill, run}
use Rattle.laws.specs.FillLaws.{run_more}
use Rattle.octets.specs.Bytes.{samples_of}
use Rattle.refs.specs.Spots.{on_edge}
use Rattle.refs.specs.Seen.{padded}
use Rattle.camera.proofs.gather.read_edge.Goals as goal

pasted : (v a k : ℕ) (d : List ℕ) → a + k ≤ length d → paste d a (replicate k v) k ≡ run (λ j. v) a k d
unfolding run
pasted v a zero d h = sym (paste_none d a [])
pasted v a (suc k) d h =
    subst (λ (m : ℕ). paste d a (replicate m v) m ≡ run (λ (j : ℕ). v) a m d) (add-one k)
    (sym (fill_from_more d a k v (omega arith)) ∙ run_more (λ (j : ℕ). v) a d (pasted v a k d (omega arith)) refl)

-- what the others have, over a part of the row
rest_laid : (v a n : ℕ) (d : List ℕ) {y : List ℕ} → a ≤ n → n ≤ length d → y ≡ replicate (length (take (n - a) (drop a d))) v
    → put_mid a (n - a) d y ≡ run (λ j. v) a (n - a) d
rest_laid v a n d {y} h m e =
    let k : length (take (n - a) (drop a d)) ≡ n - a = omega (arith, length-take (n - a) (drop a d), length-drop a d) in
    put_mid-paste a (n - a) d y (replicate (n - a) v) (n - a) (e ∙ ap (λ (i : ℕ). replicate i v) k) refl (sym (length-replicate (n - a) v))
    ∙ pasted v a (n - a) d (omega arith)

pub returns : goal.returns
returns c =
    let a = c.args in
    let l = c.loop-i in
    let full : l.i ≡ a.e.have = omega arith in
    rest_laid a.e.rest a.e.have (2 * a.n + 1) l.row c.requires.0.few (omega arith) (c.fill.ensures.after (λ y e. e))
    ∙ ap (padded (2 * a.n + 1) a.e.have a.e.rest)
    (l.invariant ∙ ap (λ (k : ℕ). fill (on_edge (samples_of a.plane.now) a.e.at a.e.step) k a.row.now) full)
