-- The part of the buffer is what is stored. Assumes nothing.
use Rattle.std.proofs.Common.{◌≡◌, ◌∙◌, sym, ap, refl, arith, ◌+◌, ◌-◌, List, ℕ, ◌++◌, length, take, drop}
use Rattle.std.proofs.lemmas.List.{take_all}
use Rattle.std.proofs.lemmas.List.Edits.{sets-eq}
use Rattle.std.proofs.lemmas.Slice.{put_mid-paste}
use Rattle.camera.proofs.bytes.put.Goals as goal

pub returns : goal.returns
returns g c = let a = c.args in
    let d = a.b.now in
    let n = length a.bytes in
    let many : n ≡ a.at + g.row.N - a.at = omega (arith, c.copy_from_slice.ensures.len) in
    put_mid-paste a.at _ d _ a.bytes n c.copy_from_slice.ensures.after many refl
    ∙ ap (λ (s : List ℕ). take a.at d ++ s ++ drop (a.at + n) d) (take_all n a.bytes (omega arith))
    ∙ sym (sets-eq a.bytes d a.at (omega (arith, many, c.requires)))
