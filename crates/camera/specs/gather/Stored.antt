-- Rows as they are stored in a lent buffer: an edge, level rows, the rows of a plane. Rests on how samples are stored as bytes.
use Rattle.std.specs.Prelude.{◌≡◌, Bool, true, false, List, ℕ, ◌+◌, ◌-◌, ◌*◌, ◌%◌, ◌≤◌, ◌<◌, ltb, set, replicate}
use Rattle.std.proofs.Math.Path.{sym, ap}
use Rattle.std.proofs.Common.{◌∙◌, arith, lt-ltb, le-ltb}
use Rattle.std.proofs.Math.Bool.{cond}
use Rattle.std.proofs.Math.ListN.{length-replicate, get_or-replicate}
use Rattle.laws.specs.Fill.{run}
use Rattle.laws.specs.FillLaws.{length_fill, fill_at, fill_past}
use Rattle.laws.specs.Bytes.{byte_of}
use Rattle.octets.specs.Bytes.{byte1}
use Rattle.order.specs.declared.Reach.{Reach}
use Rattle.domain.specs.declared.rows.Rows.{Rows}
use Rattle.camera.specs.gather.Line.{sample_byte, in_line, rows_at}
use Rattle.camera.specs.gather.Bytes.{samples_same, samples_more, rows_stored}
use Rattle.domain.specs.rows.Neighbours.{level_rows}
use Rattle.refs.specs.substitution.Line.{any_by}
use Rattle.refs.specs.declared.Spot.{Spot}
use Rattle.camera.specs.declared.gather.Around.{Around}
use Rattle.refs.specs.Counts.{padded_edge}
use Rattle.refs.specs.Spots.{plane_rows}
use Rattle.refs.specs.Seen.{entry_in, finish_none}
use Rattle.camera.specs.gather.Around.{edge_in, rows_of, around_of, around_rows}

-- what is there, what is not, and what is past it, one after the other
module _ (n have rest at : ℕ) (on : ℕ → ℕ) (d : List ℕ) (side : n ≤ 32) (few : have ≤ 2 * n + 1) where
  abbrev row : List ℕ
  row = padded_edge (2 * n + 1) have on rest

  abbrev line : ℕ → ℕ
  line = entry_in row

  within : (i : ℕ) → i < 2 * n + 1 → line i ≡ cond (ltb i have) (on i) rest
  unfolding padded_edge
  within i h = fill_at (λ k. cond (ltb k have) (on k) rest) (2 * n + 1) (replicate 65 0) i 0 h
      (omega (arith, length-replicate {A = ℕ} 65 0))

  there : (i : ℕ) → i < have → on i ≡ line i
  there i h = sym (within i (omega arith) ∙ ap (λ (b : Bool). cond b (on i) rest) (lt-ltb i have h))

  after : (i : ℕ) → i < 2 * n + 1 - have → rest ≡ line (have + i)
  after i h = sym (within (have + i) (omega arith) ∙ ap (λ (b : Bool). cond b (on (have + i)) rest) (le-ltb (have + i) have (omega arith)))

  past : (i : ℕ) → i < 65 - (2 * n + 1) → 0 ≡ line (2 * n + 1 + i)
  unfolding padded_edge
  past i h = sym (fill_past (λ k. cond (ltb k have) (on k) rest) (2 * n + 1) (replicate 65 0) (2 * n + 1 + i) 0 (omega arith)
      ∙ get_or-replicate 65 (2 * n + 1 + i) 0 0 (omega arith))

  pub edge_stored : {x y z : List ℕ} → x ≡ run (byte_of 2 on) (2 * at) (2 * have) d
      → y ≡ run (byte_of 2 (λ i. rest)) (2 * (at + have)) (2 * (2 * n + 1 - have)) x
      → z ≡ run (byte_of 2 (λ i. 0)) (2 * (at + (2 * n + 1))) (2 * (65 - (2 * n + 1))) y → z ≡ run (sample_byte row) (2 * at) (2 * 65) d
  edge_stored p q w =
      let one = p ∙ samples_same on line at have d there in
      let two = q ∙ ap (run (byte_of 2 (λ (i : ℕ). rest)) (2 * (at + have)) (2 * (2 * n + 1 - have))) one
      ∙ samples_more line (λ i. rest) at have (2 * n + 1 - have) d after
      ∙ ap (λ (k : ℕ). run (byte_of 2 line) (2 * at) (2 * k) d) (let e : have + (2 * n + 1 - have) ≡ 2 * n + 1 = omega arith in e) in
      w ∙ ap (run (byte_of 2 (λ (i : ℕ). 0)) (2 * (at + (2 * n + 1))) (2 * (65 - (2 * n + 1)))) two
      ∙ samples_more line (λ i. 0) at (2 * n + 1) (65 - (2 * n + 1)) d past
      ∙ ap (λ (k : ℕ). run (byte_of 2 line) (2 * at) (2 * k) d) (let e : 2 * n + 1 + (65 - (2 * n + 1)) ≡ 65 = omega arith in e)

-- one value in all 131 samples
pub level_stored : (v at : ℕ) (d : List ℕ) → run (byte_of 2 (λ i. v)) (2 * at) (2 * 131) d ≡ rows_at (2 * at) (level_rows v) d
unfolding rows_at
level_stored v at d = samples_same (λ i. v) (entry_in (in_line (level_rows v))) at 131 d (λ i h. sym (get_or-replicate 131 i v 0 h))

-- the rows of a plane, where no neighbour is there, and where one is
module _ (plane : List ℕ) (s : Spot) (r : Reach) (n neutral at : ℕ) (d : List ℕ) where
  pub none_stored : any_by r.corner r.above r.left ≡ false → {z : List ℕ} → z ≡ run (byte_of 2 (λ i. neutral)) (2 * at) (2 * 131) d
      → z ≡ rows_at (2 * at) (plane_rows plane s r n neutral) d
  none_stored gone e = e ∙ level_stored neutral at d ∙ ap (λ (v : Rows). rows_at (2 * at) v d) (finish_none plane s r n neutral gone)

  pub some_stored : {a : Around} → a ≡ around_of plane s r → any_by r.corner r.above r.left ≡ true → {x y z : List ℕ}
      → x ≡ set (set d (2 * at) (a.corner % 256)) (2 * at + 1) (byte1 a.corner) → y
      ≡ run (sample_byte (edge_in plane a.above n)) (2 * (at + 1)) (2 * 65) x
      → z ≡ run (sample_byte (edge_in plane a.left n)) (2 * (at + 66)) (2 * 65) y → z ≡ rows_at (2 * at) (plane_rows plane s r n neutral) d
  unfolding padded_edge
  some_stored {a} ea any p q w =
      rows_stored (rows_of plane n a) at d (length_fill _ (2 * n + 1) (replicate 65 0) ∙ length-replicate {A = ℕ} 65 0) p q w
      ∙ ap (λ (v : Rows). rows_at (2 * at) v d) (around_rows plane s r n ea neutral any)
