-- Document 01, demand 3 on bytes: the entry `salvrunde_replay` replays in a plane's own bytes, in any calls, each given the record that
-- the one before wrote into its result buffer. `replayed` is what the entry's contract says; bytes spell samples, residuals and plans by
-- `samples_of`, `residuals_of` and `records_of`, and what holds of a replay of those (demand3/Demand3) holds here. demand3/ProofBytes
-- proves it all.
use Rattle.std.specs.Prelude.{ℕ, ◌-◌, ◌*◌, ◌≤◌, ◌<◌, min, ◌≡◌, true, List, map, ℤ, length, get_or}
use Rattle.std.specs.Int.{w32}
use Rattle.std.proofs.Common.{SFits}
use contract.Lifetimes.{Lfts}
use Rattle.std.specs.Borrow.{Bor, MutBor}
use denote.Triple.Clauses.{AtExit}
use Rattle.octets.specs.Bytes.{le4, samples_of, residuals_of}
use Rattle.octets.specs.Laws.{AreBytes, Below}
use Rattle.plan.specs.declared.tiling.Block.{Block}
use Rattle.plan.specs.records.Records.{record_of}
use Rattle.plan.specs.tiling.Plan.{listed}
use Rattle.plan.specs.tiling.Tiling.{Covered}
use Rattle.plan.specs.RecordPlan.{records_of}
use Rattle.walk.specs.declared.checks.Still.{Still}
use Rattle.walk.specs.declared.Progress.{Progress}
use Rattle.walk.specs.block.Predicted.{sample_at}
use Rattle.walk.specs.block.Walked.{World}
use Rattle.walk.specs.Lent.{scratch_tables}
use Rattle.camera.specs.replay.Door.{After, replayed}
use Rattle.camera.specs.contracts.salvrunde_replay as salvrunde-replay
use Rattle.camera.proofs.salvrunde_replay.Reads as salvrunde-replay-contract
use Rattle.promises.specs.demand3.Calls.{Task, task, Ask, ask, granted, Each, Made, AllServed, Held, held, blocks, count, fresh}
use Rattle.promises.specs.demand3.Calls.{calls, walk_call}
use Rattle.promises.specs.demand3.Demand3.{Replayed, ReplayDoes, WalksAll}

-- what all calls share: the still, and the bytes of plan and residuals; and the task that they spell
pub record ByteJob : Type 0 where
  pub still : Still
  pub plan : List ℕ
  pub residuals : List ℕ

abbrev pub spelt_task : ByteJob → Task
spelt_task b = task b.still (records_of b.plan)

-- what one call is given beside the record: how many blocks it may do, and a result buffer; it makes its own scratch
pub record ByteAsk : Type 0 where
  pub grant : ℕ
  pub result : List ℕ

abbrev pub spelt_ask : ByteAsk → Ask
spelt_ask a = ask a.grant scratch_tables

abbrev pub bytes_granted : List ByteAsk → ℕ
bytes_granted asks = granted (map spelt_ask asks)

-- between two calls: the record and the plane's bytes; and the samples that these spell
abbrev pub spelt : Held (List ℕ) → Held (List ℕ)
spelt x = held x.progress (samples_of x.world)

-- the record that the next call is given: bytes 4 to 7 of the result buffer
abbrev pub record_in : List ℕ → Progress
record_in d = record { done = le4 (get_or d 4 0) (get_or d 5 0) (get_or d 6 0) (get_or d 7 0) }

-- a call by the entry's contract, and what is held after it
abbrev pub byte_after : ByteJob → Held (List ℕ) → ByteAsk → After
byte_after b x a = replayed b.still x.progress.done b.plan b.residuals a.grant x.world a.result

abbrev pub byte_call : ByteJob → Held (List ℕ) → ByteAsk → Held (List ℕ)
byte_call b x a = held (record_in (byte_after b x a).result) (byte_after b x a).plane

abbrev pub EachServed : ByteJob → Held (List ℕ) → List ByteAsk → Type 0
EachServed b = AllServed (λ (x : Held (List ℕ)) (a : ByteAsk). (byte_after b x a).number) (byte_call b)

-- what a u8 slice and a u32 hold
abbrev pub InType : Held (List ℕ) → Type 0
InType x = AreBytes x.world × (x.progress.done < 4294967296)

-- as many bytes as number 5 asks for: two a sample, four a residual, whole records, eight in a result buffer
pub record Fits (b : ByteJob) (x : Held (List ℕ)) : Type 0 where
  pub plane : length x.world ≡ 2 * (b.still.frame.height * b.still.frame.width)
  pub residuals : length b.residuals ≡ 4 * (b.still.frame.height * b.still.frame.width)
  pub records : (records_of b.plan).whole ≡ true
  pub in_type : InType x

abbrev pub Long : ByteAsk → Type 0
Long a = 8 ≤ length a.result

-- One call from x by the entry's contract: its number r, and what is held after it. Served, it did the lesser of the grant and what
-- remains, those blocks and no others, and the record in the result buffer says so. Refused, the plane stays, and the record there is the
-- one given.
pub record ByteGave (b : ByteJob) (x : Held (List ℕ)) (a : ByteAsk) (r : ℕ) (y : Held (List ℕ)) : Type 0 where
  pub number : r ≡ (byte_after b x a).number
  pub left : y ≡ byte_call b x a
  pub counted : r ≡ 0
      → ReplayDoes (spelt_task b) (residuals_of b.residuals) (spelt x) (min a.grant (count (spelt_task b) - x.progress.done)) (spelt y)
  pub refused : (r ≡ 0 → ⊥) → (y.world ≡ x.world) × (Long a → y ≡ x)

pub record OnBytes : Type 1 where
  -- The entry, by its contract, with what is lent named as in the code: `now` is what it holds, e what there is at exit, of which two parts
  -- are the result buffer and the plane. Calls of it, one after the other, are the chains below.
  pub by_replay : (κs : Lfts 4) (done bits width height ctu grant : ℕ) (plan residuals : Bor (List ℕ)) (plane result : MutBor (List ℕ)) (r : ℕ)
      (e : AtExit salvrunde-replay.ended κs)
      → salvrunde-replay-contract.Post κs (done, (bits, (width, (height, (ctu, (grant, (plan, (residuals, (plane, (result, tt)))))))))) r e
      → let still : Still = record { bits = bits; frame = record { width = width; height = height; ctu = ctu } } in
      let x = held (record { done = done }) plane.now in InType x
      → ByteGave (record { still = still; plan = plan.now; residuals = residuals.now }) x (record { grant = grant; result = result.now }) r
      (held (record_in e.1.1.1.1.1.1.1.1.1.0.now) e.1.1.1.1.1.1.1.1.0.now)
  pub made : (b : ByteJob) (x : Held (List ℕ)) (asks : List ByteAsk) (y : Held (List ℕ))
      → Made (λ x a y. (r : ℕ) × ByteGave b x a r y) x asks y
      → y ≡ calls (byte_call b) x asks
  -- The residuals of a walk, in whatever form it was made, as bytes: every call is served, and after k blocks those k hold the source, and
  -- all else what it held.
  pub replay : (j : Task) (source : List ℕ) (w : World) (asks : List Ask) → WalksAll j source w asks
      → (b : ByteJob) → spelt_task b ≡ j → residuals_of b.residuals ≡ (calls (walk_call j source) (fresh w) asks).world.residuals
      → (plane : List ℕ) → Fits b (fresh plane) → (again : List ByteAsk) → Each Long again
      → EachServed b (fresh plane) again
      × Replayed j source (samples_of plane) (min (bytes_granted again) (count j)) (spelt (calls (byte_call b) (fresh plane) again))
  -- Where the grants reach the count the plane's bytes spell the source.
  pub same : (j : Task) (source : List ℕ) (w : World) (asks : List Ask) → WalksAll j source w asks
      → (b : ByteJob) → spelt_task b ≡ j → residuals_of b.residuals ≡ (calls (walk_call j source) (fresh w) asks).world.residuals
      → (plane : List ℕ) → Fits b (fresh plane) → (again : List ByteAsk) → Each Long again → count j ≤ bytes_granted again
      → samples_of (calls (byte_call b) (fresh plane) again).world ≡ source
  -- Any residuals that a replay takes, none larger than the depth's largest sample: two replays of as many blocks agree on those blocks,
  -- however their planes began.
  pub altered : (b : ByteJob) (plane other : List ℕ) → Fits b (fresh plane) → Fits b (fresh other)
      → (first : ByteAsk) → (byte_after b (fresh plane) first).number ≡ 0
      → (asks others : List ByteAsk) → Each Long asks → Each Long others
      → let j = spelt_task b in min (bytes_granted asks) (count j) ≡ min (bytes_granted others) (count j)
      → (r c : ℕ) → Covered (blocks j) (min (bytes_granted asks) (count j)) r c
      → sample_at b.still (samples_of (calls (byte_call b) (fresh plane) asks).world) r c
      ≡ sample_at b.still (samples_of (calls (byte_call b) (fresh other) others).world) r c
  -- Any split into calls is one call with the sum of the grants, from any record, refused or not.
  pub split : (b : ByteJob) (x : Held (List ℕ)) → Fits b x → (asks : List ByteAsk) (a : ByteAsk) → Each Long asks → Long a
      → a.grant ≡ bytes_granted asks → calls (byte_call b) x asks ≡ byte_call b x a
  -- Bytes there are for every list of samples of 16 bits and for every list of residuals in an i32's range, and a walk's residuals
  -- are such.
  pub sample_spelling : (l : List ℕ) → Below l → (d : List ℕ) × AreBytes d × (length d ≡ 2 * length l) × (samples_of d ≡ l)
  pub spelling : (v : List ℤ) → Each (SFits w32) v → (d : List ℕ) × AreBytes d × (length d ≡ 4 * length v) × (residuals_of d ≡ v)
  pub walk_spelt : (j : Task) (source : List ℕ) (w : World) (asks : List Ask) → WalksAll j source w asks
      → Each (SFits w32) (calls (walk_call j source) (fresh w) asks).world.residuals
  -- Bytes and a list of records that agree block by block are one plan.
  pub one_plan : (d : List ℕ) (l : List Block) → length d ≡ 6 * length l
      → ((k : ℕ) → k < length l → record_of d (6 * k) ≡ (listed l).block k) → records_of d ≡ listed l
