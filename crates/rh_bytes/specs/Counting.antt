-- What is counted of a reader or a writer, and what came of a text that was written.
use Rattle.std.specs.Prelude.{◌≡◌, ◌≢◌, ℕ, ◌+◌, ◌-◌, ◌^◌, ◌<◌, ◌⊎◌, min, Bool, true, ◌&&◌, ◌==◌, nat_lt, if◌then◌else◌, List, take, Option, Result, Ok, Err, MatchResult, IfErr, IsErrOf, OnOk}
use Rattle.std.specs.List.{flat_map}
use Rattle.std.specs.Borrow.{Bor}
use Rattle.std.specs.Io.KnownBytes.{Appends}
use Rattle.rh_bytes.specs.declared.counted.Counted.{Counted}

-- the reader or writer inside
abbrev pub inner_of : {T : Type 0} → Counted T → T
inner_of c = c.inner

abbrev pub failures_of : {T : Type 0} → Counted T → ℕ
failures_of c = c.failures

-- the greatest count, at which it stops
abbrev pub last_count : ℕ
last_count = 2 ^ 64 - 1

-- the count after a call that failed or not
abbrev pub failures_after : Bool → ℕ → ℕ
failures_after failed n = if failed then min (n + 1) last_count else n

-- a write that was given some bytes failed, or took none of them
abbrev pub wrote_nothing : {E : Type 0} → ℕ → Result ℕ E → Bool
wrote_nothing given (Ok n) = (n == 0) && nat_lt 0 given
wrote_nothing given (Err e) = true

-- a failure was counted, or the count can't go on
abbrev pub Rose : ℕ → ℕ → Type 0
Rose old new = (old < new) ⊎ (new ≡ last_count)

-- texts one after the other
abbrev pub joined : List (Bor (List ℕ)) → List ℕ
joined texts = flat_map (λ text. text.now) texts

-- some front of the text was appended
abbrev pub AppendsFront : Option (List ℕ) → Option (List ℕ) → List ℕ → Type 0
AppendsFront old new text = (n : ℕ) × Appends old new (take n text)

-- The text was appended, or, where that failed, a front of it.
abbrev pub Writes : {X E : Type 0} → Option (List ℕ) → Option (List ℕ) → List ℕ → Result X E → Type 0
Writes old new text r = MatchResult r (λ _. Appends old new text) (λ _. AppendsFront old new text)

-- the text was appended, and no failure was counted
pub record Emitted {W : Type 0} (contents : W → Option (List ℕ)) (old new : Counted W) (text : List ℕ) : Type 0 where
  pub appended : Appends (contents (inner_of old)) (contents (inner_of new)) text
  pub fine : failures_of new ≡ failures_of old

-- a failure was counted, and a front of the text was appended
pub record EmittedFront {W : Type 0} (contents : W → Option (List ℕ)) (old new : Counted W) (text : List ℕ) : Type 0 where
  pub front : AppendsFront (contents (inner_of old)) (contents (inner_of new)) text
  pub failed : Rose (failures_of old) (failures_of new)

abbrev pub Emits : {W X E : Type 0} → (contents : W → Option (List ℕ)) → (old new : Counted W) → (text : List ℕ) → Result X E → Type 0
Emits contents old new text (Ok x) = Emitted contents old new text
Emits contents old new text (Err e) = EmittedFront contents old new text

-- ---- what a call tells of failures

-- a failure was counted where the call tells so, and none was where it tells that
pub record Counts {T : Type 0} (failed fine : Type 0) (old new : Counted T) : Type 0 where
  pub rose : failed → Rose (failures_of old) (failures_of new)
  pub stays : fine → failures_of new ≡ failures_of old

-- so by this one fault
abbrev pub CountsFault : {X E T : Type 0} → (failed : E) → (old new : Counted T) → Result X E → Type 0
CountsFault failed old new r = Counts (IsErrOf r failed) (r ≢ Err failed) old new

-- By another fault than this one, that a write failed, nothing was written. That one is told only where a failure was counted, and
-- all is done only where none was.
pub record WritesLast {X E T : Type 0} (failed : E) (old new : Counted T) (r : Result X E) : Type 0 where
  pub untouched : IfErr r (λ fault. fault ≢ failed → new ≡ old)
  pub write : IsErrOf r failed → Rose (failures_of old) (failures_of new)
  pub written : OnOk r (failures_of new ≡ failures_of old)
