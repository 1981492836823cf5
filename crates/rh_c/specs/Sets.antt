-- What the calls on a set answer, in numbers.
use Rattle.std.specs.Prelude.{◌≡◌, ℕ, Bool, not, if◌then◌else◌, List, length, Result, Ok, Err, IfOk, IfErr, OnOk, OnErr}
use Rattle.std.specs.FinSet as set
use Rattle.rh_layout.specs.Key.{IsKey}
use Rattle.rh_edit.specs.Held.{Held}
use Rattle.rh_edit.specs.Rising.{rising_keys}
use Rattle.rh_snapshot.specs.declared.version.Version.{Version}
use Rattle.rh_snapshot.specs.declared.fault.SnapFault.{SnapFault}
use Rattle.rh_snapshot.specs.declared.fault.SnapFault.TheVariants as snap
use Rattle.rh_snapshot.specs.Reading.{SnapFails, file_table}
use Rattle.rh_set.specs.declared.fault.InsertFault.{InsertFault}
use Rattle.rh_set.specs.declared.fault.InsertFault.TheVariants as insert
use Rattle.rh_set.specs.declared.fault.PutFault.{PutFault}
use Rattle.rh_set.specs.declared.fault.PutFault.TheVariants as put
use Rattle.rh_set.specs.Inserting.{IsSizeWith}
use Rattle.rh_set.specs.Putting.{IsPutInFront, IsWhyNotPut}
use Rattle.rh_set.specs.Snapshot.{IsSnapshotOf, IsSnapshotPut, IsWhyNoSnapshot}
use Rattle.rh_handle.specs.Calls.{IsWhyNotAdded}
use Rattle.rh_c.specs.declared.answer.Detail.{Detail}
use Rattle.rh_c.specs.declared.answer.TheConstants.{DONE, BAD_KEY, NO_ROOM, NO_MEMORY, FULL, NOT_SNAPSHOT, SHORT, BAD_BITS, DAMAGED, NOT_A_LAYOUT, LONG}
use Rattle.rh_c.specs.Answers.{detail}

-- 1 where the key was added, and 0 where it was there
abbrev pub one_if : Bool → ℕ
one_if added = if added then 1 else 0

abbrev pub IsInsertStatus : Result Bool InsertFault → (status : ℕ) → Detail → Type 0
IsInsertStatus (Ok added) status d = (status ≡ DONE) × (d ≡ detail 0 (one_if added))
IsInsertStatus (Err insert.NotAKey) status d = (status ≡ BAD_KEY) × (d ≡ detail 0 0)
IsInsertStatus (Err insert.Full) status d = (status ≡ FULL) × (d ≡ detail 0 0)
IsInsertStatus (Err insert.Memory) status d = (status ≡ NO_MEMORY) × (d ≡ detail 0 0)

abbrev pub IsPutStatus : Result ℕ PutFault → (status : ℕ) → Detail → Type 0
IsPutStatus (Ok count) status d = (status ≡ DONE) × (d ≡ detail 0 count)
IsPutStatus (Err (put.NoRoom count)) status d = (status ≡ NO_ROOM) × (d ≡ detail 0 count)
IsPutStatus (Err put.Memory) status d = (status ≡ NO_MEMORY) × (d ≡ detail 0 0)

abbrev pub restore_status : Result (Unit {0}) SnapFault → ℕ
restore_status (Ok done) = DONE
restore_status (Err snap.NotSnapshot) = NOT_SNAPSHOT
restore_status (Err snap.Short) = SHORT
restore_status (Err snap.BadBits) = BAD_BITS
restore_status (Err snap.Damaged) = DAMAGED
restore_status (Err snap.NotALayout) = NOT_A_LAYOUT
restore_status (Err snap.Long) = LONG
restore_status (Err snap.Read) = NO_MEMORY
restore_status (Err snap.Memory) = NO_MEMORY

-- The set got the number, and whether that was new is told, or the set is as it was, and why is told.
pub record AnswersInsert (old new : Held) (number status : ℕ) (d : Detail) : Type 0 where
  pub outcome : Result Bool InsertFault
  pub told : IsInsertStatus outcome status d
  pub key : OnOk outcome (IsKey number)
  pub keys : OnOk outcome (new.keys ≡ set.insert old.keys number)
  pub added : IfOk outcome (λ added. added ≡ not (set.contains old.keys number))
  pub bits : OnOk outcome (IsSizeWith old number new.bits)
  pub why : IfErr outcome (IsWhyNotAdded old number)
  pub unchanged : OnErr outcome (new ≡ old)

-- The rising keys of the set were put, or nothing was, and why is told.
pub record AnswersList (held : Held) (old new : List ℕ) (status : ℕ) (d : Detail) : Type 0 where
  pub outcome : Result ℕ PutFault
  pub told : IsPutStatus outcome status d
  pub front : IfOk outcome (IsPutInFront (rising_keys held.keys) old new)
  pub why : IfErr outcome (IsWhyNotPut (set.len held.keys) (length old))
  pub unput : OnErr outcome (new ≡ old)

-- A snapshot of the set was put, or nothing was, and why is told.
pub record AnswersSnapshot (held : Held) (old new : List ℕ) (status : ℕ) (d : Detail) : Type 0 where
  pub outcome : Result ℕ PutFault
  pub told : IsPutStatus outcome status d
  pub front : IfOk outcome (IsSnapshotPut held old new)
  pub why : IfErr outcome (IsWhyNoSnapshot held (length old))
  pub unput : OnErr outcome (new ≡ old)

-- The set is that of the snapshot, or as it was, and the first fault in the bytes is told.
pub record AnswersRestore (old new : Held) (bytes : List ℕ) (status : ℕ) : Type 0 where
  pub outcome : Result (Unit {0}) SnapFault
  pub told : status ≡ restore_status outcome
  pub restored : OnOk outcome ((version : Version) × IsSnapshotOf version bytes new)
  pub fault : IfErr outcome (λ fault. SnapFails fault (file_table bytes))
  pub unchanged : OnErr outcome (new ≡ old)
