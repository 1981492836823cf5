-- What a call that reads a part of a key file tells, and what it leaves of its reader.
use Rattle.std.specs.Prelude.{◌≢◌, ℕ, List, Option, Result, Err, IsErrOf}
use Rattle.rh_bytes.specs.declared.counted.Counted.{Counted}
use Rattle.rh_bytes.specs.Counting.{Counts, inner_of}
use Rattle.rh_bytes.specs.Input.{BeginsWith, fault_of}
use Rattle.rh_bytes.specs.Parts.{ReadsPart}
use Rattle.rh_bytes.specs.Taking.{TakesAtMost}
use Rattle.rh_key_files.specs.declared.fault.KeyFault.{KeyFault}
use Rattle.rh_key_files.specs.declared.fault.KeyFault.TheVariants.{Memory, Read}
use Rattle.rh_key_files.specs.declared.header.Header.{Header}
use Rattle.rh_key_files.specs.declared.version.Version.{Version}
use Rattle.rh_key_files.specs.Limits.{NoKeyReadFailed}
use Rattle.rh_key_files.specs.Reading.{CutShort, ReadsKeys, TakesGoodKeys, is_silent, keys_at}

-- a part of the header
abbrev pub ReadsHead : {R X Y : Type 0} → (R → Option (List ℕ)) → (old new : Counted R) → (List ℕ → Result (Y × List ℕ) KeyFault) → (X → Y) → (most : ℕ) → Result X KeyFault → Type 0
ReadsHead bytes_of old new reading view most r = ReadsPart bytes_of is_silent Read Memory old new reading view most r

-- Keys are read as any part is. But a key out of range that was read whole is told before a failed read behind it: so with that fault
-- the count may have risen too.
pub record ReadsList {R X Y : Type 0} (bytes_of : R → Option (List ℕ)) (old new : Counted R) (reading : List ℕ → Result (Y × List ℕ) KeyFault) (view : X → Y) (most : ℕ) (r : Result X KeyFault) : Type 0 where
  pub known : ReadsKeys (bytes_of (inner_of old)) (bytes_of (inner_of new)) reading view r
  pub takes : TakesAtMost (bytes_of (inner_of old)) (bytes_of (inner_of new)) most
  pub counts : Counts (IsErrOf r Read) (NoKeyReadFailed (fault_of r)) old new

-- n keys, of which the first has this index. Where a failed read is told, the keys before it were tested. Want of memory is not told.
pub record ReadsRun {R X : Type 0} (bytes_of : R → Option (List ℕ)) (old new : Counted R) (version : Version) (index n : ℕ) (view : X → List ℕ) (most : ℕ) (r : Result X KeyFault) : Type 0 where
  pub reads : ReadsList bytes_of old new (keys_at version index n) view most r
  pub open reads use *
  pub tested : IsErrOf r Read → CutShort (bytes_of (inner_of old)) (bytes_of (inner_of new)) (keys_at version index n)
  pub no_memory : r ≢ Err Memory

-- A whole list, with this header before it. Want of memory is told only where known bytes begin with one. Where that is told, or a
-- failed read, none of the keys that were taken is out of range.
pub record ReadsWholeList {R X : Type 0} (bytes_of : R → Option (List ℕ)) (old new : Counted R) (header_in : List ℕ → Result (Header × List ℕ) KeyFault) (reading : List ℕ → Result (List ℕ × List ℕ) KeyFault) (Takes : (old new : Option (List ℕ)) → Option KeyFault → Type 0) (view : X → List ℕ) (r : Result X KeyFault) : Type 0 where
  pub known : ReadsKeys (bytes_of (inner_of old)) (bytes_of (inner_of new)) reading view r
  pub takes : Takes (bytes_of (inner_of old)) (bytes_of (inner_of new)) (fault_of r)
  pub counts : Counts (IsErrOf r Read) (NoKeyReadFailed (fault_of r)) old new
  pub memory : IsErrOf r Memory → BeginsWith header_in (bytes_of (inner_of old))
  pub tested : IsErrOf r Read → TakesGoodKeys header_in (bytes_of (inner_of old)) (bytes_of (inner_of new))
  pub tested_too : IsErrOf r Memory → TakesGoodKeys header_in (bytes_of (inner_of old)) (bytes_of (inner_of new))
