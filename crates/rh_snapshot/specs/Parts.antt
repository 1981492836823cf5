-- What a call that reads a snapshot, or a part of it, tells, and what it leaves of its reader.
use Rattle.std.specs.Prelude.{ℕ, List, Option, Result, IsErrOf}
use Rattle.rh_bytes.specs.declared.counted.Counted.{Counted}
use Rattle.rh_bytes.specs.Counting.{CountsFault, inner_of}
use Rattle.rh_bytes.specs.Input.{fault_of}
use Rattle.rh_bytes.specs.Parts.{ReadsPart}
use Rattle.rh_snapshot.specs.declared.fault.SnapFault.{SnapFault}
use Rattle.rh_snapshot.specs.declared.fault.SnapFault.TheVariants.{Memory, Read}
use Rattle.rh_snapshot.specs.declared.snapshot.Snapshot.{Snapshot}
use Rattle.rh_snapshot.specs.Limits.{TakesOfSnap}
use Rattle.rh_snapshot.specs.Reading.{BeginsWithSnapHeader, ReadsSnap, file_table, is_snap_silent, table_as}

-- a part of it
abbrev pub ReadsSnapPart : {R X Y : Type 0} → (R → Option (List ℕ)) → (old new : Counted R) → (List ℕ → Result (Y × List ℕ) SnapFault) → (X → Y) → (most : ℕ) → Result X SnapFault → Type 0
ReadsSnapPart bytes_of old new reading view most r = ReadsPart bytes_of is_snap_silent Read Memory old new reading view most r

-- The whole of it. Want of memory is told only where known bytes begin with a header.
pub record ReadsSnapshot {R : Type 0} (bytes_of : R → Option (List ℕ)) (old new : Counted R) (r : Result Snapshot SnapFault) : Type 0 where
  pub known : ReadsSnap (bytes_of (inner_of old)) (bytes_of (inner_of new)) file_table table_as r
  pub takes : TakesOfSnap (bytes_of (inner_of old)) (bytes_of (inner_of new)) (fault_of r)
  pub counts : CountsFault Read old new r
  pub memory : IsErrOf r Memory → BeginsWithSnapHeader (bytes_of (inner_of old))
