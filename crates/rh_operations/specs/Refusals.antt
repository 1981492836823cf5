-- Why an operation is refused: by what was found, or by a cause from outside, where the counts of what is outside tell of it.
use Rattle.std.specs.Prelude.{◌≡◌, ℕ, ◌⊎◌, List, Option, Some, Result, Ok, Err, IsOk}
use Rattle.rh_bytes.specs.Counting.{Rose}
use Rattle.rh_key_files.specs.declared.fault.KeyFault.{KeyFault}
use Rattle.rh_key_files.specs.declared.fault.KeyFault.TheVariants as faults
use Rattle.rh_snapshot.specs.declared.fault.SnapFault.TheVariants as snap_faults
use Rattle.rh_key_files.specs.Source.{Coming}
use Rattle.rh_shelf.specs.Shelf.{ShelfState}
use Rattle.rh_runner.specs.declared.fault.ListFault.{ListFault}
use Rattle.rh_runner.specs.Lists.{IsWhyRefused, Took}
use Rattle.rh_operations.specs.Causes.{of_list}
use Rattle.rh_operations.specs.Outside.{Outside}
use Rattle.rh_operations.specs.declared.cause.Cause.{Cause}
use Rattle.rh_operations.specs.declared.cause.Cause.TheVariants.{Missing, Keys, Snap, TooLarge, Memory, NoThread, Put, Write}

-- a cause that was found, or one from outside
abbrev pub RefusedBy : {Y : Type 0} → Result Y Cause → (outside : Cause → Type 0) → Cause → Type 0
RefusedBy said outside cause = (said ≡ Err cause) ⊎ outside cause

-- ---- the causes from outside

-- memory ran out
abbrev pub MemoryFails : Cause → Type 0
MemoryFails Memory = Unit {0}
MemoryFails _ = ⊥

-- Memory is wanted where the shelf failed, or after this was found.
abbrev pub WantedAfter : {Y : Type 0} → (found : Result Y Cause) → (old new : ShelfState) → Cause → Type 0
WantedAfter found old new Memory = Rose old.failures new.failures ⊎ IsOk found
WantedAfter found old new cause = Unit {0}

-- A file was not opened: memory ran out, or the shelf failed to give it.
abbrev pub OpenFails : (old new : ShelfState) → Cause → Type 0
OpenFails old new Memory = Unit {0}
OpenFails old new Missing = Rose old.failures new.failures
OpenFails old new _ = ⊥

-- A list was not read: so it was, or a read of its file failed.
abbrev pub ListFails : (old new : ShelfState) → Cause → Type 0
ListFails old new (Keys faults.Read) = Rose old.failed_reads new.failed_reads
ListFails old new cause = OpenFails old new cause

-- A snapshot was not read: likewise.
abbrev pub RestoreFails : (old new : ShelfState) → Cause → Type 0
RestoreFails old new (Snap snap_faults.Read) = Rose old.failed_reads new.failed_reads
RestoreFails old new cause = OpenFails old new cause

-- A snapshot was not put: memory ran out, or the shelf failed to take it.
abbrev pub PutFails : (old new : ShelfState) → Cause → Type 0
PutFails old new Memory = Unit {0}
PutFails old new Put = Rose old.failures new.failures
PutFails old new _ = ⊥

-- A phase over keys in memory failed: memory ran out, or the start of a thread was refused.
abbrev pub StartFails : (starts starts' : ℕ) → Cause → Type 0
StartFails n m Memory = Unit {0}
StartFails n m NoThread = Rose n m
StartFails n m _ = ⊥

-- A list was not read, or the start of a thread for the phase over it was refused.
abbrev pub PhaseFails : (old new : Outside) → Cause → Type 0
PhaseFails old new NoThread = Rose old.refused_starts new.refused_starts
PhaseFails old new cause = ListFails old.shelf new.shelf cause

-- ---- keys that come in batches

-- They were not gone through: a fault of theirs came, or one of a phase.
abbrev pub FaultOn : Coming → (starts starts' : ℕ) → Cause → Type 0
FaultOn coming n m cause = (fault : ListFault) × (cause ≡ of_list fault) × IsWhyRefused coming n m fault

-- Nothing was made of them: there is no table of a size for them; or after that they were not gone through, or memory ran out; or
-- nothing can be made of those that came.
abbrev pub RefusedOn : {X : Type 0} → (room : Result ℕ Cause) → (make : List ℕ → Result X Cause) → Coming → (left starts starts' : ℕ) → Cause → Type 0
RefusedOn room make coming left n m cause =
    (room ≡ Err cause)
    ⊎ ((bits : ℕ) × (room ≡ Ok bits) × (FaultOn coming n m cause ⊎ ((list : List ℕ) × Took coming left list × (make list ≡ Err cause))))

-- a cause that keys and phases can have
abbrev pub IsOfKeys : Cause → Type 0
IsOfKeys Missing = ⊥
IsOfKeys (Snap fault) = ⊥
IsOfKeys Put = ⊥
IsOfKeys Write = ⊥
IsOfKeys _ = Unit {0}

-- one that a phase over keys in memory can have, or the want of a table for them
abbrev pub IsOfPhase : Cause → Type 0
IsOfPhase TooLarge = Unit {0}
IsOfPhase Memory = Unit {0}
IsOfPhase NoThread = Unit {0}
IsOfPhase _ = ⊥

-- a fault of the keys is the one that their source told
abbrev pub TellsKeys : (told : Option KeyFault) → Cause → Type 0
TellsKeys told (Keys fault) = told ≡ Some fault
TellsKeys told cause = Unit {0}
