-- What an operation leaves of a shelf and of a runner.
use Rattle.std.specs.Prelude.{◌≡◌, ◌≢◌, ℕ, None, Result, OnOk, IfErr}
use Rattle.rh_bytes.specs.Counting.{Rose}
use Rattle.rh_key_files.specs.declared.fault.KeyFault.TheVariants as faults
use Rattle.rh_snapshot.specs.declared.fault.SnapFault.TheVariants as snap_faults
use Rattle.rh_shelf.specs.Shelf.{ShelfState}
use Rattle.rh_operations.specs.declared.cause.Cause.{Cause}
use Rattle.rh_operations.specs.Outside.{Outside}
use Rattle.rh_operations.specs.declared.cause.Cause.TheVariants.{Missing, Keys, Snap, NoThread, Put, Write}

-- a read of a file failed
abbrev pub IsRead : Cause → Type 0
IsRead (Keys faults.Read) = Unit {0}
IsRead (Snap snap_faults.Read) = Unit {0}
IsRead _ = ⊥

-- What an operation that puts no file leaves of a shelf: it gives the same files; nothing failed where the operation was
-- carried out; where its files are not known, it failed if one was missing; and a read failed where that is the cause, and
-- none is counted else. It has no business with a writer.
pub record KeepsShelf {X : Type 0} (old new : ShelfState) (r : Result X Cause) : Type 0 where
  pub same_files : new.files ≡ old.files
  pub fine : OnOk r (new ≡ old)
  pub missing : IfErr r (λ cause. cause ≡ Missing → old.files ≡ None → Rose old.failures new.failures)
  pub read : IfErr r (λ cause. IsRead cause → Rose old.failed_reads new.failed_reads)
  pub others : IfErr r (λ cause. (IsRead cause → ⊥) → new.failed_reads ≡ old.failed_reads)
  pub not_put : IfErr r (λ cause. cause ≡ Put → ⊥)
  pub no_write : IfErr r (λ cause. cause ≡ Write → ⊥)

-- So does one that has no business with a runner either.
pub record UsesShelf {X : Type 0} (old new : ShelfState) (r : Result X Cause) : Type 0 where
  pub keeps : KeepsShelf old new r
  pub open keeps use *
  pub no_thread : IfErr r (λ cause. cause ≡ NoThread → ⊥)

-- What an operation leaves of a runner: a thread was refused where that is the cause, and none was refused else.
pub record KeepsRunner {X : Type 0} (starts starts' : ℕ) (r : Result X Cause) : Type 0 where
  pub fine : OnOk r (starts' ≡ starts)
  pub thread : IfErr r (λ cause. cause ≡ NoThread → Rose starts starts')
  pub others : IfErr r (λ cause. cause ≢ NoThread → starts' ≡ starts)

-- What one on the keys of a list leaves of both.
pub record Leaves {X : Type 0} (old new : Outside) (r : Result X Cause) : Type 0 where
  pub shelf : KeepsShelf old.shelf new.shelf r
  pub runner : KeepsRunner old.refused_starts new.refused_starts r
