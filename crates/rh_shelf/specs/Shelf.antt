-- What is known of a shelf: the bytes of its paths.
use Rattle.std.specs.Prelude.{◌≡◌, ◌≢◌, ◌⊎◌, ℕ, Bool, true, false, List, Option, Some, None, option_map, Result, IfOk, IsErrOf, OnErr, OnOk}
use Rattle.std.specs.Str.{bytes_eq}
use Rattle.std.specs.Map.{update}
use Rattle.rh_bytes.specs.Counting.{Rose, last_count}
use Rattle.rh_shelf.specs.declared.shelf.ShelfFault.{ShelfFault}
use Rattle.rh_shelf.specs.declared.shelf.ShelfFault.TheVariants.{Memory, Missing, Write}

-- the bytes of each path that there is
abbrev pub Files : Type 0
Files = List ℕ → Option (List ℕ)

-- the files with these bytes at this path
abbrev pub with_file : Files → (path bytes : List ℕ) → Files
with_file files path bytes = update bytes_eq files path (Some bytes)

-- these are the bytes of the path, where the files are known
abbrev pub Finds : Option Files → (path : List ℕ) → Option (List ℕ) → Type 0
Finds None path bytes = Unit {0}
Finds (Some files) path bytes = (found : List ℕ) × (files path ≡ Some found) × (bytes ≡ Some found)

-- the files are known not to have the path
abbrev pub Lacks : Option Files → (path : List ℕ) → Type 0
Lacks None path = ⊥
Lacks (Some files) path = files path ≡ None

-- these bytes were put at the path, where the files are known
abbrev pub Puts : Option Files → Option Files → (path bytes : List ℕ) → Type 0
Puts old new path bytes = new ≡ option_map (λ files. with_file files path bytes) old

-- each other path has the bytes that it had, where the files are known
abbrev pub InDoubt : Option Files → Option Files → (path : List ℕ) → Type 0
InDoubt None new path = new ≡ None
InDoubt (Some files) new path = (now : Files) × (new ≡ Some now) × ((other : List ℕ) → other ≢ path → now other ≡ files other)

-- What is known of a shelf at one moment: the files, where they are known, how often it failed to give or to take one, and how many
-- readers it was shown of which a read failed. The counts stop at the greatest number.
pub record ShelfState : Type 0 where
  pub files : Option Files
  pub failures : ℕ
  pub failed_reads : ℕ

-- it counts one failed read more where one is told, and else as many as before
abbrev pub CountsReads : (told : Bool) → (old new : ShelfState) → Type 0
CountsReads true old new = Rose old.failed_reads new.failed_reads
CountsReads false old new = new.failed_reads ≡ old.failed_reads

-- of one that counts no failed reads: that count is at its end
abbrev pub uncounted : {S : Type 0} → (S → Option Files) → (S → ℕ) → S → ShelfState
uncounted files failures s = record { files = files s; failures = failures s; failed_reads = last_count }

-- It gives a reader of the path's bytes, from the first on, or tells why not: there is no such file, or it failed. No file changes, and
-- no failed read is counted.
pub record GivesFile {R : Type 0} (remaining : R → Option (List ℕ)) (old new : ShelfState) (path : List ℕ) (r : Result R ShelfFault) : Type 0 where
  pub found : IfOk r (λ reader. Finds old.files path (remaining reader))
  pub missing : IsErrOf r Missing → Lacks old.files path ⊎ Rose old.failures new.failures
  pub memory : IsErrOf r Memory → Rose old.failures new.failures
  pub no_write : IsErrOf r Write → ⊥
  pub fine : OnOk r (new ≡ old)
  pub same_files : new.files ≡ old.files
  pub same_reads : new.failed_reads ≡ old.failed_reads

-- It puts the bytes at the path, in place of what stood there, or it failed: then that path alone is in doubt.
pub record TakesFile {X : Type 0} (old new : ShelfState) (path bytes : List ℕ) (r : Result X ShelfFault) : Type 0 where
  pub put : OnOk r (Puts old.files new.files path bytes)
  pub doubt : OnErr r (InDoubt old.files new.files path)
  pub failed : OnErr r (Rose old.failures new.failures)
  pub not_missing : IsErrOf r Missing → ⊥
  pub fine : OnOk r (new.failures ≡ old.failures)
  pub same_reads : new.failed_reads ≡ old.failed_reads
