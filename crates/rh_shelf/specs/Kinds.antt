-- The shelf in memory, and that of real files.
use Rattle.std.specs.Prelude.{ℕ, Option, Some, option_map}
use Rattle.std.specs.BTreeMap.{get_by_text}
use Rattle.std.specs.declared.io.ErrorKind.{ErrorKind}
use Rattle.rh_shelf.specs.Shelf.{Files, ShelfState, uncounted}
use Rattle.rh_shelf.specs.declared.memory.MemShelf.{MemShelf}
use Rattle.rh_shelf.specs.declared.file.FileShelf.{FileShelf}
use Rattle.rh_shelf.specs.declared.lender.CountedShelf.{CountedShelf}

-- the files of a shelf in memory
abbrev pub files_of : MemShelf → Files
files_of s path = option_map (λ bytes. bytes.items) (get_by_text s.files path)

-- how often it was refused memory
abbrev pub failures_in : MemShelf → ℕ
failures_in s = s.failures

-- what is known of it
abbrev pub in_memory : MemShelf → ShelfState
in_memory s = uncounted (λ shelf. Some (files_of shelf)) failures_in s

-- how often a real file could not be opened or written
abbrev pub failed_files : {F : Type 0} → FileShelf F → ℕ
failed_files s = s.failures

-- what the system said of the last one of these
abbrev pub last_failure : {F : Type 0} → FileShelf F → Option ErrorKind
last_failure s = s.last_failure

-- the shelf of which the failed reads are counted
abbrev pub shelf_of : {S : Type 0} → CountedShelf S → S
shelf_of s = s.shelf

-- how many readers of which a read failed it was shown
abbrev pub reads_of : {S : Type 0} → CountedShelf S → ℕ
reads_of s = s.failed_reads

-- what is known of a shelf of which they are counted
abbrev pub counted : {S : Type 0} → (S → Option Files) → (S → ℕ) → CountedShelf S → ShelfState
counted files failures s = record { files = files (shelf_of s); failures = failures (shelf_of s); failed_reads = reads_of s }
