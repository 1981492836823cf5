-- What is known of the shelf that fails once.
use Rattle.std.specs.Prelude.{List, ℕ, ◌+◌, min, ◌==◌, if◌then◌else◌, Option, Some, Vec}
use Rattle.std.specs.Global.{Global}
use Rattle.rh_bytes.specs.Counting.{last_count}
use Rattle.rh_shelf.specs.declared.memory.MemShelf.{MemShelf}
use Rattle.rh_shelf.specs.Kinds.{files_of}
use Rattle.rh_shelf.specs.Shelf.{ShelfState, uncounted}
use Rattle.rh_faulty.specs.declared.shelf.FaultyShelf.{FaultyShelf}
use Rattle.rh_faulty.specs.declared.shelf.ShelfFailure.{ShelfFailure}
use Rattle.rh_faulty.specs.declared.shelf.ShelfFailure.TheVariants.{Call, Read}

-- the bytes of a vector
abbrev pub known_bytes : Vec ℕ Global → Option (List ℕ)
known_bytes v = Some v.items

abbrev pub inner_shelf : FaultyShelf → MemShelf
inner_shelf s = s.shelf

abbrev pub failure_of : FaultyShelf → ShelfFailure
failure_of s = s.failure

-- how often the shelf was called
abbrev pub calls_of : FaultyShelf → ℕ
calls_of s = s.calls

-- the number of the next call
abbrev pub next_call : FaultyShelf → ℕ
next_call s = min (s.calls + 1) last_count

-- how many readers the shelf gave
abbrev pub readers_of : FaultyShelf → ℕ
readers_of s = s.readers

-- the number of the next reader
abbrev pub next_reader : FaultyShelf → ℕ
next_reader s = min (s.readers + 1) last_count

-- how often the shelf itself failed
abbrev pub own_failures_in : FaultyShelf → ℕ
own_failures_in s = s.failures

-- what is known of it
abbrev pub state_of : FaultyShelf → ShelfState
state_of s = uncounted (λ shelf. Some (files_of (inner_shelf shelf))) own_failures_in s

-- the number of the read that fails, of the reader of this number; 0 where none does
abbrev pub read_that_fails : ShelfFailure → ℕ → ℕ
read_that_fails (Call n) given = 0
read_that_fails (Read reader read) given = if reader == given then read else 0
