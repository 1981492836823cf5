-- A buffer that was filled.
use Rattle.std.specs.Prelude.{◌≡◌, ℕ, ◌≤◌, ◌<◌, IsFalse, IsTrue, List, length, take, Option}
use Rattle.std.specs.Io.KnownBytes.{Consumes, IsAtEnd}
use Rattle.rh_bytes.specs.Counting.{Rose, failures_of, inner_of}
use Rattle.rh_bytes.specs.declared.counted.Counted.{Counted}
use Rattle.rh_bytes.specs.declared.bytes.Filled.{Filled}

-- From this reader a buffer was filled so far.
pub record IsFilled {R : Type 0} (remaining : R → Option (List ℕ)) (old new : Counted R) (buffer : List ℕ) (filled : Filled) : Type 0 where
  pub within : filled.count ≤ length buffer
  pub bytes : Consumes (remaining (inner_of old)) (remaining (inner_of new)) (take filled.count buffer)
  pub end : IsFalse filled.failed → filled.count < length buffer → IsAtEnd (remaining (inner_of new))
  pub early : IsTrue filled.failed → filled.count < length buffer
  pub failed : IsTrue filled.failed → Rose (failures_of old) (failures_of new)
  pub fine : IsFalse filled.failed → failures_of new ≡ failures_of old
