-- What a call that reads a part of a file tells, and what it leaves of its reader.
use Rattle.std.specs.Prelude.{◌≢◌, ℕ, Bool, List, Option, Result, Err}
use Rattle.rh_bytes.specs.declared.counted.Counted.{Counted}
use Rattle.rh_bytes.specs.Counting.{CountsFault, inner_of}
use Rattle.rh_bytes.specs.Input.{Reads}
use Rattle.rh_bytes.specs.Taking.{TakesAtMost}

-- Where the bytes are known, it tells what this reading of them gives, and took at most so many. It tells a failed read only where a
-- failure was counted, and none was where it tells anything else. It never tells want of memory.
pub record ReadsPart {R X Y E : Type 0} (bytes_of : R → Option (List ℕ)) (silent : E → Bool) (read memory : E) (old new : Counted R) (reading : List ℕ → Result (Y × List ℕ) E) (view : X → Y) (most : ℕ) (r : Result X E) : Type 0 where
  pub known : Reads silent (bytes_of (inner_of old)) (bytes_of (inner_of new)) reading view r
  pub takes : TakesAtMost (bytes_of (inner_of old)) (bytes_of (inner_of new)) most
  pub counts : CountsFault read old new r
  pub no_memory : r ≢ Err memory
