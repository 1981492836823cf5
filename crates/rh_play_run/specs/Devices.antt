-- What a call does with the device that it reads a play from.
use Rattle.std.specs.Prelude.{ℕ, ◌+◌, List, Option, Result}
use Rattle.rh_bytes.specs.Counting.{CountsFault, inner_of}
use Rattle.rh_bytes.specs.Taking.{TakesAtMost}
use Rattle.rh_bytes.specs.declared.counted.Counted.{Counted}
use Rattle.rh_play_text.specs.declared.limits.TheConstants.{MAX_TEXT_BYTES}

-- At most one byte more is taken than a play may have, and a failure was counted where the call tells this fault, that a read failed.
pub record ReadsPlay {X E R : Type 0} (remaining : R → Option (List ℕ)) (failed : E) (old new : Counted R) (r : Result X E) : Type 0 where
  pub takes : TakesAtMost (remaining (inner_of old)) (remaining (inner_of new)) (MAX_TEXT_BYTES + 1)
  pub counts : CountsFault failed old new r
