-- What a command leaves of the table that is held, by a list whose keys come in batches.
use Rattle.std.specs.Prelude.{◌≡◌, ℕ, List, Option, Result, Ok, IfOk, IfErr, OnErr}
use Rattle.rh_edit.specs.Held.{Held}
use Rattle.rh_key_files.specs.declared.fault.KeyFault.{KeyFault}
use Rattle.rh_key_files.specs.Source.{Coming}
use Rattle.rh_runner.specs.Lists.{Took}
use Rattle.rh_operations.specs.declared.done.Done.{Done}
use Rattle.rh_operations.specs.declared.cause.Cause.{Cause}
use Rattle.rh_operations.specs.Actions.{CommandResult, telling}
use Rattle.rh_operations.specs.Leaves.{KeepsRunner}
use Rattle.rh_operations.specs.Refusals.{IsOfKeys, RefusedOn, TellsKeys}

-- It took all keys that came, so many as were left, and the table is what `make` makes of them. Or it is as it was, and the cause is
-- one that was found, with the size `room` before a key came, or one of the keys or of a phase: of the keys the one that their source
-- told. `n` and `m` are the starts of threads that were refused by then.
pub record Acts (make : List ℕ → CommandResult) (room : Result ℕ Cause) (old new : Held) (coming : Coming) (left : ℕ) (told_last : Option KeyFault) (n m : ℕ) (r : Result Done Cause) : Type 0 where
  pub done : IfOk r (λ done. (list : List ℕ) × Took coming left list × (make list ≡ Ok (new, telling done)))
  pub refused : IfErr r (RefusedOn room make coming left n m)
  pub unchanged : OnErr r (new ≡ old)
  pub told : IfErr r (TellsKeys told_last)
  pub own : IfErr r IsOfKeys
  pub runner : KeepsRunner n m r
