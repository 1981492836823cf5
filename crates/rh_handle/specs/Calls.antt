-- What a handle stands for, and why a call on it is refused.
use Rattle.std.specs.Prelude.{◌≡◌, ◌⊎◌, ℕ}
use Rattle.std.specs.FinSet as set
use Rattle.rh_edit.specs.Held.{Held}
use Rattle.rh_set.specs.Inserting.{IsNew, IsTight, IsWhyNot}
use Rattle.rh_set.specs.declared.fault.InsertFault.{InsertFault}
use Rattle.rh_set.specs.declared.fault.InsertFault.TheVariants.{Memory}
use Rattle.rh_handle.specs.declared.handle.Handle.{Handle}
use Rattle.rh_handle.specs.Holding.{set_in}

abbrev pub held_in : Handle → Held
held_in handle = set_in handle.held

-- Why a number is not added. Memory is wanted for the first key of an empty set, and else only where the table has to grow.
abbrev pub IsWhyNotAdded : Held → (number : ℕ) → InsertFault → Type 0
IsWhyNotAdded old number Memory = IsNew old number × ((set.len old.keys ≡ 0) ⊎ IsTight old Memory)
IsWhyNotAdded old number fault = IsWhyNot old number fault
