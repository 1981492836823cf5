-- Phases over whole lists of keys, which come in batches.
use Rattle.std.specs.Prelude.{◌≡◌, ◌≢◌, ℕ, List, length, All, Bool, not, Option, Some, Result, IfErr, OnOk}
use Rattle.std.specs.List.{filter}
use Rattle.std.specs.FinSet.{contains}
use Rattle.rh_layout.specs.Key.{IsKey}
use Rattle.rh_layout.specs.Layout.{Keys, IsLayout, keys_of}
use Rattle.rh_key_files.specs.declared.fault.KeyFault.{KeyFault}
use Rattle.rh_key_files.specs.Source.{Coming, AllCome, FaultComes}
use Rattle.rh_ledger.specs.declared.tally.Kind.{Kind}
use Rattle.rh_ledger.specs.declared.tally.Kind.TheVariants.{Insert, Remove, Ask}
use Rattle.rh_ledger.specs.declared.tally.Tally.{Tally}
use Rattle.rh_ledger.specs.Phase.{set_after, tally_of}
use Rattle.rh_runner.specs.declared.chosen.Chosen.{Chosen}
use Rattle.rh_runner.specs.declared.chosen.Chosen.TheVariants.{Present, Absent}
use Rattle.rh_runner.specs.declared.runner.PhaseFault.TheVariants.{NoThread}
use Rattle.rh_runner.specs.Starts.{RefusedPhase}
use Rattle.rh_runner.specs.declared.fault.ListFault.{ListFault}
use Rattle.rh_runner.specs.declared.fault.ListFault.TheVariants as faults

-- The whole list that a source gave: what was to come, as far as that is known, and as long as it said.
pub record Took (coming : Coming) (left : ℕ) (list : List ℕ) : Type 0 where
  pub came : AllCome coming list
  pub long : length list ≡ left
  pub in_range : All IsKey list

-- how many keys a phase over a list of this length may add at most
abbrev pub may_add : Kind → ℕ → ℕ
may_add Insert left = left
may_add Remove left = 0
may_add Ask left = 0

-- A phase over these keys made the new cells of the old ones, and this is its tally.
pub record Ran (kind : Kind) (bits : ℕ) (keys old new : List ℕ) (made : Tally) : Type 0 where
  pub layout : IsLayout bits new
  pub held : keys_of new ≡ set_after kind (keys_of old) keys
  pub tally : made ≡ tally_of kind (keys_of old) keys

-- whether a key is chosen that is held, or is not
abbrev pub is_chosen : Chosen → (held : Bool) → Bool
is_chosen Present held = held
is_chosen Absent held = not held

-- the chosen keys of the list, repeats kept
abbrev pub chosen : Chosen → Keys → List ℕ → List ℕ
chosen which S list = filter (λ k. is_chosen which (contains S k)) list

-- A fault of the keys is the one that their source told, and with any other it told none.
abbrev pub TellsKeyFault : (told told' : Option KeyFault) → ListFault → Type 0
TellsKeyFault before after (faults.Keys e) = after ≡ Some e
TellsKeyFault before after (faults.Phase e) = after ≡ before

-- Why a list was not gone through: a fault of its keys was to come, or its phase failed.
abbrev pub IsWhyRefused : Coming → (starts starts' : ℕ) → ListFault → Type 0
IsWhyRefused coming n m (faults.Keys e) = FaultComes coming e
IsWhyRefused coming n m (faults.Phase e) = RefusedPhase n m e

-- How the phases over a list end: where it was not gone through, this is why; a fault of the keys is the one that their source told;
-- and no refused start of a thread is counted but one that is told.
pub record EndsList {X : Type 0} (coming : Coming) (before after : Option KeyFault) (starts starts' : ℕ) (r : Result X ListFault) : Type 0 where
  pub refused : IfErr r (IsWhyRefused coming starts starts')
  pub told : IfErr r (TellsKeyFault before after)
  pub fine : OnOk r (starts' ≡ starts)
  pub others : IfErr r (λ fault. fault ≢ faults.Phase NoThread → starts' ≡ starts)
