-- What was held where a run ended.
use Rattle.std.specs.Prelude.{◌≡◌, ℕ, List, ◌∷◌, ◌++◌, Ok}
use Rattle.std.specs.FinSet as set
use Rattle.rh_script.specs.Instruction.{Numbered}
use Rattle.rh_shelf.specs.Shelf.{Files}
use Rattle.rh_report.specs.Account.{Account}
use Rattle.rh_script_run.specs.Meaning.{ScriptState, meaning, start}

-- so many keys are held where the steps before the one on the line of this number were carried out
pub record IsHeldAt (files : Files) (steps : List Numbered) (number count : ℕ) : Type 0 where
  pub before : List Numbered
  pub step : Numbered
  pub after : List Numbered
  pub parts : steps ≡ before ++ step ∷ after
  pub line : step.line ≡ number
  pub world : ScriptState
  pub accounts : List Account
  pub means : meaning (start files) before ≡ Ok (world, accounts)
  pub held : count ≡ set.len world.held
