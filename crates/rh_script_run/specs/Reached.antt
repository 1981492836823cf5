-- How far a script has come.
use Rattle.std.specs.Prelude.{◌≡◌, ℕ, List, Ok}
use Rattle.std.specs.Io.KnownBytes.{Appends}
use Rattle.rh_edit.specs.Held.{Held}
use Rattle.rh_report.specs.Account.{Account}
use Rattle.rh_script.specs.Instruction.{Numbered}
use Rattle.rh_script.specs.Names.{files_in, names_in}
use Rattle.rh_shelf.specs.Shelf.{Files}
use Rattle.rh_operations.specs.declared.key_lists.KeyList.{KeyList}
use Rattle.rh_operations.specs.KeyLists.{paths_of}
use Rattle.rh_script_run.specs.Files.{FileMap, HasFiles}
use Rattle.rh_script_run.specs.Meaning.{meaning, start}
use Rattle.rh_script_run.specs.Ends.{SaysAll}
use Rattle.rh_script_run.specs.Environment.{Environment}
use Rattle.rh_script_run.specs.Steps.{ListsStand, Named, names_of, world_of}

-- these steps were carried out and told, and made this set and the files that the shelf has now
pub record CarriedOut (files : Files) (steps : List Numbered) (set : Held) (old new : Environment) : Type 0 where
  pub named : Named
  pub made : FileMap
  pub accounts : List Account
  pub text : List ℕ
  pub means : meaning (start files) steps ≡ Ok (world_of set named made, accounts)
  pub has : HasFiles made new.files
  pub says : SaysAll accounts text
  pub written : Appends old.text new.text text

-- what the code has after some steps
pub record Moment : Type 0 where
  pub set : Held
  pub lists : List KeyList
  pub environment : Environment

-- These steps were carried out and told, and made the set and the lists of this moment. The run began with `old`.
pub record Reached (files : Files) (steps : List Numbered) (old : Environment) (now : Moment) : Type 0 where
  pub done : CarriedOut files steps now.set old now.environment
  pub stand : ListsStand now.environment.files now.lists done.named
  pub names : names_of done.named ≡ names_in steps
  pub paths : paths_of now.lists ≡ files_in steps
