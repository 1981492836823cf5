-- What a step makes.
use Rattle.std.proofs.Common.{◌≡◌, ◌∙◌, ap, sym, subst, ℕ, ◌⊎◌, inl, inr, List, [], ◌∷◌, ◌++◌, length, Option, Some, None, Result, Ok, Err}
use Rattle.std.specs.FinSet as set
use Rattle.rh_edit.specs.Held.{Held}
use Rattle.rh_script_run.specs.Files.{FileMap}
use Rattle.rh_report.specs.Account.{Account, Says}
use Rattle.rh_report.specs.Account as accounts
use Rattle.rh_operations.specs.declared.cause.Cause.{Cause}
use Rattle.rh_bytes.specs.Counting.{Rose}
use Rattle.rh_bytes.specs.Input.{◌>>=◌}
use Rattle.rh_script.specs.declared.action.Action.{Action}
use Rattle.rh_operations.specs.declared.key_lists.KeyList.{KeyList}
use Rattle.rh_operations.specs.Actions.{Telling, made_of, means}
use Rattle.rh_operations.specs.KeyLists.{Gave, Stands, source_bytes}
use Rattle.rh_operations.proofs.Standing.{given, known_stands, made_again}
use Rattle.rh_script_run.specs.Told.{account_of}
use Rattle.rh_shelf.specs.Shelf.{Files, ShelfState}
use Rattle.rh_operations.specs.Leaves.{KeepsShelf}
use Rattle.rh_script_run.specs.Ends.{LeavesShelf}
use Rattle.rh_script_run.specs.Meaning.{CommandOutcome, acts, keys_at_path, restores, table_at, uses}
use Rattle.rh_script_run.specs.Steps.{Named, world_of}

-- ---- refusals

module _ {Out : Type 0} (cause : Cause) where
  pub found_refused : {Y : Type 0} (found said : Result Y Cause) (make : Y → CommandOutcome) → found ≡ said → (found ≡ Err cause) ⊎ Out → ((said >>= make) ≡ Err cause) ⊎ Out
  found_refused found said make same (inl is) = inl (ap (λ r. r >>= make) (sym same ∙ is))
  found_refused found said make same (inr out) = inr out

-- ---- an action on the keys of a list

module _ (now : Option Files) (list : KeyList) (named : Named) (files : FileMap) (name keys : List ℕ) (action : Action) (old : Held) where
  -- it made what it means in the script
  pub action_done : (new : Held) (telling : Telling) → Stands now list keys → (found : List ℕ) × Gave now list found × (means action old found ≡ Ok (new, telling))
      → acts action (world_of old named files) name keys ≡ Ok (world_of new named files, account_of name list.count new telling)
  action_done new telling stands done =
      let known = known_stands now list keys stands in
      let made = given (λ k. means action old k ≡ Ok (new, telling)) now list keys stands done in
      ap (λ r. r >>= (λ m. Ok (world_of m.0 named files, account_of name (length keys) m.0 m.1))) made
      ∙ (λ i. Ok (world_of new named files, account_of name (known.2.1 i) new telling))

  -- it was refused as it would be there
  pub action_refused : {Out : Type 0} (cause : Cause) → Stands now list keys → ((known : Files) → now ≡ Some known → (made_of action old list.count (source_bytes known list.source) ≡ Err cause) ⊎ Out)
      → (acts action (world_of old named files) name keys ≡ Err cause) ⊎ Out
  action_refused cause stands refused =
      let known = known_stands now list keys stands in
      found_refused cause _ _ _ (made_again known.0 list keys action old known.2) (refused known.0 known.1)

-- ---- what is left of a shelf

pub leaves_kept : {X : Type 0} (old new : ShelfState) (r : Result X Cause) → KeepsShelf old new r → LeavesShelf old new r
leaves_kept old new (Ok x) keeps = record {
  still_unknown = λ unknown. keeps.same_files ∙ unknown;
  fine = ap (λ (s : ShelfState). s.failures) keeps.fine;
  missing = tt;
  put = tt;
  read = tt;
  others = tt;
  none_read = ap (λ (s : ShelfState). s.failed_reads) keeps.fine;
}
leaves_kept old new (Err cause) keeps = record {
  still_unknown = λ unknown. keeps.same_files ∙ unknown;
  fine = tt;
  missing = keeps.missing;
  put = λ is. absurd (keeps.not_put is);
  read = keeps.read;
  others = keeps.others;
  none_read = tt;
}

abbrev stopped : (X : Type 0) → Cause → Result X Cause
stopped X cause = Err cause

-- where nothing failed before
pub leaves_later : {X Y : Type 0} (old mid new : ShelfState) (cause : Cause) → (old.files ≡ None → mid.files ≡ None) → mid.failures ≡ old.failures → mid.failed_reads ≡ old.failed_reads → LeavesShelf mid new (stopped X cause) → LeavesShelf old new (stopped Y cause)
leaves_later old mid new cause unknown fine read leaves = record {
  still_unknown = λ none. leaves.still_unknown (unknown none);
  fine = tt;
  missing = λ is none. subst (λ n. Rose n new.failures) fine (leaves.missing is (unknown none));
  put = λ is. subst (λ n. Rose n new.failures) fine (leaves.put is);
  read = λ is. subst (λ n. Rose n new.failed_reads) read (leaves.read is);
  others = λ no. leaves.others no ∙ read;
  none_read = tt;
}

-- ---- a list more

pub uses_is : (set : Held) (named : Named) (files : FileMap) (name path keys : List ℕ) (count : ℕ) → keys_at_path (files path) ≡ Ok keys → length keys ≡ count → uses (world_of set named files) name path ≡ Ok (world_of set (named ++ (name, keys) ∷ []) files, accounts.Used name count)
uses_is set named files name path keys count found many =
    ap (λ r. r >>= (λ (keys : List ℕ). Ok (world_of set (named ++ (name, keys) ∷ []) files, accounts.Used name (length keys)))) found
    ∙ (λ i. Ok (world_of set (named ++ (name, keys) ∷ []) files, accounts.Used name (many i)))

-- ---- snapshots

pub restores_is : (old new : Held) (named : Named) (files : FileMap) (path : List ℕ) → table_at (files path) ≡ Ok new
    → restores (world_of old named files) path ≡ Ok (world_of new named files, accounts.Restored path (set.len new.keys) new.bits)
restores_is old new named files path found =
    ap (λ r. r >>= (λ (table : Held). Ok (world_of table named files, accounts.Restored path (set.len table.keys) table.bits))) found
