-- From a step to what is left of the script's state.
use Rattle.std.proofs.Common.{◌≡◌, sym, subst, refl, slice_index_or, ℕ, ◌<◌, inl, inr, List, [], Option, Some, None, IsSome, String, Result, Ok, Err}
use Rattle.rh_edit.specs.Held.{Held}
use Rattle.rh_report.specs.Account.{Account}
use Rattle.rh_shelf.specs.Shelf.{Files}
use Rattle.rh_script.specs.Instruction.{Instruction, Use, Act, Save, Clear, Dump, Snapshot, Restore}
use Rattle.rh_script.specs.declared.action.Action.{Action}
use Rattle.rh_script.specs.declared.script.Command.{Command}
use Rattle.rh_script.specs.declared.script.Command.TheVariants as commands
use Rattle.rh_script.specs.Plan.{position_of}
use Rattle.std.specs.Global.{Global}
use Rattle.rh_operations.specs.declared.cause.Cause.{Cause}
use Rattle.rh_operations.specs.declared.cause.Cause.TheVariants as causes
use Rattle.rh_operations.specs.declared.key_lists.KeyList.{KeyList}
use Rattle.rh_script_run.specs.Files.{FileMap, HasFiles}
use Rattle.rh_operations.specs.KeyLists.{Stands}
use Rattle.rh_script_run.specs.Meaning.{ScriptState, CommandOutcome, list_of, outcome_of}
use Rattle.rh_script_run.specs.Ends.{IsMet, LeavesFiles, LeavesOthers, CommandRun, TellsFront, step_in}
use Rattle.rh_script_run.specs.Environment.{Environment}
use Rattle.rh_script_run.specs.Steps.{ActsOn, ListsStand, HasMade, MakesOrRefuses, MakesLists, MakesState, Named, StateEnds, names_of, world_of}
use Rattle.rh_script_run.specs.declared.told.Told.{Told}
use Rattle.rh_operations.specs.Refusals.{RefusedBy}
use Rattle.std.specs.Io.KnownBytes.{Appends}
use Rattle.rh_script_run.proofs.ListLemmas.{stands_at}

-- ---- a command that puts no file

abbrev pub IsPlain : Instruction → Type 0
IsPlain (Snapshot path) = ⊥
IsPlain _ = Unit {0}

others_left : (said : Instruction) (files : FileMap) (now : Option Files) → IsPlain said → HasFiles files now → LeavesOthers said files now
others_left (Use name path) files now plain has = has
others_left (Act action name) files now plain has = has
others_left (Save name) files now plain has = has
others_left Clear files now plain has = has
others_left Dump files now plain has = has
others_left (Snapshot path) files now plain has = absurd plain
others_left (Restore path) files now plain has = has

module _ (said : Instruction) (plain : IsPlain said) (outcome : CommandOutcome) (outside : Cause → Type 0) (found : FileMap) (before now : Option Files) (same : now ≡ before) (has : HasFiles found before) where
  still_has : HasFiles found now
  still_has = subst (HasFiles found) (sym same) has

  pub plain_state : (set : Held) (lists : List KeyList) (r : Result Told Cause) → MakesLists outcome outside found before set lists r → MakesState said outcome outside found now set lists r
  plain_state set lists (Ok told) made = record {
    named = made.0;
    files = found;
    is = made.1;
    stand = subst (λ files. ListsStand files lists made.0) (sym same) made.2;
    has = still_has;
  }
  plain_state set lists (Err cause) refused = (refused, others_left said found now plain still_has)

  -- where it left the lists as they were
  pub lists_stay : (set : Held) (lists : List KeyList) (named : Named) (r : Result Told Cause) → MakesOrRefuses outcome outside (world_of set named found) set r → ListsStand before lists named → MakesState said outcome outside found now set lists r
  lists_stay set lists named (Ok told) made stand = plain_state set lists (Ok told) (named, made, stand)
  lists_stay set lists named (Err cause) refused stand = plain_state set lists (Err cause) refused

-- ---- the report of a command

left_by : (step : CommandRun) (found : FileMap) (cause : Cause) → (cause ≡ causes.Write → ⊥) → LeavesOthers step.said found step.after.files → LeavesFiles step found cause
left_by step found causes.Write other left = absurd (other refl)
left_by step found _ other left = left

module _ (w : ScriptState) (said : Instruction) (before after : Environment) (found : FileMap) (set : Held) (lists : List KeyList) (r : Result (Unit {0}) Cause) where
  abbrev step : CommandRun
  step = step_in w said before after

  -- it was refused, and told nothing
  pub refused_ends : (cause : Cause) → r ≡ Err cause → (cause ≡ causes.Write → ⊥) → Appends before.text after.text [] → RefusedBy (outcome_of w said) (IsMet step) cause × LeavesOthers said found after.files → StateEnds step found set lists r
  refused_ends cause is other nothing ends =
      subst (StateEnds step found set lists) (sym is) (inl (nothing, ends.0), left_by step found cause other ends.1)

  -- it could not be told whole
  pub untold_ends : r ≡ Err causes.Write → (account : Account) → HasMade (outcome_of w said) after.files set lists account → TellsFront account before.text after.text → StateEnds step found set lists r
  untold_ends is account made told =
      let done : ScriptState × Account = (world_of set made.named made.files, account) in
      subst (StateEnds step found set lists) (sym is) (inr (refl, done, made.is, told), (done, made.is, made.has))

-- ---- the list that a step acts on

pub has_number : (command : Command) (list : Option ℕ) (many : ℕ) (action : Action) (name : String Global) → ActsOn command list many → command ≡ commands.Act action name → IsSome list
has_number command None many action name on is = absurd (subst (λ c. ActsOn c None many) is on)
has_number command (Some list) many action name on is = refl

pub is_within : (command : Command) (list : Option ℕ) (many : ℕ) (action : Action) (name : String Global) (i : ℕ) → ActsOn command list many → command ≡ commands.Act action name → list ≡ Some i → i < many
is_within command list many action name i on is at = subst (λ l. ActsOn (commands.Act action name) l many) at (subst (λ c. ActsOn c list many) is on)

pub list_at : (lists : List KeyList) (named : Named) (now : Option Files) (name : List ℕ) (i : ℕ) (list : KeyList) → ListsStand now lists named → position_of name (names_of named) ≡ Some i → list ≡ slice_index_or lists i list → Stands now list (list_of name named)
list_at lists named now name i list stand source is =
    subst (λ l. Stands now l (list_of name named)) (sym is) (stands_at now lists named name i list stand source)
