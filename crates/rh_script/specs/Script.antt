-- What the code's scripts, answers and kept texts stand for.
use Rattle.std.specs.Prelude.{◌≡◌, ℕ, List, length, map, String, Result}
use Rattle.std.specs.Global.{Global}
use Rattle.std.specs.BTreeMap.{BTreeMap, btree_map_len, get_by_text}
use Rattle.std.specs.BTreeSet.{BTreeSet, contains_text}
use Rattle.rh_lines.specs.Grammar as texts
use Rattle.rh_script.specs.declared.fault.ScriptFaultKind.{ScriptFaultKind}
use Rattle.rh_script.specs.declared.fault.ScriptFaultKind.TheVariants.{Memory}
use Rattle.rh_script.specs.declared.script.Plan.{Plan}
use Rattle.rh_script.specs.declared.script.Script.{Script}
use Rattle.rh_script.specs.declared.script.Step.{Step}
use Rattle.rh_script.specs.declared.given.Given.{Given}
use Rattle.rh_script.specs.Instruction.{Numbered}
use Rattle.rh_script.specs.Names.{is_given, names_in, files_in, snapshots_in}
use Rattle.rh_script.specs.Plan.{Planned, plan_of, position_of}
use Rattle.rh_script.specs.Steps.{planned_as, step_as}

-- the steps of a script, in order
abbrev pub steps_of : Script → List Numbered
steps_of script = map step_as script.steps.items

-- those of a plan, with the numbers of their lists
abbrev pub planned_of : Plan → List Planned
planned_of plan = map planned_as plan.script.now.steps.items

-- What a call answers, seen by view, is what the grammar says; want of memory says nothing of it.
abbrev pub Answers : {X Y : Type 0} → Result Y ScriptFaultKind → (X → Y) → Result X ScriptFaultKind → Type 0
Answers = texts.AnswersExcept Memory

-- the set has just the texts that are given
abbrev pub HasJust : BTreeSet (String Global) → List (List ℕ) → Type 0
HasJust texts given = (text : List ℕ) → contains_text texts text ≡ is_given text given

-- the map has just the names that are given, each with its place
pub record HasPlaces (lists : BTreeMap (String Global) ℕ) (given : List (List ℕ)) : Type 0 where
  pub many : btree_map_len lists ≡ length given
  pub places : (name : List ℕ) → get_by_text lists name ≡ position_of name given

-- what is kept is what these steps give
pub record GivenBy (steps : List Numbered) (given : Given) : Type 0 where
  pub lists : HasPlaces given.lists (names_in steps)
  pub files : HasJust given.files (files_in steps)
  pub snapshots : HasJust given.snapshots (snapshots_in steps)

-- What is kept is what these steps give, and each of them has the number of its list.
pub record HasRead (steps : List Step) (given : Given) : Type 0 where
  pub kept : GivenBy (map step_as steps) given
  pub numbered : map planned_as steps ≡ plan_of (map step_as steps)
