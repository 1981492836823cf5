-- What the steps so far give.
use Rattle.std.proofs.Common.{◌≡◌, ◌∙◌, ◌⊎◌, inl, inr, ap, sym, subst, ℕ, Bool, true, false, cond, ◌||◌, List, [], ◌∷◌, ◌++◌, length, Option, Ok, is_ok, map, String, string_bytes, refl, arith}
use Rattle.std.specs.Global.{Global}
use Rattle.std.specs.Str.{bytes_eq}
use Rattle.std.specs.BTreeMap.{BTreeMap, IsEmpty as IsEmptyMap}
use Rattle.std.specs.BTreeSet.{BTreeSet, IsEmpty, contains_text}
use Rattle.std.proofs.lemmas.Grind.{flat_map-append}
use Rattle.std.proofs.Math.Bool.{or-false}
use Rattle.std.proofs.lemmas.List.{append-nil, map-append}
use Rattle.std.proofs.lemmas.List.Folds.{list_any-append}
use Rattle.std.specs.List.{flat_map}
use Rattle.rh_script.specs.declared.given.Given.{Given}
use Rattle.rh_script.specs.declared.script.Command.{Command}
use Rattle.rh_script.specs.declared.script.Command.TheVariants as commands
use Rattle.rh_script.specs.declared.script.Step.{Step}
use Rattle.rh_script.specs.Instruction.{Instruction, Numbered}
use Rattle.rh_script.specs.Names.{admitted, file_of, files_in, given_by, is_given, names_in, once, snapshot_of, snapshots_in}
use Rattle.rh_script.specs.Steps.{instruction_as, step_as}
use Rattle.rh_script.specs.Script.{GivenBy, HasJust, HasPlaces, HasRead}
use Rattle.rh_lines.proofs.Reading.{both}
use Rattle.rh_script.specs.Plan.{number_after, place_after, position_of}
use Rattle.rh_script.proofs.Numbering.{numbered_more}

pub one_more : (new old here : Bool) → new ≡ cond here true old → new ≡ (old || here)
one_more new true true h = h
one_more new true false h = h
one_more new false true h = h
one_more new false false h = h

-- ---- a step more

given_in_more : (of : Instruction → List (List ℕ)) (before : List Numbered) (step : Numbered)
    → flat_map (λ (s : Numbered). of s.instruction) (before ++ step ∷ []) ≡ flat_map (λ (s : Numbered). of s.instruction) before ++ of step.instruction
given_in_more of before step =
    flat_map-append (λ (s : Numbered). of s.instruction) before (step ∷ [])
    ∙ ap (λ given. flat_map (λ (s : Numbered). of s.instruction) before ++ given) (append-nil (of step.instruction))

pub names_more : (before : List Numbered) (step : Numbered) → names_in (before ++ step ∷ []) ≡ names_in before ++ given_by step.instruction
unfolding names_in
names_more before step = given_in_more given_by before step

files_more : (before : List Numbered) (step : Numbered) → files_in (before ++ step ∷ []) ≡ files_in before ++ file_of step.instruction
unfolding files_in
files_more before step = given_in_more file_of before step

snapshots_more : (before : List Numbered) (step : Numbered) → snapshots_in (before ++ step ∷ []) ≡ snapshots_in before ++ snapshot_of step.instruction
unfolding snapshots_in
snapshots_more before step = given_in_more snapshot_of before step

-- ---- the sets after a step

-- the new set has what the old one has, and the text that is given, if one is
abbrev pub Adds : BTreeSet (String Global) → BTreeSet (String Global) → List (List ℕ) → Type 0
Adds old new [] = new ≡ old
Adds old new (text ∷ texts) = (texts ≡ []) × ((other : List ℕ) → contains_text new other ≡ (contains_text old other || bytes_eq text other))

just_more : (old new : BTreeSet (String Global)) (given texts : List (List ℕ)) → HasJust old given → Adds old new texts → HasJust new (given ++ texts)
unfolding is_given
just_more old new given [] has same = λ other.
    ap (λ set. contains_text set other) same ∙ has other ∙ ap (is_given other) (sym (append-nil given))
just_more old new given (text ∷ texts) has adds = λ other.
    adds.1 other
    ∙ ap (λ b. b || bytes_eq text other) (has other)
    ∙ ap (λ b. is_given other given || b) (sym (or-false (bytes_eq text other)))
    ∙ sym (list_any-append (λ one. bytes_eq one other) given (text ∷ []))
    ∙ ap (λ all. is_given other (given ++ text ∷ all)) (sym adds.0)

given_more : (before : List Numbered) (line : ℕ) (said : Instruction) (old new : Given) → GivenBy before old → HasPlaces new.lists (names_in before ++ given_by said) → Adds old.files new.files (file_of said) → Adds old.snapshots new.snapshots (snapshot_of said) → GivenBy (before ++ record { line = line; instruction = said } ∷ []) new
given_more before line said old new has lists files snapshots =
    let step : Numbered = record { line = line; instruction = said } in
    record {
      lists = subst (HasPlaces new.lists) (sym (names_more before step)) lists;
      files = subst (HasJust new.files) (sym (files_more before step)) (just_more old.files new.files (files_in before) (file_of said) has.files files);
      snapshots = subst (HasJust new.snapshots) (sym (snapshots_more before step)) (just_more old.snapshots new.snapshots (snapshots_in before) (snapshot_of said) has.snapshots snapshots);
    }

pub nothing_given : (given : Given) → IsEmptyMap given.lists → IsEmpty given.files → IsEmpty given.snapshots → GivenBy [] given
unfolding is_given names_in files_in snapshots_in position_of
nothing_given given lists files snapshots = record {
  lists = record { many = ap length lists; places = λ name. rw lists refl };
  files = λ text. grind (arith, files);
  snapshots = λ text. grind (arith, snapshots);
}

-- ---- what a command leaves

pub adds_one : (old new : BTreeSet (String Global)) (string : String Global) (text : List ℕ) → text ≡ string_bytes string → ((other : List ℕ) → contains_text new other ≡ (contains_text old other || bytes_eq text other)) → Adds old new (string_bytes string ∷ [])
adds_one old new string text is adds = (refl, λ other. adds other ∙ ap (λ t. contains_text old other || bytes_eq t other) is)

pub same_places : (lists : BTreeMap (String Global) ℕ) (given : List (List ℕ)) → HasPlaces lists given → HasPlaces lists (given ++ [])
same_places lists given has = subst (HasPlaces lists) (sym (append-nil given)) has

pub kept : (before : List Numbered) (line : ℕ) (command shape : Command) (old new : Given) → GivenBy before old → command ≡ shape
    → HasPlaces new.lists (names_in before ++ given_by (instruction_as shape)) → Adds old.files new.files (file_of (instruction_as shape)) → Adds old.snapshots new.snapshots (snapshot_of (instruction_as shape))
    → GivenBy (before ++ record { line = line; instruction = instruction_as command } ∷ []) new
kept before line command shape old new has is lists files snapshots =
    subst (λ c. GivenBy (before ++ record { line = line; instruction = instruction_as c } ∷ []) new) (sym is) (given_more before line (instruction_as shape) old new has lists files snapshots)

-- of a command that gives nothing
pub nothing_kept : (before : List Numbered) (line : ℕ) (command shape : Command) (given : Given) → GivenBy before given → command ≡ shape
    → given_by (instruction_as shape) ≡ [] → file_of (instruction_as shape) ≡ [] → snapshot_of (instruction_as shape) ≡ []
    → GivenBy (before ++ record { line = line; instruction = instruction_as command } ∷ []) given
nothing_kept before line command shape given has is no_name no_file no_snapshot =
    kept before line command shape given given has is (rw no_name (same_places given.lists (names_in before) has.lists)) (rw no_file refl) (rw no_snapshot refl)

-- the command has no name, and gives no path
abbrev pub GivesNothing : Command → Type 0
GivesNothing command = (command ≡ commands.Clear) ⊎ ((command ≡ commands.Dump) ⊎ ((path : String Global) × (command ≡ commands.Restore path)))

pub none_kept : (before : List Numbered) (line : ℕ) (command : Command) (given : Given) → GivenBy before given → GivesNothing command → GivenBy (before ++ record { line = line; instruction = instruction_as command } ∷ []) given
none_kept before line command given has (inl is) = nothing_kept before line command _ given has is refl refl refl
none_kept before line command given has (inr (inl is)) = nothing_kept before line command _ given has is refl refl refl
none_kept before line command given has (inr (inr is)) = nothing_kept before line command _ given has is.1 refl refl refl

-- ---- what a command is answered

pub may_stand_once : (b : Bool) → is_ok (once b) ≡ true → b ≡ false
may_stand_once true h = absurd cc
may_stand_once false h = refl

-- the number that was answered is that of the instruction's list
pub numbered_as : (before : List Numbered) (said : Instruction) (list : Option ℕ) → place_after before said ≡ Ok list → list ≡ number_after (names_in before) said
numbered_as before said list is =
    let ok = both (admitted before said) _ list is in
    cc (ok.2)

-- ---- a line more of a script

pub known_more : (old new : Given) (before after : List Step) (step : Step) → HasRead before old → ((steps : List Numbered) (line : ℕ) → GivenBy steps old → GivenBy (steps ++ record { line = line; instruction = instruction_as step.command } ∷ []) new) → step.list ≡ number_after (names_in (map step_as before)) (instruction_as step.command) → after ≡ before ++ step ∷ [] → HasRead after new
known_more old new before after step has kept list is =
    let more : map step_as before ++ step_as step ∷ [] ≡ map step_as after = sym (ap (map step_as) is ∙ map-append step_as before (step ∷ [])) in
    record {
      kept = subst (λ steps. GivenBy steps new) more (kept (map step_as before) step.line has.kept);
      numbered = numbered_more before after step has.numbered list is;
    }
