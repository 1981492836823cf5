-- A script step by step.
use Rattle.std.proofs.Common.{◌≡◌, ◌∙◌, ap, sym, subst, refl, arith, true, false, is_ok, ℕ, zero, suc, ◌+◌, ◌<◌, ◌≤◌, List, [], ◌∷◌, ◌++◌, length, take, drop, get_or, append_assoc, append-nil, Option, Some, None, Result, Ok, Err, string_bytes}
use Rattle.std.proofs.Common.{slice_index_or, take-append-drop}
use Rattle.std.proofs.lemmas.List.{take_all, take_more, length-append, length-map}
use Rattle.std.proofs.lemmas.Grind.{flat_map-append}
use Rattle.std.specs.Prelude.{IfSome, map}
use Rattle.std.specs.FinSet as finset
use Rattle.rh_layout.specs.declared.limits.TheConstants.{MIN_BITS}
use Rattle.rh_script.specs.declared.script.Command.{Command}
use Rattle.rh_script.specs.declared.script.Command.TheVariants as commands
use Rattle.rh_script.specs.declared.script.Step.{Step}
use Rattle.rh_script.specs.Steps.{instruction_as, planned_as}
use Rattle.std.proofs.KnownBytes.{Appends-nil, Appends-trans}
use Rattle.rh_edit.specs.Held.{Held}
use Rattle.rh_report.specs.Account.{Account, Says}
use Rattle.rh_script.specs.Instruction.{Instruction, Numbered, Use, Act, Save, Clear, Dump, Snapshot, Restore}
use Rattle.rh_script.specs.Names.{InOrder, admitted, file_of, files_in, given_by, is_given, names_in}
use Rattle.rh_script.specs.Plan.{Planned, number_after, plan_of, planned_after}
use Rattle.rh_shelf.specs.Shelf.{Files}
use Rattle.rh_operations.specs.declared.cause.Cause.{Cause}
use Rattle.rh_script_run.specs.declared.fault.RunFault.{RunFault}
use Rattle.rh_operations.specs.declared.key_lists.KeyList.{KeyList}
use Rattle.rh_script_run.specs.Files.{HasFiles, given_files}
use Rattle.rh_operations.specs.KeyLists.{paths_of}
use Rattle.rh_bytes.specs.Input.{◌>>=◌}
use Rattle.rh_operations.specs.Actions.{means}
use Rattle.rh_script_run.specs.Meaning.{ScriptState, CommandOutcome, outcome_at, keys_at_path, held_table, list_of, meaning, outcome_of, start, table_at}
use Rattle.rh_script_run.specs.Environment.{Environment}
use Rattle.rh_script_run.specs.Ends.{AllDone, EndsBy, LeavesFiles, SaysAll, Stopped, step_in}
use Rattle.rh_script_run.specs.Steps.{ActsOn, ComesAfter, HasList, ListsStand, Named, StepDone, names_of, world_of}
use Rattle.rh_script_run.specs.Reached.{CarriedOut, Moment, Reached}
use Rattle.rh_script_run.specs.Wanted.{IsHeldAt}
use Rattle.rh_script_run.specs.declared.wanted.Wanted.{Wanted}
use Rattle.rh_script_run.proofs.FileLemmas.{given_file}
use Rattle.rh_script.proofs.Order.{snapshot_is_new}
use Rattle.rh_script.proofs.Positions.{has_place}
use Rattle.rh_script_run.proofs.ListLemmas.{place_inside}

-- ---- what a step does to the names

abbrev as_ok : ScriptState × Account → CommandOutcome
as_ok done = Ok done

abbrev lists_of : CommandOutcome → Named
lists_of (Ok done) = done.0.lists
lists_of (Err cause) = []

pub then_ok : {A B E : Type 0} (r : Result A E) (f : A → Result B E) (y : B) → (r >>= f) ≡ Ok y → (x : A) × (r ≡ Ok x) × (f x ≡ Ok y)
then_ok (Ok x) f y h = (x, refl, h)
then_ok (Err e) f y h = absurd cc

same_names : (w v : ScriptState) (done : ScriptState × Account) (account : Account) → as_ok (v, account) ≡ Ok done → v.lists ≡ w.lists → names_of done.0.lists ≡ names_of w.lists ++ []
same_names w v done account is same = ap (λ (o : CommandOutcome). names_of (lists_of o)) (sym is) ∙ ap names_of same ∙ sym (append-nil (names_of w.lists))

names_push : (named : Named) (name keys : List ℕ) → names_of (named ++ (name, keys) ∷ []) ≡ names_of named ++ name ∷ []
names_push [] name keys = refl
names_push (n ∷ named) name keys = ap (λ l. n.0 ∷ l) (names_push named name keys)

names_after : (w : ScriptState) (said : Instruction) (done : ScriptState × Account) → outcome_of w said ≡ Ok done → names_of done.0.lists ≡ names_of w.lists ++ given_by said
unfolding outcome_of
names_after w (Use name path) done is =
    let s = then_ok (keys_at_path (w.files path)) _ done is in
    ap (λ (o : CommandOutcome). names_of (lists_of o)) (sym s.2) ∙ names_push w.lists name s.0
names_after w (Act action name) done is =
    let s = then_ok (means action (held_table w) (list_of name w.lists)) _ done is in same_names w _ done _ s.2 refl
names_after w (Save name) done is = ap (λ (o : CommandOutcome). names_of (lists_of o)) (sym is) ∙ names_push w.lists name _
names_after w Clear done is = same_names w _ done _ is refl
names_after w Dump done is = same_names w w done _ is refl
names_after w (Snapshot path) done is = same_names w _ done _ is refl
names_after w (Restore path) done is = let s = then_ok (table_at (w.files path)) _ done is in same_names w _ done _ s.2 refl

-- ---- one step more

abbrev pub Course : Type 0
Course = Result (ScriptState × List Account) RunFault

abbrev pub reached_in : ScriptState × List Account → Course → ScriptState × List Account
reached_in d (Ok x) = x
reached_in d (Err e) = d

meaning_more : (w : ScriptState) (before : List Numbered) (step : Numbered) (v : ScriptState) (accounts : List Account) (done : ScriptState × Account) → meaning w before ≡ Ok (v, accounts) → outcome_of v step.instruction ≡ Ok done → meaning w (before ++ step ∷ []) ≡ Ok (done.0, accounts ++ done.1 ∷ [])
unfolding meaning
meaning_more w [] step v accounts done means is =
    let here : (w, []) ≡ (v, accounts) = ap (reached_in (w, [])) means in
    let there : outcome_of w step.instruction ≡ Ok done = ap (λ (x : ScriptState × List Account). outcome_of x.0 step.instruction) here ∙ is in
    ap (λ o. outcome_at step.line o >>= (λ d. Ok (d.0, d.1 ∷ []))) there ∙ ap (λ (x : ScriptState × List Account). Ok (done.0, x.1 ++ done.1 ∷ [])) here
meaning_more w (s ∷ before) step v accounts done means is =
    let first = then_ok (outcome_at s.line (outcome_of w s.instruction)) _ (v, accounts) means in
    let rest = then_ok (meaning first.0.0 before) _ (v, accounts) first.2 in
    let here : (rest.0.0, first.0.1 ∷ rest.0.1) ≡ (v, accounts) = ap (reached_in (v, accounts)) rest.2 in
    let there : outcome_of rest.0.0 step.instruction ≡ Ok done = ap (λ (x : ScriptState × List Account). outcome_of x.0 step.instruction) here ∙ is in
    let more = meaning_more first.0.0 before step rest.0.0 rest.0.1 done rest.1 there in
    ap (λ r. r >>= (λ d. meaning d.0 (before ++ step ∷ []) >>= (λ others. Ok (others.0, d.1 ∷ others.1)))) first.1
    ∙ ap (λ (r : Course). r >>= (λ others. Ok (others.0, first.0.1 ∷ others.1))) more
    ∙ ap (λ (x : ScriptState × List Account). Ok (done.0, x.1 ++ done.1 ∷ [])) here

pub says_more : (accounts : List Account) (text : List ℕ) (account : Account) (more : List ℕ) → SaysAll accounts text → Says account more → SaysAll (accounts ++ account ∷ []) (text ++ more)
says_more [] text account more says new = (more, [], new, refl, ap (λ l. l ++ more) says ∙ sym (append-nil more))
says_more (a ∷ accounts) text account more says new =
    (says.0, says.1 ++ more, says.2, says_more accounts says.1 account more says.3 new, ap (λ l. l ++ more) says.4 ∙ append_assoc says.0 says.1 more)

-- ---- the plan

names_more : (before : List Numbered) (step : Numbered) → names_in (before ++ step ∷ []) ≡ names_in before ++ given_by step.instruction
unfolding names_in
names_more [] step = append-nil (given_by step.instruction)
names_more (s ∷ before) step = ap (λ l. given_by s.instruction ++ l) (names_more before step) ∙ sym (append_assoc (given_by s.instruction) (names_in before) (given_by step.instruction))

files_more : (before : List Numbered) (step : Numbered) → files_in (before ++ step ∷ []) ≡ files_in before ++ file_of step.instruction
unfolding files_in
files_more before step =
    flat_map-append (λ (s : Numbered). file_of s.instruction) before (step ∷ [])
    ∙ ap (λ paths. files_in before ++ paths) (append-nil (file_of step.instruction))

planned_at : (given : List (List ℕ)) (steps : List Numbered) (i : ℕ) (d : Planned) (e : Numbered) → i < length steps
    → get_or (planned_after given steps) i d ≡ record { line = (get_or steps i e).line; instruction = (get_or steps i e).instruction; list = number_after (given ++ names_in (take i steps)) (get_or steps i e).instruction }
unfolding planned_after names_in
planned_at given [] i d e inside = absurd (omega (arith, inside))
planned_at given (s ∷ steps) zero d e inside = ap (λ g. record { line = s.line; instruction = s.instruction; list = number_after g s.instruction }) (sym (append-nil given))
planned_at given (s ∷ steps) (suc i) d e inside =
    planned_at (given ++ given_by s.instruction) steps i d e (omega (arith, inside))
    ∙ ap (λ g. record { line = (get_or steps i e).line; instruction = (get_or steps i e).instruction; list = number_after g (get_or steps i e).instruction }) (append_assoc given (given_by s.instruction) (names_in (take i steps)))

planned_long : (given : List (List ℕ)) (steps : List Numbered) → length (planned_after given steps) ≡ length steps
unfolding planned_after
planned_long given [] = refl
planned_long given (s ∷ steps) = ap suc (planned_long (given ++ given_by s.instruction) steps)

-- ---- the loop over the steps

module _ (files : Files) (before : List Numbered) (step : Numbered) (old : Environment) (now next : Moment) (so_far : Reached files before old now) where
  abbrev world : ScriptState
  world = world_of now.set so_far.done.named so_far.done.made

  reached_more : (did : StepDone (step_in world step.instruction now.environment next.environment) next.set next.lists) → paths_of next.lists ≡ paths_of now.lists ++ file_of step.instruction → Reached files (before ++ step ∷ []) old next
  reached_more did paths = record {
    done = record {
      named = did.made.named;
      made = did.made.files;
      accounts = so_far.done.accounts ++ did.account ∷ [];
      text = so_far.done.text ++ did.told.0;
      means = meaning_more (start files) before step world so_far.done.accounts (world_of next.set did.made.named did.made.files, did.account) so_far.done.means did.made.is;
      has = did.made.has;
      says = says_more so_far.done.accounts so_far.done.text did.account did.told.0 so_far.done.says did.told.1;
      written = Appends-trans old.text now.environment.text next.environment.text so_far.done.text did.told.0 so_far.done.written did.told.2;
    };
    stand = did.made.stand;
    names = names_after world step.instruction (world_of next.set did.made.named did.made.files, did.account) did.made.is ∙ ap (λ l. l ++ given_by step.instruction) so_far.names ∙ sym (names_more before step);
    paths = paths ∙ ap (λ l. l ++ file_of step.instruction) so_far.paths ∙ sym (files_more before step);
  }

pub reached_start : (files : Files) (old : Environment) (set : Held) (lists : List KeyList) → old.files ≡ Some files → set.keys ≡ finset.empty → set.bits ≡ MIN_BITS → lists ≡ [] → Reached files [] old (record { set = set; lists = lists; environment = old })
unfolding meaning names_in files_in
reached_start files old set lists known keys bits none = record {
  done = record {
    named = [];
    made = given_files files;
    accounts = [];
    text = [];
    means = λ i. Ok (record { held = sym keys i; bits = sym bits i; lists = []; files = given_files files }, []);
    has = subst (HasFiles (given_files files)) (sym known) (λ path. given_file (files path));
    says = refl;
    written = Appends-nil old.text;
  };
  stand = subst (λ l. ListsStand old.files l []) (sym none) tt;
  names = refl;
  paths = ap paths_of none;
}

-- ---- a step of the script, as the code has it

acts_on : (command : Command) (list : Option ℕ) (before : List Numbered) (n : ℕ) → is_ok (admitted before (instruction_as command)) ≡ true → number_after (names_in before) (instruction_as command) ≡ list → n ≡ length (names_in before) → ActsOn command list n
unfolding admitted number_after
acts_on (commands.Use name path) list before n ok number is = tt
acts_on (commands.Act action name) None before n ok number is = absurd (has_place (string_bytes name) (names_in before) ok number)
acts_on (commands.Act action name) (Some list) before n ok number is = rw is (place_inside (string_bytes name) (names_in before) list number)
acts_on (commands.Save name) list before n ok number is = tt
acts_on commands.Clear list before n ok number is = tt
acts_on commands.Dump list before n ok number is = tt
acts_on (commands.Snapshot path) list before n ok number is = tt
acts_on (commands.Restore path) list before n ok number is = tt

-- it is the step at this position, and has the number of its list
pub record StepAt (steps : List Numbered) (i : ℕ) (step : Step) : Type 0 where
  pub numbered : Numbered
  pub parts : steps ≡ take i steps ++ numbered ∷ drop (i + 1) steps
  pub more : take (i + 1) steps ≡ take i steps ++ numbered ∷ []
  pub line : step.line ≡ numbered.line
  pub said : (instruction_as step.command) ≡ numbered.instruction
  pub number : number_after (names_in (take i steps)) (instruction_as step.command) ≡ step.list

map_at : (items : List Step) (i : ℕ) (d : Step) (e : Planned) → i < length items → get_or (map planned_as items) i e ≡ planned_as (get_or items i d)
map_at [] i d e inside = absurd (omega (arith, inside))
map_at (x ∷ items) zero d e inside = refl
map_at (x ∷ items) (suc i) d e inside = map_at items i d e (omega (arith, inside))

drop_at_place : (steps : List Numbered) (i : ℕ) (e : Numbered) → i < length steps → drop i steps ≡ get_or steps i e ∷ drop (i + 1) steps
drop_at_place [] i e inside = absurd (omega (arith, inside))
drop_at_place (s ∷ steps) zero e inside = refl
drop_at_place (s ∷ steps) (suc i) e inside =
    let next : suc i + 1 ≡ suc (i + 1) = omega arith in
    drop_at_place steps i e (omega (arith, inside)) ∙ ap (λ j. get_or steps i e ∷ drop j (s ∷ steps)) (sym next)

all_planned : (items : List Step) (steps : List Numbered) → map planned_as items ≡ plan_of steps → length items ≡ length steps
all_planned items steps planned = sym (length-map items planned_as) ∙ ap length planned ∙ planned_long [] steps

pub step_at : (items : List Step) (steps : List Numbered) (i : ℕ) (step : Step) → map planned_as items ≡ plan_of steps → i < length items → step ≡ slice_index_or items i step → StepAt steps i step
step_at items steps i step planned inside item =
    let e : Numbered = record { line = 0; instruction = Clear } in
    let long = all_planned items steps planned in
    let here : i < length steps = omega (arith, long, inside) in
    let is = ap planned_as item ∙ sym (map_at items i step (planned_as step) inside) ∙ ap (λ (l : List Planned). get_or l i (planned_as step)) planned ∙ planned_at [] steps i (planned_as step) e here in
    let said = ap (λ (p : Planned). p.instruction) is in
    record {
      numbered = get_or steps i e;
      parts = sym (take-append-drop i steps) ∙ ap (λ l. take i steps ++ l) (drop_at_place steps i e here);
      more = take_more steps i e here;
      line = ap (λ (p : Planned). p.line) is;
      said = said;
      number = ap (number_after (names_in (take i steps))) said ∙ sym (ap (λ (p : Planned). p.list) is);
    }

module _ (steps : List Numbered) (ordered : InOrder steps) (i : ℕ) (step : Step) (here : StepAt steps i step) where
  may_stand : is_ok (admitted (take i steps) (instruction_as step.command)) ≡ true
  may_stand = subst (λ said. is_ok (admitted (take i steps) said) ≡ true) (sym here.said) (ordered (take i steps) (drop (i + 1) steps) here.numbered here.parts)

  pub is_apart : (lists : List KeyList) → paths_of lists ≡ files_in (take i steps) → (path : List ℕ) → instruction_as step.command ≡ Snapshot path → is_given path (paths_of lists) ≡ false
  is_apart lists paths path is =
      ap (is_given path) paths ∙ snapshot_is_new (take i steps) (instruction_as step.command) path may_stand is

  pub has_list : (n : ℕ) → n ≡ length (names_in (take i steps)) → HasList step n
  has_list n many = acts_on step.command step.list (take i steps) n may_stand here.number many

pub more_lists : (steps : List Numbered) (i : ℕ) (step : Numbered) (said : Instruction) (n m : ℕ) → take (i + 1) steps ≡ take i steps ++ step ∷ [] → said ≡ step.instruction → n ≡ length (names_in (take i steps)) → m ≡ n + length (given_by said) → m ≡ length (names_in (take (i + 1) steps))
more_lists steps i step said n m more is so_far grown =
    let both : length (names_in (take i steps) ++ given_by step.instruction) ≡ length (names_in (take i steps)) + length (given_by step.instruction) = length-append (names_in (take i steps)) (given_by step.instruction) in
    let same : length (given_by said) ≡ length (given_by step.instruction) = ap (λ s. length (given_by s)) is in
    let now : length (names_in (take (i + 1) steps)) ≡ length (names_in (take i steps) ++ given_by step.instruction) = ap length (ap names_in more ∙ names_more (take i steps) step) in
    omega (arith, both, same, now, so_far, grown)

module _ (files : Files) (steps : List Numbered) (i : ℕ) (step : Step) (old : Environment) (now : Moment) (here : StepAt steps i step) (so_far : Reached files (take i steps) old now) where
  abbrev world_here : ScriptState
  world_here = world_of now.set so_far.done.named so_far.done.made

  pub comes_after : InOrder steps → ComesAfter step so_far.done.named so_far.done.made now.lists now.environment.files
  comes_after ordered = record {
    has = so_far.done.has;
    stand = so_far.stand;
    number = subst (λ given. number_after given (instruction_as step.command) ≡ step.list) (sym so_far.names) here.number;
    apart = is_apart steps ordered i step here now.lists so_far.paths;
  }

  pub goes_on : (next : Moment) → StepDone (step_in world_here (instruction_as step.command) now.environment next.environment) next.set next.lists → paths_of next.lists ≡ paths_of now.lists ++ file_of (instruction_as step.command) → Reached files (take (i + 1) steps) old next
  goes_on next did paths =
      let its = subst (λ said. StepDone (step_in world_here said now.environment next.environment) next.set next.lists) here.said did in
      let its_paths = subst (λ said. paths_of next.lists ≡ paths_of now.lists ++ file_of said) here.said paths in
      subst (λ l. Reached files l old next) (sym here.more) (reached_more files (take i steps) here.numbered old now next so_far its its_paths)

  pub stops_here : (new : Environment) (cause : Cause) → now.environment.failures ≡ old.failures → now.environment.failed_reads ≡ old.failed_reads → now.environment.refused_starts ≡ old.refused_starts
      → EndsBy (step_in world_here (instruction_as step.command) now.environment new) cause × LeavesFiles (step_in world_here (instruction_as step.command) now.environment new) so_far.done.made cause
      → Stopped files steps old new (record { line = step.line; cause = cause })
  stops_here new cause fine read started ends = record {
    before = take i steps;
    step = here.numbered;
    after = drop (i + 1) steps;
    parts = here.parts;
    line = here.line;
    world = world_here;
    accounts = so_far.done.accounts;
    text = so_far.done.text;
    means = so_far.done.means;
    says = so_far.done.says;
    middle = now.environment;
    written = so_far.done.written;
    fine = fine;
    read = read;
    started = started;
    ends = subst (λ said. EndsBy (step_in world_here said now.environment new) cause) here.said ends.0;
    files_now = subst (λ said. LeavesFiles (step_in world_here said now.environment new) so_far.done.made cause) here.said ends.1;
  }

  -- what is held there, where it is told
  pub held_where : (wanted : Option Wanted) → IfSome wanted (λ w. w.held ≡ finset.len now.set.keys) → IfSome wanted (λ w. IsHeldAt files steps step.line w.held)
  held_where None held = tt
  held_where (Some w) held = record {
    before = take i steps;
    step = here.numbered;
    after = drop (i + 1) steps;
    parts = here.parts;
    line = sym here.line;
    world = world_here;
    accounts = so_far.done.accounts;
    means = so_far.done.means;
    held = held;
  }

pub all_carried_out : (files : Files) (items : List Step) (steps : List Numbered) (i : ℕ) (old : Environment) (now : Moment) → map planned_as items ≡ plan_of steps → length items ≤ i → Reached files (take i steps) old now → CarriedOut files steps now.set old now.environment
all_carried_out files items steps i old now planned ended so_far =
    let all : take i steps ≡ steps = take_all i steps (omega (arith, all_planned items steps planned, ended)) in
    subst (λ l. CarriedOut files l now.set old now.environment) all so_far.done

pub all_done : (files : Files) (steps : List Numbered) (set : Held) (old new : Environment) (commands held bits : ℕ) → CarriedOut files steps set old new → commands ≡ length steps → held ≡ finset.len set.keys → bits ≡ set.bits → new.failures ≡ old.failures → new.failed_reads ≡ old.failed_reads → new.refused_starts ≡ old.refused_starts → AllDone files steps old new (record { commands = commands; held = held; bits = bits })
all_done files steps set old new commands held bits carried many held_is bits_is fine read started = record {
  world = world_of set carried.named carried.made;
  accounts = carried.accounts;
  text = carried.text;
  means = carried.means;
  says = carried.says;
  written = carried.written;
  files_now = carried.has;
  told = λ i. record { commands = many i; held = held_is i; bits = bits_is i };
  fine = fine;
  read = read;
  started = started;
}
