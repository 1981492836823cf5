-- A script of which no command is refused makes what its commands make, and of a part of the lists a part of that.
use Rattle.std.proofs.Common.{◌≡◌, ◌∙◌, ap, sym, subst, refl, ℕ, Bool, true, false, cond, List, [], ◌∷◌, ◌++◌, Option, Some, Result, Ok, Err}
use Rattle.std.specs.FinSet as set
use Rattle.std.specs.Str.{bytes_eq}
use Rattle.rh_layout.specs.Layout.{Keys}
use Rattle.rh_edit.specs.Held.{Held}
use Rattle.rh_edit.specs.Rising.{rising_keys}
use Rattle.rh_script.specs.Instruction.{Instruction, Numbered, Use, Act, Save, Clear, Dump, Snapshot, Restore}
use Rattle.rh_report.specs.Account.{Account}
use Rattle.rh_operations.specs.declared.cause.Cause.{Cause}
use Rattle.rh_script.specs.declared.action.Action.{Action}
use Rattle.rh_script.specs.declared.action.Action.TheVariants.{Add, Drop, Keep, Flip, Ask}
use Rattle.rh_operations.specs.Actions.{Telling, means}
use Rattle.rh_operations.specs.Sets.{held_after}
use Rattle.rh_operations.specs.Size.{size_for}
use Rattle.rh_shelf.specs.Shelf.{Files}
use Rattle.rh_script_run.specs.declared.report.Report.{Report}
use Rattle.rh_script_run.specs.Ends.{Ends}
use Rattle.rh_script_run.specs.Environment.{Environment}
use Rattle.rh_script_run.specs.Files.{File, HasFiles, Sealed}
use Rattle.rh_script_run.specs.Files as file_maps
use Rattle.rh_script_run.specs.Meaning.{CommandOutcome, ScriptState, held_table, keys_at_path, list_of, meaning, outcome_at, outcome_of, start, table_at, with_list}
use Rattle.rh_script_run.proofs.MadeLemmas.{Made, line_ok}
use Rattle.rh_script_run.proofs.RunLemmas.{reached_in, then_ok}
use Rattle.rh_part_laws.specs.Commands.{PartState, after, after_all, cut, with_held, with_name, with_sealed}
use Rattle.rh_part_laws.specs.Scripts.{Has, commands_of}
use Rattle.rh_part_laws.proofs.States.{cut_all}

abbrev as_ok : ScriptState × Account → CommandOutcome
as_ok done = Ok done

abbrev made_in : ScriptState × Account → CommandOutcome → ScriptState × Account
made_in other (Ok done) = done
made_in other (Err cause) = other

-- what holds of the state that a command made holds of that of its outcome
of_done : (s : PartState) (made done : ScriptState × Account) → as_ok made ≡ Ok done → Has made.0 s → Has done.0 s
of_done s made done is has = subst (λ (d : ScriptState × Account). Has d.0 s) (ap (made_in made) is) has

-- ---- a snapshot that was put

no_key_file : (b : Bool) (table : Held) (file : Option File) (keys list : List ℕ) → (keys_at_path file ≡ Ok keys → keys ≡ list) → keys_at_path (cond b (Some (Sealed table)) file) ≡ Ok keys → keys ≡ list
no_key_file true table file keys list other found = absurd cc
no_key_file false table file keys list other found = other found

its_keys : (b : Bool) (put : Held) (file : Option File) (table : Held) (S T : Keys) → put.keys ≡ S → (table_at file ≡ Ok table → table.keys ≡ T) → table_at (cond b (Some (Sealed put)) file) ≡ Ok table → table.keys ≡ cond b S T
its_keys true put file table S T is other found = sym (ap (λ r. keys_in r) found) ∙ is
  where
    keys_in : Result Held Cause → Keys
    keys_in (Ok t) = t.keys
    keys_in (Err cause) = S
its_keys false put file table S T is other found = other found

-- ---- an action

abbrev keys_of_made : Keys → Result (Held × Telling) Cause → Keys
keys_of_made other (Ok made) = made.0.keys
keys_of_made other (Err cause) = other

-- the keys that are held once it has made something
means_held : (action : Action) (t : Held) (keys : List ℕ) (made : Held × Telling) → means action t keys ≡ Ok made → made.0.keys ≡ held_after action t.keys keys
means_held Add t keys made is = let s = then_ok (size_for _ _) _ made is in sym (ap (keys_of_made t.keys) s.2)
means_held Drop t keys made is = sym (ap (keys_of_made t.keys) is)
means_held Keep t keys made is = let s = then_ok (size_for _ _) _ made is in sym (ap (keys_of_made t.keys) s.2)
means_held Flip t keys made is = let s = then_ok (size_for _ _) _ made is in sym (ap (keys_of_made t.keys) s.2)
means_held Ask t keys made is = sym (ap (keys_of_made t.keys) is)

-- ---- a command

module _ (w : ScriptState) (s : PartState) (has : Has w s) where
  now_named : (name keys list : List ℕ) → keys ≡ list → Has (with_list w name keys) (with_name s name list)
  now_named name keys list is = record {
    held = has.held;
    lists = λ i. has.lists i ++ (name, is i) ∷ [];
    files = has.files;
    snapshots = has.snapshots;
  }

  now_held : (S T : Keys) (bits : ℕ) → S ≡ T → Has (record w { held = S; bits = bits }) (with_held s T)
  now_held S T bits is = record { held = is; lists = has.lists; files = has.files; snapshots = has.snapshots }

  now_put : (path : List ℕ) → Has (record w { files = file_maps.with_snapshot w.files path (held_table w) }) (with_sealed s path s.held)
  now_put path = record {
    held = has.held;
    lists = has.lists;
    files = λ other keys. no_key_file (bytes_eq path other) (held_table w) (w.files other) keys (s.files other) (has.files other keys);
    snapshots = λ other table. its_keys (bytes_eq path other) (held_table w) (w.files other) table s.held (s.snapshots other) has.held (has.snapshots other table);
  }

  after_one : (said : Instruction) (done : ScriptState × Account) → outcome_of w said ≡ Ok done → Has done.0 (after s said)
  unfolding outcome_of
  after_one (Use name path) done is =
      let t = then_ok (keys_at_path (w.files path)) _ done is in
      of_done _ _ done t.2 (now_named name t.0 (s.files path) (has.files path t.0 t.1))
  after_one (Act action name) done is =
      let keys = list_of name w.lists in
      let t = then_ok (means action (held_table w) keys) _ done is in
      of_done _ _ done t.2 (now_held _ _ t.0.0.bits (means_held action (held_table w) keys t.0 t.1 ∙ (λ i. held_after action (has.held i) (list_of name (has.lists i)))))
  after_one (Save name) done is = of_done _ _ done is (now_named name (rising_keys w.held) (rising_keys s.held) (ap rising_keys has.held))
  after_one Clear done is = of_done _ _ done is (now_held set.empty set.empty _ refl)
  after_one Dump done is = of_done _ _ done is has
  after_one (Snapshot path) done is = of_done _ _ done is (now_put path)
  after_one (Restore path) done is =
      let t = then_ok (table_at (w.files path)) _ done is in
      of_done _ _ done t.2 (now_held _ _ t.0.bits (has.snapshots path t.0 t.1))

-- ---- all of them

after_steps : (w : ScriptState) (s : PartState) (steps : List Numbered) (made : Made) → Has w s → meaning w steps ≡ Ok made → Has made.0 (after_all s (commands_of steps))
unfolding meaning
after_steps w s [] made has means = subst (λ (x : Made). Has x.0 s) (ap (reached_in (w, [])) means) has
after_steps w s (step ∷ steps) made has means =
    let first = then_ok (outcome_at step.line (outcome_of w step.instruction)) _ made means in
    let rest = then_ok (meaning first.0.0 steps) _ made first.2 in
    let here : (rest.0.0, first.0.1 ∷ rest.0.1) ≡ made = ap (reached_in made) rest.2 in
    let one = after_one w s has step.instruction first.0 (line_ok step.line _ first.0 first.1) in
    subst (λ (x : Made). Has x.0 (after_all (after s step.instruction) (commands_of steps))) here (after_steps first.0.0 (after s step.instruction) steps rest.0 one rest.1)

pub of_script : (s : PartState) (w made : ScriptState) (steps : List Numbered) (accounts : List Account) → Has w s → meaning w steps ≡ Ok (made, accounts) → Has made (after_all s (commands_of steps))
of_script s w made steps accounts has means = after_steps w s steps (made, accounts) has means

pub of_part : (passes : ℕ → Bool) (s : PartState) (files : Files) (steps : List Numbered) (old new : Environment) (report : Report) → Has (start files) (cut passes s) → Ends files steps old new (Ok report)
    → (made : ScriptState) × Has made (cut passes (after_all s (commands_of steps))) × HasFiles made.files new.files × (report.held ≡ set.len made.held)
of_part passes s files steps old new report has done =
    let made = of_script (cut passes s) (start files) done.world steps done.accounts has done.means in
    (done.world, subst (λ (t : PartState). Has done.world t) (sym (cut_all passes s (commands_of steps))) made, done.files_now, ap (λ (r : Report). r.held) done.told)
