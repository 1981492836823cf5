-- A run that nothing from outside ended has what its script means.
use Rattle.std.proofs.Common.{◌≡◌, ◌∙◌, ap, sym, subst, refl, ℕ, inl, inr, List, [], ◌∷◌, ◌++◌, append-nil, Option, Some, None, Result, Ok, Err}
use Rattle.std.proofs.lemmas.List.Elements.{All-head, All-tail}
use Rattle.std.specs.Prelude.{All}
use Rattle.std.specs.Io.KnownBytes.{Appends}
use Rattle.std.proofs.KnownBytes.{Appends-trans}
use Rattle.rh_bytes.specs.Counting.{Rose}
use Rattle.rh_key_files.specs.declared.fault.KeyFault.TheVariants as key_faults
use Rattle.rh_snapshot.specs.declared.fault.SnapFault.TheVariants as snap_faults
use Rattle.rh_snapshot.specs.declared.version.Version.TheVariants.{Second}
use Rattle.rh_snapshot.specs.Snapshot.{snap_spelling}
use Rattle.rh_bytes.specs.Input.{◌>>=◌}
use Rattle.rh_script.specs.Instruction.{Instruction, Numbered, Use, Act, Save, Clear, Dump, Snapshot, Restore}
use Rattle.rh_shelf.specs.Shelf.{Files}
use Rattle.rh_operations.specs.declared.cause.Cause.{Cause}
use Rattle.rh_operations.specs.declared.cause.Cause.TheVariants as causes
use Rattle.rh_operations.specs.Outside.{Outside}
use Rattle.rh_operations.specs.Refusals.{ListFails, MemoryFails, PhaseFails, PutFails, RestoreFails}
use Rattle.rh_script_run.specs.declared.fault.RunFault.{RunFault}
use Rattle.rh_script_run.specs.declared.report.Report.{Report}
use Rattle.rh_script_run.specs.Agree.{EndsByItself, IsFound, ReadsNone, ReadsNoneAt, result_of}
use Rattle.rh_script_run.specs.Ends.{AllDone, Ends, EndsBy, LeavesFiles, LeavesOthers, NotBegun, SaysAll, Stopped, step_in}
use Rattle.rh_script_run.specs.Environment.{Environment, outside_in}
use Rattle.rh_script_run.specs.Files.{Bytes, File, FileMap, HasFiles, IsFile, Sealed}
use Rattle.rh_script_run.specs.Meaning.{CommandOutcome, ScriptState, keys_at_path, meaning, outcome_of, start, table_at}
use Rattle.rh_script_run.specs.Outside.{IsOutside}
use Rattle.rh_script_run.proofs.MadeLemmas.{Made, made_all, made_by, made_to, refused_at}

-- ---- a cause that was found is none from outside, but that of a file that is not there

module _ (old new : Outside) (lacks : Type 0) where
  abbrev Found : Cause → Type 0
  Found cause = IsFound (Rose old.shelf.failures new.shelf.failures) (Rose old.shelf.failed_reads new.shelf.failed_reads) lacks cause

  -- the file is not there, whether the shelf failed or not
  abbrev IsLack : Cause → Type 0
  IsLack cause = (cause ≡ causes.Missing) × lacks

  memory_found : (cause : Cause) → Found cause → MemoryFails cause → IsLack cause
  memory_found causes.Memory found out = absurd found
  memory_found cause found out = absurd out

  list_found : (cause : Cause) → Found cause → ListFails old.shelf new.shelf cause → IsLack cause
  list_found causes.Memory found out = absurd found
  list_found (causes.Keys key_faults.Read) found out = absurd (found refl out)
  list_found causes.Missing (inl fine) out = absurd (fine out)
  list_found causes.Missing (inr none) out = (refl, none)
  list_found cause found out = absurd out

  phase_found : (cause : Cause) → Found cause → PhaseFails old new cause → IsLack cause
  phase_found causes.NoThread found out = absurd found
  phase_found cause found out = list_found cause found out

  put_found : (cause : Cause) → Found cause → PutFails old.shelf new.shelf cause → IsLack cause
  put_found causes.Memory found out = absurd found
  put_found causes.Put found out = absurd found
  put_found cause found out = absurd out

  restore_found : (cause : Cause) → Found cause → RestoreFails old.shelf new.shelf cause → IsLack cause
  restore_found causes.Memory found out = absurd found
  restore_found (causes.Snap snap_faults.Read) found out = absurd (found refl out)
  restore_found causes.Missing (inl fine) out = absurd (fine out)
  restore_found causes.Missing (inr none) out = (refl, none)
  restore_found cause found out = absurd out

  not_outside : (said : Instruction) (cause : Cause) → Found cause → IsOutside said old new cause → IsLack cause
  not_outside (Use name path) cause found out = list_found cause found out
  not_outside (Act action name) cause found out = phase_found cause found out
  not_outside (Save name) cause found out = memory_found cause found out
  not_outside Clear cause found out = memory_found cause found out
  not_outside Dump cause found out = absurd out
  not_outside (Snapshot path) cause found out = put_found cause found out
  not_outside (Restore path) cause found out = restore_found cause found out

-- ---- a file that is not there

no_file : (file : Option File) (found : Option (List ℕ)) → IsFile file found → found ≡ None → file ≡ None
no_file None found is none = refl
no_file (Some (Bytes bytes)) found is none = let both : Some bytes ≡ None = sym is ∙ none in absurd cc
no_file (Some (Sealed table)) found is none = let both : Some (snap_spelling Second table.bits is.0) ≡ None = sym is.3 ∙ none in absurd cc

then_missing : {Y : Type 0} (r : Result Y Cause) (make : Y → CommandOutcome) → r ≡ Err causes.Missing → (r >>= make) ≡ Err causes.Missing
then_missing r make is = ap (λ x. x >>= make) is

not_there : (said : Instruction) (w : ScriptState) (now : Option Files) → LeavesOthers said w.files now → ReadsNone now said → outcome_of w said ≡ Err causes.Missing
unfolding outcome_of
not_there (Use name path) w None left none = absurd none
not_there (Use name path) w (Some now) left none = then_missing (keys_at_path (w.files path)) _ (ap keys_at_path (no_file (w.files path) (now path) (left path) none))
not_there (Restore path) w None left none = absurd none
not_there (Restore path) w (Some now) left none = then_missing (table_at (w.files path)) _ (ap table_at (no_file (w.files path) (now path) (left path) none))
not_there said w now left none = absurd none

at_step : (P : Numbered → Type 0) (before after : List Numbered) (step : Numbered) → All P (before ++ step ∷ after) → P step
at_step P [] after step all = All-head P step after all
at_step P (s ∷ before) after step all = at_step P before after step (All-tail P s (before ++ step ∷ after) all)

-- ---- a run that nothing from outside ended

pub record Meant (files : Files) (steps : List Numbered) (old new : Environment) (r : Result Report RunFault) : Type 0 where
  pub made : Made
  pub is : made_by (start files) steps ≡ made
  pub result : r ≡ result_of steps (meaning (start files) steps)
  pub text : List ℕ
  pub says : SaysAll made.1 text
  pub written : Appends old.text new.text text
  pub has : HasFiles made.0.files new.files

done_meant : (files : Files) (steps : List Numbered) (old new : Environment) (report : Report) → AllDone files steps old new report → Meant files steps old new (Ok report)
done_meant files steps old new report done = record {
  made = (done.world, done.accounts);
  is = made_all (start files) steps (done.world, done.accounts) done.means;
  result = ap (λ (t : Report). Ok t) done.told ∙ sym (ap (result_of steps) done.means);
  text = done.text;
  says = done.says;
  written = done.written;
  has = done.files_now;
}

others_left : (said : Instruction) (w : ScriptState) (found : FileMap) (now : Option Files) (cause : Cause) → outcome_of w said ≡ Err cause → LeavesOthers said found now → HasFiles found now
unfolding outcome_of
others_left (Snapshot path) w found now cause is left = absurd cc
others_left said w found now cause is left = left

files_left : (said : Instruction) (w : ScriptState) (before after : Environment) (found : FileMap) (cause : Cause) → outcome_of w said ≡ Err cause → LeavesFiles (step_in w said before after) found cause → HasFiles found after.files
files_left said w before after found causes.Write is left = let none : Ok left.0 ≡ Err causes.Write = sym left.1 ∙ is in absurd cc
files_left said w before after found cause is left = others_left said w found after.files cause is left

pub then_none : (a b c : Option (List ℕ)) (text : List ℕ) → Appends a b text → Appends b c [] → Appends a c text
then_none a b c text so_far none = subst (Appends a c) (append-nil text) (Appends-trans a b c text [] so_far none)

module _ (files : Files) (steps : List Numbered) (old new : Environment) (fault : RunFault) (s : Stopped files steps old new fault) (found : IsFound (Rose old.failures new.failures) (Rose old.failed_reads new.failed_reads) (ReadsNoneAt new.files fault.line steps) fault.cause) where
  abbrev lacks : Type 0
  lacks = ReadsNoneAt new.files fault.line steps

  found_here : IsFound (Rose s.middle.failures new.failures) (Rose s.middle.failed_reads new.failed_reads) lacks fault.cause
  found_here =
      subst (λ n. IsFound (Rose n new.failures) (Rose s.middle.failed_reads new.failed_reads) lacks fault.cause) (sym s.fine)
      (subst (λ n. IsFound (Rose old.failures new.failures) (Rose n new.failed_reads) lacks fault.cause) (sym s.read) found)

  missing_here : fault.cause ≡ causes.Missing → lacks → outcome_of s.world s.step.instruction ≡ Err fault.cause
  missing_here is none =
      let left = subst (LeavesFiles (step_in s.world s.step.instruction s.middle new) s.world.files) is s.files_now in
      let reads = at_step (λ step. step.line ≡ fault.line → ReadsNone new.files step.instruction) s.before s.after s.step in
      let there = not_there s.step.instruction s.world new.files left (reads (subst (ReadsNoneAt new.files fault.line) s.parts none) (sym s.line)) in
      subst (λ (cause : Cause). outcome_of s.world s.step.instruction ≡ Err cause) (sym is) there

  refusal : EndsBy (step_in s.world s.step.instruction s.middle new) fault.cause → (outcome_of s.world s.step.instruction ≡ Err fault.cause) × Appends s.middle.text new.text []
  refusal (inl (none, inl is)) = (is, none)
  refusal (inl (none, inr out)) =
      let its = not_outside (outside_in s.middle) (outside_in new) lacks s.step.instruction fault.cause found_here out in
      (missing_here its.0 its.1, none)
  refusal (inr written) = absurd (subst (IsFound (Rose old.failures new.failures) (Rose old.failed_reads new.failed_reads) lacks) written.0 found)

  stopped_meant : Meant files steps old new (Err fault)
  stopped_meant =
      let its = refusal s.ends in
      record {
        made = (s.world, s.accounts);
        is = ap (made_by (start files)) s.parts ∙ made_to s.step s.after fault.cause (start files) s.before (s.world, s.accounts) s.means its.0;
        result =
            (λ i. Err (record { line = s.line i; cause = fault.cause }))
            ∙ sym (ap (result_of steps) (ap (meaning (start files)) s.parts ∙ refused_at s.step s.after fault.cause (start files) s.before (s.world, s.accounts) s.means its.0));
        text = s.text;
        says = s.says;
        written = then_none old.text s.middle.text new.text s.text s.written its.1;
        has = files_left s.step.instruction s.world s.middle new s.world.files fault.cause its.0 s.files_now;
      }

not_begun : (files : Files) (steps : List Numbered) (old new : Environment) (fault : RunFault) → NotBegun files old new fault → EndsByItself steps old new (Err fault) → ⊥
not_begun files steps old new fault none found = subst (λ (f : RunFault). EndsByItself steps old new (Err f)) none.0 found

pub meant : (files : Files) (steps : List Numbered) (old new : Environment) (r : Result Report RunFault) → Ends files steps old new r → EndsByItself steps old new r → Meant files steps old new r
meant files steps old new (Ok report) ends itself = done_meant files steps old new report ends
meant files steps old new (Err fault) (inl none) itself = absurd (not_begun files steps old new fault none itself)
meant files steps old new (Err fault) (inr stopped) itself = stopped_meant files steps old new fault stopped itself

pub ends_as_meant : (files : Files) (steps : List Numbered) (old new : Environment) (r : Result Report RunFault) → Ends files steps old new r → EndsByItself steps old new r → r ≡ result_of steps (meaning (start files) steps)
ends_as_meant files steps old new r ends itself = (meant files steps old new r ends itself).result
