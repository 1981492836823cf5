use Rattle.std.proofs.Common.{◌∙◌, Ok, arith, refl, string_bytes, sym}
use Rattle.std.proofs.lemmas.Result.{err_from_is_err_and}
use Rattle.rh_script.specs.Instruction.{Use, Act, Save, Clear, Restore}
use Rattle.rh_script.specs.Plan.{number_after}
use Rattle.rh_script_run.specs.Meaning.{outcome_of}
use Rattle.rh_script_run.specs.Steps.{world_of}
use Rattle.rh_script_run.proofs.FileLemmas.{known_files}
use Rattle.rh_script_run.proofs.ListLemmas.{none_given}
use Rattle.rh_script_run.proofs.StepLemmas.{action_done, action_refused}
use Rattle.rh_script_run.proofs.StateLemmas.{has_number, is_within, list_at, lists_stay, plain_state}
use Rattle.rh_script_run.proofs.running.act.Goals as goal

pub returns-in-Use-clause-made : goal.returns-in-Use-clause-made
unfolding number_after outcome_of
returns-in-Use-clause-made g c named files = rw c.in-Use.is (λ after.
    let made = rw (c.deref.ensures, c.deref-in-Use.ensures) at (c.use_step.ensures.made c.args.workspace.now.set named files after.has after.stand) in
    plain_state (Use (string_bytes c.in-Use.name) (string_bytes c.in-Use.path)) tt _ _ files _ _ c.use_step.ensures.shelf.same_files after.has _ _ _ made)

pub unwrap-requires : goal.unwrap-requires
unwrap-requires g c = has_number c.args.step.now.command c.args.step.now.list _ c.in-Act.action c.in-Act.name c.requires c.in-Act.is

pub index-list-requires : goal.index-list-requires
index-list-requires g c = omega (arith, is_within c.args.step.now.command c.args.step.now.list _ c.in-Act.action c.in-Act.name _ c.requires c.in-Act.is c.unwrap.ensures)

pub returns-in_err-done-in-Act-clause-made : goal.returns-in_err-done-in-Act-clause-made
unfolding number_after outcome_of
returns-in_err-done-in-Act-clause-made g c named files = rw c.in-Act.is (λ after.
    let p = err_from_is_err_and c.from_residual.result c.from_residual.ensures.1 in
    let name = string_bytes c.in-Act.name in
    let lists = c.args.workspace.now.lists.items in
    let here = list_at lists named _ name _ c.index-list.result.now after.stand (after.number ∙ c.unwrap.ensures) c.index-list.ensures in
    rw (p.1, p.2) (
      action_refused _ _ named files name _ c.in-Act.action c.args.workspace.now.set c.in_err-done-in-Act.field-0.0 here c.in_err-done-in-Act.ensures.refused,
      rw c.in_err-done-in-Act.ensures.leaves.shelf.same_files after.has,
    ))

pub returns-in_ok-done-in-Act-clause-made : goal.returns-in_ok-done-in-Act-clause-made
unfolding number_after outcome_of
returns-in_ok-done-in-Act-clause-made g c named files = rw c.in-Act.is (λ after.
    let name = string_bytes c.in-Act.name in
    let lists = c.args.workspace.now.lists.items in
    let here = list_at lists named _ name _ c.index-list.result.now after.stand (after.number ∙ c.unwrap.ensures) c.index-list.ensures in
    let told = rw c.deref-in-Act.ensures at c.told_of.ensures in
    record {
      named = named;
      files = files;
      is = action_done _ _ named files name _ c.in-Act.action c.args.workspace.now.set c.operate.new.set _ here c.in_ok-done-in-Act.ensures.done ∙ (λ i. Ok (world_of c.operate.new.set named files, sym told i));
      stand = rw c.in_ok-done-in-Act.ensures.leaves.shelf.same_files after.stand;
      has = rw c.in_ok-done-in-Act.ensures.leaves.shelf.same_files after.has;
    })

pub returns-in_ok-done-in-Act-clause-grow : goal.returns-in_ok-done-in-Act-clause-grow
returns-in_ok-done-in-Act-clause-grow g c = rw c.in-Act.is (none_given (Act c.in-Act.action (string_bytes c.in-Act.name)) c.args.workspace.now.lists.items refl refl)

pub returns-in-Save-clause-made : goal.returns-in-Save-clause-made
unfolding number_after outcome_of
returns-in-Save-clause-made g c named files = rw c.in-Save.is (λ after.
    let known = known_files files (g.S.Lender.state c.args.shelf.now).files after.has in
    let made = rw c.deref-in-Save.ensures at (c.save_step.ensures.made named files _ known.0 known.1 after.stand) in
    plain_state (Save (string_bytes c.in-Save.name)) tt _ _ files _ _ refl after.has _ _ _ made)

pub returns-in-Clear-clause-made : goal.returns-in-Clear-clause-made
unfolding outcome_of
returns-in-Clear-clause-made g c named files = rw c.in-Clear.is (λ after.
    lists_stay Clear tt _ _ files _ _ refl after.has _ c.args.workspace.now.lists.items named _ (c.clear_step.ensures.made named files) after.stand)

pub returns-in-Dump-clause-made : goal.returns-in-Dump-clause-made
unfolding outcome_of
returns-in-Dump-clause-made g c named files = rw c.in-Dump.is (λ after.
    record { named = named; files = files; is = refl; stand = after.stand; has = after.has })

pub returns-in-Snapshot-clause-made : goal.returns-in-Snapshot-clause-made
unfolding outcome_of
returns-in-Snapshot-clause-made g c named files = rw c.in-Snapshot.is (λ after.
    let apart = after.apart (string_bytes c.in-Snapshot.path) refl in
    rw c.deref-in-Snapshot.ensures at (c.snapshot_step.ensures.made c.args.workspace.now.lists.items named files after.has after.stand (rw c.deref-in-Snapshot.ensures apart)))

pub returns-in-Restore-clause-made : goal.returns-in-Restore-clause-made
unfolding outcome_of
returns-in-Restore-clause-made g c named files = rw c.in-Restore.is (λ after.
    let made = rw c.deref-in-Restore.ensures at (c.restore_step.ensures.made named files after.has) in
    lists_stay (Restore (string_bytes c.in-Restore.path)) tt _ _ files _ _ c.restore_step.ensures.shelf.same_files after.has _ c.args.workspace.now.lists.items named _ made after.stand)
