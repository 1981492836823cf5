use Rattle.std.proofs.Common.{None, Some, ap, refl, subst, sym, ◌∙◌}
use Rattle.rh_helping.specs.declared.goal.Owed.{Owed}
use Rattle.rh_helping.specs.declared.goal.Task.{Task}
use Rattle.rh_helping.specs.Goal.{opened_by}
use Rattle.rh_helping.specs.Machine.{goal_of}
use Rattle.rh_helping.specs.Work.{Begins, IsNextTask}
use Rattle.rh_helping.proofs.Knowing.{task_known}
use Rattle.rh_helping.proofs.Leading.{goes_on}
use Rattle.rh_helping.proofs.Marking.{recheck_decided, recheck_goal, recheck_stale, recheck_held, recheck_owes_goal, recheck_own, recheck_reason}
use Rattle.rh_helping.proofs.holding.RecheckStage.after.Goals as goal

pub begin-requires : goal.begin-requires
begin-requires g c =
    let f = c.requires in
    let t = c.args.machine.now.task in record {
      between = record { trusts = c.requires.trusts; own = recheck_own f.before (goal_of c.args.machine.now) c.args.machine.now.promoted f.stands _ c.args.found _ (f.finds.1 (task_known _ _ f.knows c.args.machine.now.task f.stands.goal.task)) f.view_is (opened_by c.args.opens) f.own (Some c.in-Some.state) c.in-Some.ensures };
      begins = subst (Begins c.args.side.now.known.view) (sym (c.as_decided-machine.ensures ∙ ap (λ (o : Owed). let u : Task = record { desc = t.desc; size = t.size; state = c.in-Some.state; entry = 0; owed = Some o; reason = None } in u) c.as_owed.ensures))
          (recheck_decided f.before (goal_of c.args.machine.now) c.args.machine.now.promoted f.stands _ c.args.found _ (f.finds.1 (task_known _ _ f.knows c.args.machine.now.task f.stands.goal.task)) f.view_is c.in-Some.state c.in-Some.ensures (sym c.if-is_decided.ensures));
    }

pub at_entry-requires-clause-between : goal.at_entry-requires-clause-between
at_entry-requires-clause-between g c = let f = c.requires in record { trusts = f.trusts; own = recheck_own f.before (goal_of c.args.machine.now) c.args.machine.now.promoted f.stands _ c.args.found _ (f.finds.1 (task_known _ _ f.knows c.args.machine.now.task f.stands.goal.task)) f.view_is (opened_by c.args.opens) f.own (Some c.in-Some.state) c.in-Some.ensures }

pub ready-requires : goal.ready-requires
ready-requires g c = let f = c.requires in record {
  own = recheck_own f.before (goal_of c.args.machine.now) c.args.machine.now.promoted f.stands _ c.args.found _ (f.finds.1 (task_known _ _ f.knows c.args.machine.now.task f.stands.goal.task)) f.view_is (opened_by c.args.opens) f.own (Some c.in-Some.state) c.in-Some.ensures;
  goal = recheck_goal f.before (goal_of c.args.machine.now) c.args.machine.now.promoted f.stands _ c.args.found _ (f.finds.1 (task_known _ _ f.knows c.args.machine.now.task f.stands.goal.task)) f.view_is c.in-Some.state c.in-Some.ensures (sym c.if-is_decided.ensures);
  owes = recheck_owes_goal f.before (goal_of c.args.machine.now) c.args.machine.now.promoted f.stands _ c.args.found _ (f.finds.1 (task_known _ _ f.knows c.args.machine.now.task f.stands.goal.task)) f.view_is c.in-Some.state c.in-Some.ensures (sym c.if-is_decided.ensures);
  reason = recheck_reason f.before (goal_of c.args.machine.now) c.args.machine.now.promoted f.stands _ c.args.found _ (f.finds.1 (task_known _ _ f.knows c.args.machine.now.task f.stands.goal.task)) f.view_is c.in-Some.state c.in-Some.ensures (sym c.if-is_decided.ensures);
}

pub at_entry-requires-clause-next : goal.at_entry-requires-clause-next
at_entry-requires-clause-next g c = let f = c.requires in subst (IsNextTask c.args.side.now.known.view) (sym c.after-machine.ensures)
    (recheck_held f.before (goal_of c.args.machine.now) c.args.machine.now.promoted f.stands _ c.args.found _ (f.finds.1 (task_known _ _ f.knows c.args.machine.now.task f.stands.goal.task)) f.view_is c.in-Some.state c.in-Some.ensures (sym c.if-is_decided.ensures) c.if-machine.true)

pub returns-in-None : goal.returns-in-None
returns-in-None g c = let f = c.requires in goes_on (
  recheck_own f.before (goal_of c.args.machine.now) c.args.machine.now.promoted f.stands _ c.args.found _ (f.finds.1 (task_known _ _ f.knows c.args.machine.now.task f.stands.goal.task)) f.view_is (opened_by c.args.opens) f.own None c.in-None.ensures,
  recheck_stale f.before (goal_of c.args.machine.now) c.args.machine.now.promoted f.stands _ c.args.found _ (f.finds.1 (task_known _ _ f.knows c.args.machine.now.task f.stands.goal.task)) f.view_is (opened_by c.args.opens) f.own c.in-None.ensures,
)

pub returns-then-is_decided : goal.returns-then-is_decided
returns-then-is_decided g c = c.begin.ensures _

pub returns-then-machine : goal.returns-then-machine
returns-then-machine g c = c.at_entry.ensures _

pub returns-else-machine : goal.returns-else-machine
returns-else-machine g c = record { same = refl; leads = c.ready.ensures.leads; ends = c.ready.ensures.ends _ }
