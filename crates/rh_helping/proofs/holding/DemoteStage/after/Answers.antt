use Rattle.std.proofs.Common.{None, Some, ap, sym, subst, ◌∙◌}
use Rattle.rh_words.specs.View.{View}
use Rattle.rh_words.specs.Words.{ref_of}
use Rattle.rh_helping.specs.declared.goal.Owed.{Owed}
use Rattle.rh_helping.specs.declared.goal.Task.{Task}
use Rattle.rh_carrier.specs.Own.{KnowsOwn}
use Rattle.rh_helping.specs.Goal.{opened_by}
use Rattle.rh_helping.specs.Work.{Begins, IsDecidedOrStale}
use Rattle.rh_helping.proofs.Leading.{goes_on}
use Rattle.rh_helping.proofs.Marking.{demoted, demoted_stale, settled_own}
use Rattle.rh_helping.proofs.holding.DemoteStage.after.Goals as goal

pub begin-requires : goal.begin-requires
begin-requires g c =
    let f = c.requires in
    let t = c.args.machine.now.task in record {
      between = record { trusts = c.requires.trusts; own = subst (λ (n : View). KnowsOwn n (opened_by c.args.opens)) (sym f.view_is) (settled_own _ _ f.stands.0 _ f.own (Some c.args.machine.now.change.old) c.args._found) };
      begins = subst (Begins c.args.side.now.known.view) (sym (c.as_decided-machine.ensures ∙ ap (λ (o : Owed). let u : Task = record { desc = t.desc; size = t.size; state = c.in-Some.state; entry = 0; owed = Some o; reason = None } in u) c.as_owed.ensures))
          (demoted _ _ f.stands.0 c.args._found _ f.view_is c.in-Some.state (subst (λ k. IsDecidedOrStale f.before (ref_of t.desc) k) c.in-Some.is f.stands.1));
    }

pub returns-in-None : goal.returns-in-None
returns-in-None g c = let f = c.requires in goes_on (
  subst (λ (n : View). KnowsOwn n (opened_by c.args.opens)) (sym f.view_is) (settled_own _ _ f.stands.0 _ f.own (Some c.args.machine.now.change.old) c.args._found),
  demoted_stale _ _ f.stands.0 c.args._found _ f.view_is (subst (λ k. IsDecidedOrStale f.before (ref_of c.args.machine.now.task.desc) k) c.in-None.is f.stands.1),
)

pub returns-in-Some : goal.returns-in-Some
returns-in-Some g c = c.begin.ensures _
