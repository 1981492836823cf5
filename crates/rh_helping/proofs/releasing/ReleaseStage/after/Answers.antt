use Rattle.std.proofs.Common.{ap, arith, inl, refl, subst, sym, true≢false, ◌+◌, ◌∙◌, Option}
use Rattle.rh_words.specs.View.{View}
use Rattle.rh_helping.specs.declared.goal.Owed.{Owed}
use Rattle.rh_helping.specs.declared.machine.Ended.{Ended}
use Rattle.rh_helping.specs.Next.StageOutcome.{Closed}
use Rattle.rh_helping.specs.Goal.{opened_by, released_value}
use Rattle.rh_helping.specs.Machine.{goal_of}
use Rattle.rh_helping.specs.Work.{IsNextTask, Leads}
use Rattle.rh_helping.proofs.Released.{release_closes, release_leaves, release_next, release_own}
use Rattle.rh_helping.proofs.releasing.ReleaseStage.after.Goals as goal

pub at_entry-requires : goal.at_entry-requires
at_entry-requires g c =
    let f = c.requires in
    let t = c.args.machine.now.task in record {
      between = record { trusts = c.requires.trusts; own = release_own c.args.shape.now f.before _ f.knows (goal_of c.args.machine.now) f.stands.0 f.stands.1 (opened_by c.args.opens) f.own f.stands.2 c.args._found (released_value c.args.machine.now.task.state c.args.machine.now.change.old c.args.machine.now.change.new) f.view_is c.if-task.true };
      next = subst (λ (o : Option Owed). IsNextTask c.args.side.now.known.view (record { desc = t.desc; size = t.size; state = t.state; entry = t.entry + 1; owed = o; reason = t.reason })) (sym c.owed_after-machine.ensures)
          (release_next c.args.shape.now f.before _ f.knows (goal_of c.args.machine.now) f.stands.0 f.stands.1 (opened_by c.args.opens) f.own f.stands.2 c.args._found (released_value c.args.machine.now.task.state c.args.machine.now.change.old c.args.machine.now.change.new) f.view_is f.stands.3 c.if-task.true);
    }

pub resume-requires : goal.resume-requires
resume-requires g c =
    let f = c.requires in
    let worker = ap (λ (n : View). n.worker) (sym f.view_is) ∙ c.args.side.now.same_worker in record {
      own = (release_leaves c.args.shape.now f.before _ f.knows (goal_of c.args.machine.now) f.stands.0 f.stands.1 (opened_by c.args.opens) f.own f.stands.2 c.args._found (released_value c.args.machine.now.task.state c.args.machine.now.change.old c.args.machine.now.change.new) f.view_is c.if-task.false (λ p. true≢false (sym (c.is_open.ensures.1 (p.0 ∙ worker, p.1)) ∙ c.if-is_open.false))).0;
      owes = (release_leaves c.args.shape.now f.before _ f.knows (goal_of c.args.machine.now) f.stands.0 f.stands.1 (opened_by c.args.opens) f.own f.stands.2 c.args._found (released_value c.args.machine.now.task.state c.args.machine.now.change.old c.args.machine.now.change.new) f.view_is c.if-task.false (λ p. true≢false (sym (c.is_open.ensures.1 (p.0 ∙ worker, p.1)) ∙ c.if-is_open.false))).1;
    }

pub returns-then-is_open : goal.returns-then-is_open
returns-then-is_open g c =
    let f = c.requires in
    let worker = ap (λ (n : View). n.worker) (sym f.view_is) ∙ c.args.side.now.same_worker in
    let p = c.is_open.ensures.0 c.if-is_open.true in record {
      same = refl;
      leads = subst (λ (k : Ended). Leads c.args.shape.now c.args.side.now.known.view (opened_by c.args.opens) (Closed k)) (sym c.end_of.ensures)
          (release_closes c.args.shape.now f.before _ f.knows (goal_of c.args.machine.now) f.stands.0 f.stands.1 (opened_by c.args.opens) f.own f.stands.2 c.args._found (released_value c.args.machine.now.task.state c.args.machine.now.change.old c.args.machine.now.change.new) f.view_is f.stands.3 c.if-task.false (p.0 ∙ sym worker) p.1);
      ends = (goal_of c.args.machine.now, refl, omega (arith, c.requires.stands.0.entry, c.if-task.false));
    }

pub returns-else-is_open : goal.returns-else-is_open
returns-else-is_open g c = record { same = refl; leads = c.resume.ensures.leads c.args.shape.now; ends = c.resume.ensures.ends _ (inl (goal_of c.args.machine.now, refl, omega (arith, c.requires.stands.0.entry, c.if-task.false))) }

pub returns-then-task : goal.returns-then-task
returns-then-task g c = c.at_entry.ensures _
