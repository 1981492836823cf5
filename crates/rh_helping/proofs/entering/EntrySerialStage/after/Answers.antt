use Rattle.std.proofs.Common.{Option, inr, refl, subst, sym}
use Rattle.rh_world.specs.World.{In}
use Rattle.rh_world.specs.Facts.Fact.{stale}
use Rattle.rh_words.specs.Words.{ref_of}
use Rattle.rh_words.specs.View.{View}
use Rattle.rh_words.specs.View.RowWord.{cell_word, new_word, old_word}
use Rattle.rh_helping.specs.declared.goal.Owed.{Owed}
use Rattle.rh_carrier.specs.Own.{KnowsOwn, OwesNothing}
use Rattle.rh_helping.specs.Goal.{GivesBack, HasReason, KnowsGoal, opened_by}
use Rattle.rh_helping.specs.Machine.{goal_of}
use Rattle.rh_helping.specs.Work.{IsGivenUp, Owes}
use Rattle.rh_helping.proofs.Growing.{own_grows, owes_grows, reason_grows}
use Rattle.rh_helping.proofs.Leading.{goes_on}
use Rattle.rh_helping.proofs.Owing.{left_at}
use Rattle.rh_helping.proofs.Rows.{read_goal, serial_stale, serial_grows, serial_tells, serial_view}
use Rattle.rh_helping.proofs.entering.EntrySerialStage.after.Goals as goal

pub ready-requires : goal.ready-requires
ready-requires g c =
    let f = c.requires in
    let t = c.args.machine.now.task in
    let e = c.args.machine.now.change in
    let tells = serial_tells f.before (ref_of t.desc) c.args.found c.if-found-machine.true in record {
      own = subst (λ (n : View). KnowsOwn n (opened_by c.args.opens)) (sym f.view_is) (own_grows _ _ (serial_grows f.before (ref_of c.args.machine.now.task.desc) c.args.found) _ f.own);
      goal = subst (λ (n : View). KnowsGoal n (goal_of c.args.machine.now)) (sym f.view_is)
          (read_goal _ _ (goal_of c.args.machine.now) (serial_grows f.before (ref_of t.desc) c.args.found) f.stands.0 (tells (cell_word t.entry e.cell) f.stands.2) (tells (old_word t.entry e.old) f.stands.3) (tells (new_word t.entry e.new) f.stands.4));
      owes = subst (λ (n : View). Owes n t) (sym f.view_is) (owes_grows _ _ (serial_grows f.before (ref_of t.desc) c.args.found) t f.stands.0.owes);
      reason = subst (λ (n : View). HasReason n t) (sym f.view_is) (reason_grows _ _ (serial_grows f.before (ref_of t.desc) c.args.found) t f.stands.0.reason);
    }

pub returns-in-Some : goal.returns-in-Some
returns-in-Some g c =
    let f = c.requires in
    let t = c.args.machine.now.task in
    let left = left_at f.before _ (serial_grows f.before (ref_of t.desc) c.args.found) t f.stands.0 f.stands.1 (serial_stale f.before (ref_of t.desc) c.args.found c.if-found-machine.false) in
    goes_on (
      subst (λ (n : View). KnowsOwn n (opened_by c.args.opens)) (sym f.view_is) (own_grows _ _ (serial_grows f.before (ref_of t.desc) c.args.found) _ f.own),
      subst (λ (n : View). GivesBack n c.in-Some.owed) (sym f.view_is) (subst (λ (o : Option Owed). IsGivenUp (serial_view f.before (ref_of t.desc) c.args.found) (ref_of t.desc) o) c.in-Some.is left),
    )

pub resume-requires : goal.resume-requires
resume-requires g c =
    let f = c.requires in
    let t = c.args.machine.now.task in
    let left = left_at f.before _ (serial_grows f.before (ref_of t.desc) c.args.found) t f.stands.0 f.stands.1 (serial_stale f.before (ref_of t.desc) c.args.found c.if-found-machine.false) in record {
      own = subst (λ (n : View). KnowsOwn n (opened_by c.args.opens)) (sym f.view_is) (own_grows _ _ (serial_grows f.before (ref_of c.args.machine.now.task.desc) c.args.found) _ f.own);
      owes = subst (λ (n : View). OwesNothing n) (sym f.view_is) (subst (λ (o : Option Owed). IsGivenUp (serial_view f.before (ref_of t.desc) c.args.found) (ref_of t.desc) o) c.in-None.is left).0;
    }

pub returns-in-None : goal.returns-in-None
returns-in-None g c = let f = c.requires in record { same = refl; leads = c.resume.ensures.leads _; ends = c.resume.ensures.ends _ (inr (subst (λ (n : View). In (stale (ref_of c.args.machine.now.task.desc)) n.side.facts) (sym f.view_is) (serial_stale f.before (ref_of c.args.machine.now.task.desc) c.args.found c.if-found-machine.false).1)) }

pub returns-then-found-machine : goal.returns-then-found-machine
returns-then-found-machine g c = record { same = refl; leads = c.ready.ensures.leads; ends = c.ready.ensures.ends _ }
