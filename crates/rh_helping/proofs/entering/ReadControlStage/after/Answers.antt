use Rattle.std.proofs.Common.{None, Some, inr, refl}
use Rattle.rh_words.specs.Words.{ref_of}
use Rattle.rh_helping.specs.Goal.{opened_by}
use Rattle.rh_helping.proofs.Controls.{saw_control}
use Rattle.rh_helping.proofs.Owing.{nothing_saw}
use Rattle.rh_helping.proofs.Starting.{own_saw}
use Rattle.rh_helping.proofs.entering.ReadControlStage.after.Goals as goal

pub start-requires : goal.start-requires
start-requires g c = let f = c.requires in record {
  between = record { trusts = c.requires.trusts; own = own_saw _ _ _ (Some c.in-Some.state) (opened_by c.args.opens) (saw_control f.before (ref_of c.args.machine.now.task.desc) c.args.found (f.finds.1 f.stands.1) (Some c.in-Some.state) c.in-Some.ensures _ _ f.stands.1 f.view_is).0 f.own };
  owes = nothing_saw _ _ _ (Some c.in-Some.state) (saw_control f.before (ref_of c.args.machine.now.task.desc) c.args.found (f.finds.1 f.stands.1) (Some c.in-Some.state) c.in-Some.ensures _ _ f.stands.1 f.view_is).0 f.stands.0;
  met = (saw_control f.before (ref_of c.args.machine.now.task.desc) c.args.found (f.finds.1 f.stands.1) (Some c.in-Some.state) c.in-Some.ensures _ _ f.stands.1 f.view_is).0.said;
}

pub resume-requires-clause-own : goal.resume-requires-clause-own
resume-requires-clause-own g c = let f = c.requires in own_saw _ _ _ None (opened_by c.args.opens) (saw_control f.before (ref_of c.args.machine.now.task.desc) c.args.found (f.finds.1 f.stands.1) None c.in-None.ensures _ _ f.stands.1 f.view_is).0 f.own

pub resume-requires-clause-owes : goal.resume-requires-clause-owes
resume-requires-clause-owes g c = let f = c.requires in nothing_saw _ _ _ None (saw_control f.before (ref_of c.args.machine.now.task.desc) c.args.found (f.finds.1 f.stands.1) None c.in-None.ensures _ _ f.stands.1 f.view_is).0 f.stands.0

pub returns-in-None : goal.returns-in-None
returns-in-None g c = let f = c.requires in record { same = refl; leads = c.resume.ensures.leads _; ends = c.resume.ensures.ends _ (inr (saw_control f.before (ref_of c.args.machine.now.task.desc) c.args.found (f.finds.1 f.stands.1) None c.in-None.ensures _ _ f.stands.1 f.view_is).0.said.1) }

pub returns-in-Some : goal.returns-in-Some
returns-in-Some g c = c.start.ensures _
