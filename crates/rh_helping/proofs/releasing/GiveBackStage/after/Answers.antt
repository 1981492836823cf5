use Rattle.std.proofs.Common.{inr, refl}
use Rattle.rh_helping.specs.Goal.{opened_by, owed_of}
use Rattle.rh_helping.specs.Machine.{goal_of}
use Rattle.rh_helping.proofs.Released.{gave_back}
use Rattle.rh_helping.proofs.releasing.GiveBackStage.after.Goals as goal

pub resume-requires-clause-own : goal.resume-requires-clause-own
resume-requires-clause-own g c = let f = c.requires in (gave_back _ _ f.knows (owed_of (goal_of c.args.machine.now)) f.stands (opened_by c.args.opens) f.own c.args._found _ f.view_is).0

pub resume-requires-clause-owes : goal.resume-requires-clause-owes
resume-requires-clause-owes g c = let f = c.requires in (gave_back _ _ f.knows (owed_of (goal_of c.args.machine.now)) f.stands (opened_by c.args.opens) f.own c.args._found _ f.view_is).1

pub returns : goal.returns
returns g c = let f = c.requires in record { same = refl; leads = c.resume.ensures.leads _; ends = c.resume.ensures.ends _ (inr (gave_back _ _ f.knows (owed_of (goal_of c.args.machine.now)) f.stands (opened_by c.args.opens) f.own c.args._found _ f.view_is).2) }
