use Rattle.std.proofs.Common.{None, Some, ap, inr, refl, sym, subst, ◌∙◌}
use Rattle.rh_rule.specs.Sound.{IsControlWord}
use Rattle.rh_world.specs.World.{In}
use Rattle.rh_world.specs.Facts.Fact.{stale}
use Rattle.rh_helping.specs.CellContent.{state_said}
use Rattle.rh_words.specs.Words.{ref_of}
use Rattle.rh_helping.specs.Goal.{opened_by}
use Rattle.rh_helping.specs.Work.{Begins}
use Rattle.rh_helping.proofs.Controls.{is_word, saw_decided}
use Rattle.rh_helping.proofs.Decisions.{decided_begins}
use Rattle.rh_helping.proofs.Knowing.{task_known}
use Rattle.rh_helping.proofs.Owing.{nothing_saw}
use Rattle.rh_helping.proofs.Starting.{own_saw}
use Rattle.rh_helping.proofs.machine.Machine.after_decide.Goals as goal

pub state_by-requires : goal.state_by-requires
state_by-requires g c = let f = c.requires.follows in subst IsControlWord (sym f.control_is) (is_word f.before (ref_of c.args.self.now.task.desc) f.state f.over f.fits f.word f.finds)

pub begin-requires : goal.begin-requires
begin-requires g c =
    let f = c.requires.follows in
    let s = (saw_decided f.before (ref_of c.args.self.now.task.desc) f.state f.over f.fits f.word f.finds (task_known _ _ f.knows c.args.self.now.task f.task) (Some c.in-Some.state) (c.in-Some.ensures ∙ ap (state_said c.args.self.now.task.desc.number) f.control_is) _ _ f.view_is) in record {
      between = record { trusts = c.requires.trusts; own = own_saw _ _ _ (Some c.in-Some.state) (opened_by c.args.opens) (saw_decided f.before (ref_of c.args.self.now.task.desc) f.state f.over f.fits f.word f.finds (task_known _ _ f.knows c.args.self.now.task f.task) (Some c.in-Some.state) (c.in-Some.ensures ∙ ap (state_said c.args.self.now.task.desc.number) f.control_is) _ _ f.view_is).0 f.own };
      begins = subst (Begins c.args.side.now.known.view) (sym c.as_decided-self.ensures) (decided_begins _ _ c.args.self.now.task c.in-Some.state s.0 (s.1 c.in-Some.state refl) f.task f.owes);
    }

pub resume-requires-clause-own : goal.resume-requires-clause-own
resume-requires-clause-own g c = let f = c.requires.follows in own_saw _ _ _ None (opened_by c.args.opens) (saw_decided f.before (ref_of c.args.self.now.task.desc) f.state f.over f.fits f.word f.finds (task_known _ _ f.knows c.args.self.now.task f.task) None (c.in-None.ensures ∙ ap (state_said c.args.self.now.task.desc.number) f.control_is) _ _ f.view_is).0 f.own

pub resume-requires-clause-owes : goal.resume-requires-clause-owes
resume-requires-clause-owes g c = let f = c.requires.follows in nothing_saw _ _ _ None (saw_decided f.before (ref_of c.args.self.now.task.desc) f.state f.over f.fits f.word f.finds (task_known _ _ f.knows c.args.self.now.task f.task) None (c.in-None.ensures ∙ ap (state_said c.args.self.now.task.desc.number) f.control_is) _ _ f.view_is).0 f.owes

pub returns-in-None : goal.returns-in-None
returns-in-None g c = λ w same. let f = c.requires.follows in record { same = refl; leads = c.resume.ensures.leads _; ends = c.resume.ensures.ends w (inr (subst (λ d. In (stale (ref_of d)) c.args.side.now.known.view.side.facts) (sym same) (saw_decided f.before (ref_of c.args.self.now.task.desc) f.state f.over f.fits f.word f.finds (task_known _ _ f.knows c.args.self.now.task f.task) None (c.in-None.ensures ∙ ap (state_said c.args.self.now.task.desc.number) f.control_is) _ _ f.view_is).0.said.1)) }

pub returns-in-Some : goal.returns-in-Some
returns-in-Some g c = λ w same. c.begin.ensures w
