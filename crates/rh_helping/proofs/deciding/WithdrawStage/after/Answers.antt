use Rattle.std.proofs.Common.{None, Some, ap, inl, refl, sym, ◌∙◌}
use Rattle.rh_helping.specs.CellContent.{state_said}
use Rattle.rh_tagword.specs.declared.control.State.TheVariants.{Withdrawn}
use Rattle.rh_words.specs.Words.{ref_of}
use Rattle.rh_helping.specs.Goal.{opened_by}
use Rattle.rh_helping.proofs.Controls.{decided_other, saw_decided}
use Rattle.rh_helping.proofs.Decisions.{own_open}
use Rattle.rh_helping.proofs.Owing.{nothing_saw}
use Rattle.rh_helping.proofs.Starting.{own_saw}
use Rattle.rh_helping.proofs.deciding.WithdrawStage.after.Goals as goal

pub start-requires : goal.start-requires
start-requires g c = let f = c.requires in record {
  between = record { trusts = c.requires.trusts; own = own_saw _ _ _ (Some c.in-Some.state) (opened_by c.args.opens) (saw_decided f.before (ref_of c.args.machine.now.task.desc) Withdrawn tt tt c.args.found f.finds (inl (inl (own_open _ _ f.knows _ f.own c.args.machine.now.task.desc.number f.stands.2 _ (sym f.stands.1)))) (Some c.in-Some.state) (c.in-Some.ensures ∙ ap (state_said c.args.machine.now.task.desc.number) c.decided_word.ensures) _ _ f.view_is).0 f.own };
  owes = nothing_saw _ _ _ (Some c.in-Some.state) (saw_decided f.before (ref_of c.args.machine.now.task.desc) Withdrawn tt tt c.args.found f.finds (inl (inl (own_open _ _ f.knows _ f.own c.args.machine.now.task.desc.number f.stands.2 _ (sym f.stands.1)))) (Some c.in-Some.state) (c.in-Some.ensures ∙ ap (state_said c.args.machine.now.task.desc.number) c.decided_word.ensures) _ _ f.view_is).0 f.stands.0;
  met = (saw_decided f.before (ref_of c.args.machine.now.task.desc) Withdrawn tt tt c.args.found f.finds (inl (inl (own_open _ _ f.knows _ f.own c.args.machine.now.task.desc.number f.stands.2 _ (sym f.stands.1)))) (Some c.in-Some.state) (c.in-Some.ensures ∙ ap (state_said c.args.machine.now.task.desc.number) c.decided_word.ensures) _ _ f.view_is).0.said;
}

pub unreachable-requires : goal.unreachable-requires
unreachable-requires g c = let f = c.requires in
    decided_other f.before (ref_of c.args.machine.now.task.desc) Withdrawn tt tt c.args.found f.finds _ f.own None (c.in-None.ensures ∙ ap (state_said c.args.machine.now.task.desc.number) c.decided_word.ensures) refl f.stands.1 f.stands.2

pub returns : goal.returns
returns g c = c.start.ensures _
