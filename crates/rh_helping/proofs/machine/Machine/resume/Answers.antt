use Rattle.std.proofs.Common.{Option, inl, subst}
use Rattle.rh_world.specs.World.{In}
use Rattle.rh_world.specs.Facts.Fact.{known}
use Rattle.rh_words.specs.View.{View}
use Rattle.rh_helping.specs.declared.goal.OpenDesc.{OpenDesc}
use Rattle.rh_carrier.specs.Own.{KnowsOwn}
use Rattle.rh_helping.specs.Goal.{opened_by}
use Rattle.rh_helping.proofs.Owing.{open_all_noted}
use Rattle.rh_helping.proofs.machine.Machine.resume.Goals as goal

pub returns-in-Some-clause-leads : goal.returns-in-Some-clause-leads
returns-in-Some-clause-leads c =
    let v : View = c.args.side.now.known.view in
    let k = (open_all_noted v _ (subst (λ (o : Option OpenDesc). KnowsOwn v (opened_by o)) c.in-Some.is c.requires.own)).known in
    λ z. (c.requires.own, (c.requires.owes, inl (inl (subst (λ w. In (known (record { worker = w; number = c.in-Some.open.number })) v.side.facts) c.args.side.now.same_worker k))))
