use Rattle.std.proofs.Common.{◌∙◌}
use Rattle.rh_helping.proofs.Growing.{stands_known}
use Rattle.rh_helping.proofs.machine.Machine.start.Goals as goal

pub own_size-size-requires-clause-known : goal.own_size-size-requires-clause-known
own_size-size-requires-clause-known g c = stands_known _ _ c.args.state _ c.requires.met.stands

pub returns : goal.returns
returns g c = λ w. let e = c.begin.ensures w in record { same = e.same ∙ c.own_size-size.ensures.same; leads = e.leads; ends = e.ends }
