use Rattle.rh_probe.proofs.LookLemmas.{here_held, goes_fresh}
use Rattle.rh_probe.proofs.laws.look_tells.Goals as goal

pub returns-clause-here : goal.returns-clause-here
returns-clause-here c S i layout front here = here_held c.args.bits c.args.cells.now c.args.seen.now c.args.key i S layout front here

pub returns-clause-goes : goal.returns-clause-goes
returns-clause-goes c S i layout front goes = goes_fresh c.args.bits c.args.cells.now c.args.seen.now c.args.key i S layout front goes
