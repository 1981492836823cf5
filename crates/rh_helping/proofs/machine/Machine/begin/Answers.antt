use Rattle.rh_helping.proofs.Starting.{begins_next}
use Rattle.rh_helping.proofs.machine.Machine.begin.Goals as goal

pub at_entry-requires-clause-next : goal.at_entry-requires-clause-next
at_entry-requires-clause-next g c = begins_next _ c.args.side.now.known.view c.requires.between.trusts.knows c.args.self.now.task c.requires.begins c.in-None.ensures
