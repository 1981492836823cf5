use Rattle.rh_handle.proofs.EmptyLemmas.{lacks}
use Rattle.rh_handle.proofs.handle.Handle.contains.Goals as goal

pub returns-in_default-clause-there : goal.returns-in_default-clause-there
returns-in_default-clause-there c = lacks c.args.self.now.held c.args.number c.in_default.ensures.taken
