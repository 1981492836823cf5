use Rattle.rh_handle.proofs.EmptyLemmas.{lacks, stays_empty}
use Rattle.rh_handle.proofs.handle.Handle.remove.Goals as goal

pub returns-in_default-clause-keys : goal.returns-in_default-clause-keys
returns-in_default-clause-keys c = stays_empty c.args.self.now.held c.take.new.handle.held c.args.number c.in_default.ensures.taken c.take.ensures.left

pub returns-in_default-clause-removed : goal.returns-in_default-clause-removed
returns-in_default-clause-removed c = lacks c.args.self.now.held c.args.number c.in_default.ensures.taken
