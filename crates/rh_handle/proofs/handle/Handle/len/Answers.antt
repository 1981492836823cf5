use Rattle.rh_handle.proofs.EmptyLemmas.{has_none}
use Rattle.rh_handle.proofs.handle.Handle.len.Goals as goal

pub returns-in_default-clause-count : goal.returns-in_default-clause-count
returns-in_default-clause-count c = has_none c.args.self.now.held c.in_default.ensures.taken
