use Rattle.rh_order.proofs.Sharing.{run_shared_ends}
use Rattle.rh_order.proofs.Ending.{run_ends}
use Rattle.rh_order.proofs.laws.run_ends.Goals as goal

pub returns-clause-pieces : goal.returns-clause-pieces
returns-clause-pieces c = run_ends

pub returns-clause-shared : goal.returns-clause-shared
returns-clause-shared c = run_shared_ends
