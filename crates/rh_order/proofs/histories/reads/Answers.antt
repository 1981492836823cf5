use Rattle.rh_order.proofs.Learning.{plain_reads_come_first, reads_are_kept, reads_stay}
use Rattle.rh_order.proofs.histories.reads.Goals as goal

pub returns-clause-plain : goal.returns-clause-plain
returns-clause-plain c = plain_reads_come_first

pub returns-clause-kept : goal.returns-clause-kept
returns-clause-kept c = reads_are_kept

pub returns-clause-stay : goal.returns-clause-stay
returns-clause-stay c = reads_stay
