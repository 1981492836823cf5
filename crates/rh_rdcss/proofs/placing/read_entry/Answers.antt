use Rattle.rh_rdcss.proofs.EntriesRead.{may_read_cell, may_read_old, may_read_serial, then_cell, then_old}
use Rattle.rh_rdcss.proofs.placing.read_entry.Goals as goal

pub make-cell-requires-clause-allowed : goal.make-cell-requires-clause-allowed
make-cell-requires-clause-allowed c = may_read_cell _ c.args.desc c.args.entry _ c.requires.knows.knows c.requires.has

pub make-old-requires-clause-allowed : goal.make-old-requires-clause-allowed
make-old-requires-clause-allowed c = may_read_old _ c.args.desc c.args.entry _ c.make-cell.ensures.learned.knows (then_cell _ c.args.desc c.args.entry _ c.requires.has c.make-cell.result _ c.make-cell.ensures.learned)

pub make-serial-requires-clause-allowed : goal.make-serial-requires-clause-allowed
make-serial-requires-clause-allowed c = may_read_serial _ c.args.desc _ c.make-old.ensures.learned.knows (then_old _ c.args.desc c.args.entry _ c.requires.has c.make-cell.result _ c.make-cell.ensures.learned c.make-old.result _ c.make-old.ensures.learned).may
