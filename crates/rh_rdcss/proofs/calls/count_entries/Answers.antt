use Rattle.rh_rdcss.proofs.EntriesRead.{counted, may_read_length, may_read_serial, then_length}
use Rattle.rh_rdcss.proofs.calls.count_entries.Goals as goal

pub make-length-requires-clause-allowed : goal.make-length-requires-clause-allowed
make-length-requires-clause-allowed c = may_read_length _ c.args.desc _ c.requires.knows.knows c.requires.may

pub make-serial-requires-clause-allowed : goal.make-serial-requires-clause-allowed
make-serial-requires-clause-allowed c = may_read_serial _ c.args.desc _ c.make-length.ensures.learned.knows (then_length _ c.args.desc _ c.requires.may c.make-length.result _ c.make-length.ensures.learned)

pub returns-clause-entries : goal.returns-clause-entries
returns-clause-entries c =
    counted c.args.table.now.shape c.args.desc _ _ _ c.make-length.result c.make-serial.result c.requires.may c.make-length.ensures.learned c.make-serial.ensures.learned c.if-serial-desc.false
