use Rattle.rh_edit.proofs.InsertSegment.{insert_front}
use Rattle.rh_edit.proofs.laws.insert_segment.Goals as goal

pub returns : goal.returns
returns c S layout two act =
    insert_front c.args.bits c.args.old.now c.args.new.now c.args.seen.now c.args.key act.offset act.last layout.bits layout.size act.front act.ends act.free act.written S c.requires layout two act.goes
