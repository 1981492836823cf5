use Rattle.rh_edit.proofs.RemoveSegment.{remove_front}
use Rattle.rh_edit.proofs.laws.remove_segment.Goals as goal

pub returns : goal.returns
returns c S layout act =
    remove_front c.args.bits c.args.old.now c.args.new.now c.args.seen.now c.args.key act.offset act.last layout.bits layout.size act.front act.ends act.stop act.written S layout act.here
