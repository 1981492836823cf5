use Rattle.rh_bytes.proofs.Writing.{emitted_then, emitted_longer}
use Rattle.rh_splitting.specs.Plan.{keys_given, last_line, part_lines}
use Rattle.rh_splitting.proofs.plan.write_plan.Goals as goal

pub returns-in_default : goal.returns-in_default
returns-in_default g c = emitted_longer _ _ (part_lines 0 c.args.parts.now) (last_line (keys_given c.args.parts.now)) c.in_default.ensures

pub returns : goal.returns
returns g c =
    rw (← c.keys_given.ensures)
    (emitted_then _ c.put_lines.new.writer _ (part_lines 0 c.args.parts.now) (last_line c.keys_given.result) c.put_last_line.result c.in-Ok.ensures c.put_last_line.ensures)
