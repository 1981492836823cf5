use Rattle.std.proofs.Common.{rules, arith, subst, drop, length-drop}
use Rattle.std.specs.Io.{ReadsAtMost}
use Rattle.rh_lists.proofs.Skips.{reads_on}
use Rattle.rh_lists.proofs.skipping.Skipping.read_on.Goals as goal

pub returns-in-Ok-clause-bytes : goal.returns-in-Ok-clause-bytes
returns-in-Ok-clause-bytes g c =
    let s = c.args.self.now in
    let n = c.in-Ok.count in
    let buf = c.read-outcome.new.buf in
    let within = subst (λ r. ReadsAtMost r buf) c.in-Ok.is c.read-outcome.ensures.bound in
    reads_on s.is_known s.given s.held n s.lines c.blank.new.lines s.front buf c.blank.new.bytes (drop n buf) _ _ c.read-outcome.result c.requires.known c.requires.all_given c.in-Ok.is (search rules) c.read-outcome.ensures.bytes (omega (arith, length-drop n buf, within)) c.blank.ensures
