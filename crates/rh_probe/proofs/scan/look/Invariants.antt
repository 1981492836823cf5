use Rattle.rh_probe.specs.Look.{AllPassed}
use Rattle.rh_probe.proofs.scan.look.Given as goal

abbrev pub invariant-loop-i : goal.invariant-loop-i
invariant-loop-i l = AllPassed l.bits l.key l.seen l.i
