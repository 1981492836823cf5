use Rattle.std.proofs.Common.{rules, ◌≡◌, true}
use Rattle.rh_probe.proofs.ProbeLemmas.{away_more}
use Rattle.rh_probe.proofs.scan.stop_after.Goals as goal

pub loop-j-preserved : goal.loop-j-preserved
loop-j-preserved c =
    let movable : c.is_movable.result ≡ true = search rules in
    away_more c.args.bits c.args.cell c.args.seen.now c.args.i c.loop-j.j c.requires.bits c.loop-j.invariant (rw c.cell_at.ensures.value at (c.is_movable.ensures.0 movable))
