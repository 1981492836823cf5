use Rattle.std.proofs.Common.{rules, ◌≡◌, true, below_more}
use Rattle.rh_probe.proofs.scan.look.Goals as goal

pub loop-i-preserved : goal.loop-i-preserved
loop-i-preserved c =
    let beaten : c.beats.result ≡ true = search rules in
    below_more _ _ c.loop-i.invariant
    (c.in-Some.found, c.in-Some.ensures, rw (c.cell_at.ensures.value, c.home-first.ensures.value) at (c.beats.ensures.0 beaten))
