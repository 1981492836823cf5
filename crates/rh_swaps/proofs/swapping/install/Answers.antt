use Rattle.rh_swaps.proofs.Going.{goes_then}
use Rattle.rh_swaps.proofs.swapping.install.Goals as goal

pub loop-preserved : goal.loop-preserved
loop-preserved c = goes_then c.loop.invariant c.install_entry.ensures

pub returns-then-not-install_entry : goal.returns-then-not-install_entry
returns-then-not-install_entry c = goes_then c.loop.invariant c.install_entry.ensures

pub returns : goal.returns
returns c = goes_then c.loop.invariant c.go-2.ensures
