use Rattle.rh_swaps.proofs.Going.{goes_then}
use Rattle.rh_swaps.proofs.swapping.install_entry.Goals as goal

pub returns : goal.returns
returns c = goes_then c.go_kept.ensures (goes_then c.go_kept-2.ensures (goes_then c.go_kept-3.ensures (goes_then c.go.ensures (goes_then c.go-2.ensures (goes_then c.go-3.ensures c.go-4.ensures)))))
