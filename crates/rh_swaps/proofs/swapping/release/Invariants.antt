use Rattle.rh_helping.specs.Goal.{own_of}
use Rattle.rh_helping.specs.Machine.{work_of}
use Rattle.rh_swaps.specs.Swaps.{GoesOn}
use Rattle.rh_swaps.proofs.swapping.release.Given as goal

abbrev pub invariant-loop : goal.invariant-loop
invariant-loop l = GoesOn l.shape (own_of l.own) l.fn.here l.fn.side.known.view (work_of l.machine) l.here l.side.known.view
