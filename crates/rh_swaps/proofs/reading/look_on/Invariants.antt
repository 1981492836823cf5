use Rattle.rh_helping.specs.Machine.{looking_of}
use Rattle.rh_helping.specs.Stepping.{MayLook}
use Rattle.rh_shared.specs.Sits.{Sits, Stays}
use Rattle.rh_swaps.specs.Swaps.{HasNoted}
use Rattle.rh_swaps.proofs.reading.look_on.Given as goal

abbrev pub invariant-loop : goal.invariant-loop
invariant-loop g l = record {
  at : MayLook Sits Sits l.shape l.cell (looking_of l.watch l.machine) l.here l.side.known.view;
  stays : Stays l.fn.here l.here;
  noted : HasNoted l.fn.side.known.view l.side.known.view;
}
