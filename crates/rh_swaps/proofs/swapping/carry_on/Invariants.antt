use Rattle.std.proofs.Common.{Some}
use Rattle.rh_helping.specs.Goal.{opened_by}
use Rattle.rh_helping.specs.Machine.{work_of}
use Rattle.rh_helping.specs.Stepping.{MayGoOn}
use Rattle.rh_shared.specs.Sits.{Sits, Stays}
use Rattle.rh_swaps.specs.Swaps.{HasNoted}
use Rattle.rh_swaps.proofs.swapping.carry_on.Given as goal

abbrev pub invariant-loop : goal.invariant-loop
invariant-loop g l = record {
  at : MayGoOn Sits Sits l.shape (opened_by (Some l.own)) (work_of l.machine) l.here l.side.known.view;
  stays : Stays l.fn.here l.here;
  noted : HasNoted l.fn.side.known.view l.side.known.view;
}
