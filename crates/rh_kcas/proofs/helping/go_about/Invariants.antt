use Rattle.std.proofs.Common.{None}
use Rattle.rh_words.specs.Steps.{IsKnown}
use Rattle.rh_words.specs.Words.{ref_of}
use Rattle.rh_carrier.specs.Own.{KnowsOwn}
use Rattle.rh_helping.specs.Work.{Stands}
use Rattle.rh_helping.specs.Machine.{work_of}
use Rattle.rh_shared.specs.Sits.{Sits, Stays}
use Rattle.rh_carrier.specs.Relies.{Trusts}
use Rattle.rh_swaps.specs.Swaps.{HasNoted}
use Rattle.rh_kcas.proofs.helping.go_about.Given as goal

abbrev pub invariant-loop : goal.invariant-loop
invariant-loop g l = record {
  trusts : Trusts Sits l.shape l.here l.side.known.view;
  own : KnowsOwn l.side.known.view None;
  stands : Stands l.shape l.side.known.view (work_of l.machine);
  known : IsKnown l.side.known.view.side.facts (ref_of l.desc);
  stays : Stays l.fn.here l.here;
  noted : HasNoted l.fn.side.known.view l.side.known.view;
}
