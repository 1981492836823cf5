use Rattle.std.proofs.Common.{Some}
use Rattle.rh_carrier.specs.Own.{KnowsOwn}
use Rattle.rh_helping.specs.Goal.{opened_by}
use Rattle.rh_helping.specs.Work.{Stands}
use Rattle.rh_helping.specs.Machine.{work_of}
use Rattle.rh_shared.specs.Sits.{Sits, Stays}
use Rattle.rh_carrier.specs.Relies.{Trusts}
use Rattle.rh_kcas_tests.proofs.halfway.comes_to_decide.Given as goal

abbrev pub invariant-loop-made : goal.invariant-loop-made
invariant-loop-made l = record {
  trusts : Trusts Sits l.shape l.here l.side.known.view;
  own : KnowsOwn l.side.known.view (opened_by (Some l.own));
  stands : Stands l.shape l.side.known.view (work_of l.machine);
  stays : Stays l.fn.here l.here;
}
