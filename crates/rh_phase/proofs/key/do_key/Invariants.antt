use Rattle.std.proofs.Common.{◌≡◌, length}
use Rattle.rh_shared.specs.Rests.{StaysAtRest}
use Rattle.rh_shared.specs.Seats.{view_of}
use Rattle.rh_threads.specs.Keys.{IsUndone}
use Rattle.rh_phase.proofs.key.do_key.Given as goal

abbrev pub invariant-loop : goal.invariant-loop
invariant-loop g l = record {
  stays : StaysAtRest l.table l.fn.seat l.seat;
  undone : IsUndone l.table.shape l.kind l.key (view_of l.fn.seat) (view_of l.seat);
  seen : length l.seen ≡ length l.fn.seen;
  entries : length l.entries ≡ length l.fn.entries;
}
