use Rattle.rh_shared.specs.Rests.{StaysAtRest}
use Rattle.rh_threads.specs.Buffer.{HasBufferRoom}
use Rattle.rh_threads.specs.Keys.{IsUndoneYet}
use Rattle.rh_threads.proofs.key.KeyTask.do_in_buffer.Given as goal

abbrev pub invariant-loop : goal.invariant-loop
invariant-loop g l = record {
  stays : StaysAtRest l.self.table.now l.fn.seat l.seat;
  undone : IsUndoneYet l.self l.fn.seat l.seat;
  room : HasBufferRoom l.self.table.now.shape.bits l.buffer;
}
