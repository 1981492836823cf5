use Rattle.std.proofs.Common.{◌≡◌, ◌*◌, take, Ok}
use Rattle.sha2.specs.Hashers.{Holds256}
use Rattle.rh_bytes.specs.Counting.{failures_of, inner_of}
use Rattle.rh_bytes.specs.Input.{always}
use Rattle.rh_bytes.specs.Taking.{TakesAtMost}
use Rattle.rh_snapshot.specs.Snapshot.{text_of}
use Rattle.rh_snapshot.specs.Reading.{ReadsSnap, numbers_at}
use Rattle.rh_snapshot.proofs.parts.fill_numbers.Given as goal

abbrev pub invariant-loop-slot : goal.invariant-loop-slot
invariant-loop-slot g l = record {
  read : ReadsSnap (g.R.Read.remaining (inner_of l.fn.reader)) (g.R.Read.remaining (inner_of l.reader)) (numbers_at l.slot-index) (always {X = Unit {0}} (take l.slot-index l.numbers)) (Ok tt);
  hashed : Holds256 l.hasher (text_of l.fn.header (take l.slot-index l.numbers));
  takes : TakesAtMost (g.R.Read.remaining (inner_of l.fn.reader)) (g.R.Read.remaining (inner_of l.reader)) (8 * l.slot-index);
  fine : failures_of l.reader ≡ failures_of l.fn.reader;
}
