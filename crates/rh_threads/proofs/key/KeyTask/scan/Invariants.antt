use Rattle.std.proofs.Common.{◌≡◌, ◌<◌, ◌≤◌, ℕ, length, take}
use Rattle.std.specs.Prelude.{slice_index}
use Rattle.rh_tagword.specs.Word.{IsValue}
use Rattle.rh_order.specs.History.{kept_of}
use Rattle.rh_shared.specs.Rests.{StaysAtRest}
use Rattle.rh_shared.specs.Seats.{view_of}
use Rattle.rh_worker.specs.Reading.{HasScanned}
use Rattle.rh_threads.specs.Keys.{HasOnlyRead}
use Rattle.rh_threads.specs.Scanning.{AllArePassed}
use Rattle.rh_threads.proofs.key.KeyTask.scan.Given as goal

abbrev pub invariant-loop-count : goal.invariant-loop-count
invariant-loop-count g l = record {
  within : l.count ≤ length l.fn.seen;
  stays : StaysAtRest l.table l.fn.seat l.seat;
  reads : HasOnlyRead l.table.shape l.kind l.key (view_of l.fn.seat) (view_of l.seat);
  read : HasScanned l.table.shape (kept_of l.table.shape (view_of l.fn.seat)) (view_of l.seat) l.key l.seen l.count;
  passed : AllArePassed l.is_placed l.kind l.bits l.key (take l.count l.seen);
  values : (p : ℕ) → p < l.count → IsValue (slice_index l.seen p);
  seen : length l.seen ≡ length l.fn.seen;
  entries : length l.entries ≡ length l.fn.entries;
}
