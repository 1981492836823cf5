use Rattle.std.proofs.Common.{◌≡◌, ◌≤◌, ◌-◌, ◌*◌, length, take, Ok}
use Rattle.std.specs.Prelude.{All}
use Rattle.rh_layout.specs.Key.{IsKey}
use Rattle.rh_bytes.specs.Counting.{failures_of, inner_of}
use Rattle.rh_bytes.specs.Input.{always}
use Rattle.rh_bytes.specs.Taking.{TakesAtMost}
use Rattle.rh_key_files.specs.Reading.{ReadsKeys, keys_at}
use Rattle.rh_key_files.proofs.batch.read_keys.Given as goal

abbrev pub invariant-loop-done : goal.invariant-loop-done
invariant-loop-done g l = record {
  within : l.done ≤ length l.batch;
  read : ReadsKeys (g.R.Read.remaining (inner_of l.fn.reader)) (g.R.Read.remaining (inner_of l.reader)) (keys_at l.version l.index l.done) (always {X = Unit {0}} (take l.done l.batch)) (Ok tt);
  in_range : All IsKey (take l.done l.batch);
  takes : TakesAtMost (g.R.Read.remaining (inner_of l.fn.reader)) (g.R.Read.remaining (inner_of l.reader)) (8 * l.done);
  fine : failures_of l.reader ≡ failures_of l.fn.reader;
}

abbrev pub decreases-loop-done : goal.decreases-loop-done
decreases-loop-done g l = length l.initial.batch - l.done
