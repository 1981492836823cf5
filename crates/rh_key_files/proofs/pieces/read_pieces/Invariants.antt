use Rattle.std.proofs.Common.{◌≡◌, ◌≤◌, ◌*◌, ◌-◌, Ok, flat_map}
use Rattle.std.specs.Prelude.{All}
use Rattle.rh_layout.specs.Key.{IsKey}
use Rattle.rh_bytes.specs.Counting.{failures_of, inner_of}
use Rattle.rh_bytes.specs.Input.{always}
use Rattle.rh_bytes.specs.Taking.{TakesAtMost}
use Rattle.rh_key_files.specs.Reading.{ReadsKeys, keys_at}
use Rattle.rh_key_files.proofs.pieces.read_pieces.Given as goal

abbrev pub invariant-loop-taken : goal.invariant-loop-taken
invariant-loop-taken g l = record {
  within : l.taken ≤ l.count;
  read : ReadsKeys (g.R.Read.remaining (inner_of l.initial.reader)) (g.R.Read.remaining (inner_of l.reader)) (keys_at l.version 0 l.taken) (always {X = Unit {0}} (flat_map (λ piece. piece.items) l.pieces.items)) (Ok tt);
  in_range : All (λ piece. All IsKey piece.items) l.pieces.items;
  takes : TakesAtMost (g.R.Read.remaining (inner_of l.initial.reader)) (g.R.Read.remaining (inner_of l.reader)) (8 * l.taken);
  fine : failures_of l.reader ≡ failures_of l.fn.reader;
}

abbrev pub decreases-loop-taken : goal.decreases-loop-taken
decreases-loop-taken g l = l.count - l.taken
