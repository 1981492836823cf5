use Rattle.std.proofs.Common.{◌≡◌, ◌≤◌, ◌+◌, ◌*◌}
use Rattle.rh_numbers.specs.Parts.{keys_read, line_reached, so_far_of}
use Rattle.rh_numbers.proofs.Taken.{Fresh}
use Rattle.rh_numbers.proofs.Parts.{GoesOn}
use Rattle.rh_numbers.proofs.text.read_numbers.Given as goal

abbrev pub invariant-loop : goal.invariant-loop
invariant-loop g l = record {
  going : GoesOn (g.R.Read.remaining l.fn.reader.inner) (g.R.Read.remaining l.reader.inner) (8192 * l.counter) (keys_read l.reading) (line_reached l.reading) (so_far_of l.reading);
  fresh : Fresh (g.R.Read.remaining l.fn.reader.inner) (g.R.Read.remaining l.reader.inner) (8192 * l.counter) (keys_read l.reading) (line_reached l.reading) (so_far_of l.reading);
  line : line_reached l.reading ≤ 1 + 8192 * l.counter;
  fine : l.reader.failures ≡ l.fn.reader.failures;
}
