use Rattle.std.proofs.Common.{◌≡◌, ◌≤◌, ◌+◌, ◌*◌, List, [], ℕ}
use Rattle.rh_bytes.specs.Counting.{failures_of, inner_of}
use Rattle.rh_numbers.specs.Parts.{keys_read, line_reached, so_far_of}
use Rattle.rh_numbers.proofs.Parts.{GoesOn}
use Rattle.rh_numbers.proofs.Taken.{Fresh}
use Rattle.rh_splitting.specs.Parts.{EachGot}
use Rattle.rh_splitting.proofs.splitting.split_text.Given as goal

abbrev pub invariant-loop : goal.invariant-loop
invariant-loop g l = record {
  going : (keys : List ℕ)
      × GoesOn (g.R.Read.remaining (inner_of l.fn.reader)) (g.R.Read.remaining (inner_of l.reader)) (8192 * l.counter) keys (line_reached l.reading) (so_far_of l.reading)
      × Fresh (g.R.Read.remaining (inner_of l.fn.reader)) (g.R.Read.remaining (inner_of l.reader)) (8192 * l.counter) keys (line_reached l.reading) (so_far_of l.reading)
      × EachGot g.W.Write.contents l.fn.parts l.parts keys;
  none : keys_read l.reading ≡ [];
  line : line_reached l.reading ≤ 1 + 8192 * l.counter;
  fine : failures_of l.reader ≡ failures_of l.fn.reader;
}
