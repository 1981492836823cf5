use Rattle.std.proofs.Common.{◌≡◌}
use Rattle.rh_numbers.proofs.Searching.{LooksOn}
use Rattle.rh_numbers.proofs.search.line_at.Given as goal

abbrev pub invariant-loop-at : goal.invariant-loop-at
invariant-loop-at g l = record {
  looks : LooksOn l.fn.number l.at (g.R.Read.remaining l.fn.reader.inner) (g.R.Read.remaining l.reader.inner) l.search;
  fine : l.reader.failures ≡ l.fn.reader.failures;
}
