use Rattle.std.proofs.Common.{rules, refl}
use Rattle.rh_streams.proofs.streams.finish.Goals as goal
use Rattle.rh_streams.proofs.streams.finish.Goals.{in-Ok, in-Err}

pub returns : goal.returns
returns g c = record {
  written = c.match-flush.written;
  fails = elim c.match-flush.branch [ in-Ok w ↦ rw w.written-is tt | in-Err w ↦ rw w.written-is refl ];
  ends = c.status_of.ensures;
  kept = c.flush.ensures.bytes;
  empty = elim c.match-flush.branch [ in-Ok w ↦ search rules | in-Err w ↦ search rules ];
}
