use Rattle.std.proofs.Common.{◌-◌, ◌≤◌, length}
use Rattle.std.specs.Io.KnownBytes.{Consumes}
use Rattle.rh_set_program.specs.declared.script.TheConstants.{MAX_BYTES}
use Rattle.rh_set_program.proofs.script.front_of.Given as goal

abbrev pub invariant-loop-room : goal.invariant-loop-room
invariant-loop-room g l = record {
  read : Consumes (g.R.Read.remaining l.initial.reader.inner) (g.R.Read.remaining l.reader.inner) l.text.items;
  within : length l.text.items ≤ MAX_BYTES;
}

abbrev pub decreases-loop-room : goal.decreases-loop-room
decreases-loop-room g l = MAX_BYTES - length l.text.items
