use Rattle.std.proofs.Common.{◌≡◌}
use Rattle.rh_splitting.proofs.files.PartFiles.place_all.Given as goal

abbrev pub invariant-loop-file : goal.invariant-loop-file
invariant-loop-file g l = record { part : l.part ≡ l.file-index }
