-- The writer whose lines are written at once.
use Rattle.rh_streams.specs.declared.by_line.ByLine.{ByLine}

abbrev pub lines_to : {W : Type 0} → ByLine W → W
lines_to b = b.inner
