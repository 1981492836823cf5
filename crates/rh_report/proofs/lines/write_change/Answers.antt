use Rattle.std.proofs.Common.{refl}
use Rattle.rh_report.proofs.lines.write_change.Goals as goal

pub returns-in-Added : goal.returns-in-Added
returns-in-Added g c = rw c.in-Added.is (_, refl, c.write_table_line.ensures)

pub returns-in-Dropped : goal.returns-in-Dropped
returns-in-Dropped g c = rw c.in-Dropped.is (_, refl, c.write_table_line-in-Dropped.ensures)

pub returns-in-Kept : goal.returns-in-Kept
returns-in-Kept g c = rw c.in-Kept.is (_, refl, c.write_table_line-in-Kept.ensures)

pub returns-in-Flipped : goal.returns-in-Flipped
returns-in-Flipped g c = rw c.in-Flipped.is (_, refl, c.write_table_line-in-Flipped.ensures)
