use Rattle.std.proofs.Common.{refl}
use Rattle.rh_report.proofs.lines.write_account.Goals as goal

pub returns-in-Used : goal.returns-in-Used
returns-in-Used g c = rw c.in-Used.is (_, refl, c.write_line.ensures)

pub returns-in-Saved : goal.returns-in-Saved
returns-in-Saved g c = rw c.in-Saved.is (_, refl, c.write_line-in-Saved.ensures)

pub returns-in-Cleared : goal.returns-in-Cleared
returns-in-Cleared g c = rw c.in-Cleared.is (_, refl, c.write_line-in-Cleared.ensures)

pub returns-in-Sealed : goal.returns-in-Sealed
returns-in-Sealed g c = rw c.in-Sealed.is (_, refl, c.write_table_line.ensures)

pub returns-in-Restored : goal.returns-in-Restored
returns-in-Restored g c = rw c.in-Restored.is (_, refl, c.write_table_line-in-Restored.ensures)
