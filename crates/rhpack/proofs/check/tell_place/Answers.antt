use Rattle.std.proofs.Common.{inr}
use Rattle.rh_lists.specs.declared.fault.FileFault.TheVariants as file
use Rattle.rhpack.proofs.check.tell_place.Goals as goal

pub returns-in-Err : goal.returns-in-Err
returns-in-Err g c = inr (file.Shelf c.in-Err.fault, c.told_of_list.ensures)

pub returns-in-Err-List : goal.returns-in-Err-List
returns-in-Err-List g c = inr (file.List c.in-Err-List.fault, c.told_of_list-in-Err-List.ensures)
