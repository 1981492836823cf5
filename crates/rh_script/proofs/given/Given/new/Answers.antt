use Rattle.rh_script.proofs.Naming.{nothing_given}
use Rattle.rh_script.proofs.given.Given.new.Goals as goal

pub returns : goal.returns
returns c = nothing_given (record { lists = c.new.result; files = c.new-2.result; snapshots = c.new-3.result }) c.new.ensures.empty c.new-2.ensures.empty c.new-3.ensures.empty
