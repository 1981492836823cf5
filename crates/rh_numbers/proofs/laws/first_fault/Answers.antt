use Rattle.rh_numbers.proofs.Faults.{not_a_key, out_of_range, too_many}
use Rattle.rh_numbers.proofs.laws.first_fault.Goals as goal

pub returns-clause-not_a_key : goal.returns-clause-not_a_key
returns-clause-not_a_key c = not_a_key c.args.text.now

pub returns-clause-out_of_range : goal.returns-clause-out_of_range
returns-clause-out_of_range c = out_of_range c.args.text.now

pub returns-clause-too_many : goal.returns-clause-too_many
returns-clause-too_many c = too_many c.args.text.now
