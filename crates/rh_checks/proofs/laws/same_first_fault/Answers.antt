use Rattle.rh_checks.proofs.Same.{bad_said, good_said, said_alone, taken_said}
use Rattle.rh_checks.proofs.laws.same_first_fault.Goals as goal

pub returns-clause-good : goal.returns-clause-good
returns-clause-good c = good_said c.args.text.now

pub returns-clause-taken : goal.returns-clause-taken
returns-clause-taken c = taken_said c.args.text.now

pub returns-clause-bad : goal.returns-clause-bad
returns-clause-bad c = bad_said c.args.text.now

pub returns-clause-alone : goal.returns-clause-alone
returns-clause-alone c = said_alone c.args.text.now
