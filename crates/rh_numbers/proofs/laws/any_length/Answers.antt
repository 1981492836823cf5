use Rattle.rh_numbers.proofs.Faults.{not_a_key_said, out_of_range_said}
use Rattle.rh_numbers.proofs.Head.{mark_passed}
use Rattle.rh_numbers.proofs.Meaning.{any_text_read}
use Rattle.rh_numbers.proofs.Spelling.{any_text_given}
use Rattle.rh_numbers.proofs.laws.any_length.Goals as goal

pub returns-clause-given : goal.returns-clause-given
returns-clause-given c = any_text_given c.args.text.now c.args.keys.now

pub returns-clause-read : goal.returns-clause-read
returns-clause-read c = any_text_read c.args.text.now c.args.keys.now

pub returns-clause-mark : goal.returns-clause-mark
returns-clause-mark c = mark_passed c.args.text.now

pub returns-clause-not_a_key : goal.returns-clause-not_a_key
returns-clause-not_a_key c = not_a_key_said c.args.text.now c.args.keys.now

pub returns-clause-out_of_range : goal.returns-clause-out_of_range
returns-clause-out_of_range c = out_of_range_said c.args.text.now c.args.keys.now
