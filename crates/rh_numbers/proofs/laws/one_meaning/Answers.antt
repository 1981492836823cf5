use Rattle.rh_numbers.proofs.Meaning.{text_read}
use Rattle.rh_numbers.proofs.Spelling.{text_given, text_written}
use Rattle.rh_numbers.proofs.laws.one_meaning.Goals as goal

pub returns-clause-given : goal.returns-clause-given
returns-clause-given c = text_given c.args.text.now c.args.keys.now

pub returns-clause-read : goal.returns-clause-read
returns-clause-read c = text_read c.args.text.now c.args.keys.now

pub returns-clause-written : goal.returns-clause-written
returns-clause-written c = text_written c.args.keys.now
