use Rattle.std.proofs.Common.{[]}
use Rattle.rh_key_files.proofs.Grammar.{file_given, file_read}
use Rattle.rh_key_files.proofs.laws.one_spelling.Goals as goal

pub returns-clause-given : goal.returns-clause-given
returns-clause-given c = λ version. file_given version c.args.bytes.now c.args.keys.now

pub returns-clause-read : goal.returns-clause-read
returns-clause-read c = λ h. (file_read c.args.bytes.now (c.args.keys.now, []) h).0
