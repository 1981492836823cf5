use Rattle.std.proofs.Common.{[], rules}
use Rattle.rh_key_files.proofs.Grammar.{long_given, long_read}
use Rattle.rh_key_files.proofs.laws.any_spelling.Goals as goal

pub returns-clause-given : goal.returns-clause-given
returns-clause-given c = λ version. long_given version c.args.bytes.now c.args.keys.now (search rules)

pub returns-clause-read : goal.returns-clause-read
returns-clause-read c = λ h. (long_read c.args.bytes.now (c.args.keys.now, []) h).0
