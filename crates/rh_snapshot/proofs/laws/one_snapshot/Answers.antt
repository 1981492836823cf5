use Rattle.std.proofs.Common.{[]}
use Rattle.rh_snapshot.proofs.Grammar.{file_given, file_read}
use Rattle.rh_snapshot.proofs.laws.one_snapshot.Goals as goal

pub returns-clause-given : goal.returns-clause-given
returns-clause-given c = λ version bits numbers. file_given version c.args.bytes.now bits numbers

pub returns-clause-read : goal.returns-clause-read
returns-clause-read c = λ table h. (file_read c.args.bytes.now (table, []) h).0
