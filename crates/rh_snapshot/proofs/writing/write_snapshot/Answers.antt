use Rattle.rh_snapshot.specs.declared.version.Version.TheVariants.{Second}
use Rattle.rh_snapshot.proofs.Grammar.{file_given, second_file}
use Rattle.rh_snapshot.proofs.writing.write_snapshot.Goals as goal

pub returns-then-is_err-clause-read_back : goal.returns-then-is_err-clause-read_back
returns-then-is_err-clause-read_back c = file_given Second _ c.args.bits c.args.cells.now (second_file c.args.bits c.args.cells.now c.requires.layout c.requires.free)

pub returns-else-is_err-clause-read_back : goal.returns-else-is_err-clause-read_back
returns-else-is_err-clause-read_back c = file_given Second _ c.args.bits c.args.cells.now (second_file c.args.bits c.args.cells.now c.requires.layout c.requires.free)
