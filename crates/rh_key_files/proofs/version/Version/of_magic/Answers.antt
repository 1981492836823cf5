use Rattle.std.proofs.Common.{rules}
use Rattle.rh_key_files.specs.declared.version.Version.TheVariants.{First, Second}
use Rattle.rh_key_files.proofs.Steps.{magic_named, none_named}
use Rattle.rh_key_files.proofs.version.Version.of_magic.Goals as goal

pub returns-then-eq-clause-some : goal.returns-then-eq-clause-some
returns-then-eq-clause-some c = λ rest. magic_named c.args.four rest First (search rules)

pub returns-then-eq-2-clause-some : goal.returns-then-eq-2-clause-some
returns-then-eq-2-clause-some c = λ rest. magic_named c.args.four rest Second (search rules)

pub returns-clause-none : goal.returns-clause-none
returns-clause-none c = λ none rest. none_named c.args.four rest (search rules) (search rules) (search rules)
