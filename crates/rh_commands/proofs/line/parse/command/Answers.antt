use Rattle.std.proofs.Common.{refl, Ok}
use Rattle.rh_commands.specs.Line.{check_app, dump_app, run_app}
use Rattle.rh_arguments.proofs.BuilderLemmas.{made_with_subcommand}
use Rattle.rh_commands.proofs.line.parse.command.Goals as goal

pub returns : goal.returns
returns c =
    let with_dump = made_with_subcommand _ (Ok c.dump_command.result) _ _ dump_app c.with_subcommand-with_dump.ensures c.program_command-program.ensures c.dump_command.ensures refl in
    let with_run = made_with_subcommand _ _ _ _ run_app c.with_subcommand-with_run.ensures with_dump c.run_command.ensures refl in
    made_with_subcommand _ _ _ _ check_app c.with_subcommand.ensures with_run c.check_command.ensures refl
