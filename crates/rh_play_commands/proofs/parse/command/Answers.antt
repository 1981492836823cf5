use Rattle.std.proofs.Common.{refl}
use Rattle.rh_play_commands.specs.Line.{draw_app, play_app, trace_app}
use Rattle.rh_arguments.proofs.BuilderLemmas.{made_with_subcommand}
use Rattle.rh_play_commands.proofs.parse.command.Goals as goal

pub returns : goal.returns
returns c =
    let with_play = made_with_subcommand _ _ _ _ play_app c.with_subcommand-with_play.ensures c.program_command-program.ensures c.play_command.ensures refl in
    let with_trace = made_with_subcommand _ _ _ _ trace_app c.with_subcommand-with_trace.ensures with_play c.trace_command.ensures refl in
    made_with_subcommand _ _ _ _ draw_app c.with_subcommand.ensures with_trace c.draw_command.ensures refl
