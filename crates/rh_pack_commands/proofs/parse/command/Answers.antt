use Rattle.std.proofs.Common.{refl}
use Rattle.rh_pack_commands.specs.Line.{check_app, list_app, pack_app, split_app}
use Rattle.rh_arguments.proofs.BuilderLemmas.{made_with_subcommand}
use Rattle.rh_pack_commands.proofs.parse.command.Goals as goal

pub returns : goal.returns
returns c =
    let with_check = made_with_subcommand _ _ _ _ check_app c.with_subcommand-with_check.ensures c.program_command-program.ensures c.check_command.ensures refl in
    let with_pack = made_with_subcommand _ _ _ _ pack_app c.with_subcommand-with_pack.ensures with_check c.pack_command.ensures refl in
    let with_list = made_with_subcommand _ _ _ _ list_app c.with_subcommand-with_list.ensures with_pack c.list_command.ensures refl in
    made_with_subcommand _ _ _ _ split_app c.with_subcommand.ensures with_list c.split_command.ensures refl
