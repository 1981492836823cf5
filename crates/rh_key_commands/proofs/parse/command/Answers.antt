use Rattle.std.proofs.Common.{codes, refl}
use Rattle.rh_key_commands.specs.Line.{atleast_app, lists_app, select_app}
use Rattle.rh_arguments.proofs.BuilderLemmas.{made_with_subcommand}
use Rattle.rh_key_commands.proofs.parse.command.Goals as goal

pub returns : goal.returns
returns c =
    let with_intersect = made_with_subcommand _ _ _ _ (lists_app (codes "intersect")) c.with_subcommand-with_intersect.ensures c.program_command-program.ensures c.lists_command-intersect.ensures refl in
    let with_union = made_with_subcommand _ _ _ _ (lists_app (codes "union")) c.with_subcommand-with_union.ensures with_intersect c.lists_command-union.ensures refl in
    let with_subtract = made_with_subcommand _ _ _ _ (lists_app (codes "subtract")) c.with_subcommand-with_subtract.ensures with_union c.lists_command-subtract.ensures refl in
    let with_xor = made_with_subcommand _ _ _ _ (lists_app (codes "xor")) c.with_subcommand-with_xor.ensures with_subtract c.lists_command-xor.ensures refl in
    let with_atleast = made_with_subcommand _ _ _ _ atleast_app c.with_subcommand-with_atleast.ensures with_xor c.atleast_command-atleast.ensures refl in
    made_with_subcommand _ _ _ _ select_app c.with_subcommand.ensures with_atleast c.select_command.ensures refl
