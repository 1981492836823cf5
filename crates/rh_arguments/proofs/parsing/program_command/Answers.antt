use Rattle.std.proofs.Common.{◌∙◌, ap, true}
use Rattle.std.proofs.lemmas.Result.{IfOk-weaker}
use Rattle.clap.specs.Simple.{App, app_of_fields, on_top}
use Rattle.rh_arguments.proofs.parsing.program_command.Goals as goal

abbrev with_a_command_required : App → App
with_a_command_required = on_top (λ s. record s { subcommand_required = true })

pub returns : goal.returns
returns c =
    IfOk-weaker c.bin_name.result _ _
    (λ command named.
    ap app_of_fields named.0
    ∙ ap app_of_fields c.subcommand_required.ensures
    ∙ ap (λ fields. with_a_command_required (app_of_fields fields)) c.version.ensures
    ∙ ap (on_top (λ s. record s { has_version = true; subcommand_required = true })) c.describe.ensures)
    c.bin_name.ensures
