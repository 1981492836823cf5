use Rattle.std.proofs.Common.{◌∙◌, ◌++◌, ap}
use Rattle.rh_list_commands.specs.Commands.{written}
use Rattle.rh_lists.proofs.Given.{one_each}
use Rattle.rh_list_commands.proofs.laws.commands_agree.Goals as goal

pub returns : goal.returns
returns c answer form files paths input left rest first first_new second second_new (lists, each, wrote) (others, each', wrote') =
    (written form (answer others), wrote ∙ ap (λ l. first ++ written form (answer l)) (one_each files paths input left rest lists others each each'), wrote')
