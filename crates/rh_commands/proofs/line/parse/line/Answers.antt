use Rattle.std.proofs.Common.{◌≡◌, ◌∙◌, [], ap, subst, sym}
use Rattle.clap.specs.Words.{fault_of, is_simple_and_free, subcommand_of}
use Rattle.rh_commands.specs.Line.{IsCommand}
use Rattle.rh_arguments.specs.Words.{Finds, texts_of}
use Rattle.rh_commands.proofs.SetLemmas.{words_name_a_command}
use Rattle.rh_commands.proofs.line.parse.line.Goals as goal

pub find_arguments-requires : goal.find_arguments-requires
find_arguments-requires c = ap is_simple_and_free c.in_ok-command.ensures

-- words that clap takes name a command
pub line_in-requires : goal.line_in-requires
line_in-requires c =
    rw c.in_ok-matches.ensures.found
    (subst (λ a. fault_of a (texts_of c.args.words.now) ≡ [] → Finds IsCommand (subcommand_of a (texts_of c.args.words.now))) (sym c.in_ok-command.ensures)
    (words_name_a_command (texts_of c.args.words.now)) c.in_ok-matches.ensures.taken)

pub returns-clause-taken : goal.returns-clause-taken
returns-clause-taken c = ap (λ a. fault_of a (texts_of c.args.words.now)) (sym c.in_ok-command.ensures) ∙ c.in_ok-matches.ensures.taken
