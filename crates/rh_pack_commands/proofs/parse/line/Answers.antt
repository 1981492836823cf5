use Rattle.std.proofs.Common.{◌≡◌, ◌∙◌, [], ap, rules, subst, sym}
use Rattle.clap.specs.Words.{App, fault_of, is_simple_and_free, subcommand_of}
use Rattle.rh_pack_commands.specs.Line.{Asks, IsCommand}
use Rattle.rh_arguments.specs.Faults.{IsOneOf}
use Rattle.rh_arguments.specs.Words.{Finds, texts_of}
use Rattle.rh_pack_commands.proofs.PackLemmas.{words_name_a_command}
use Rattle.rh_pack_commands.proofs.parse.line.Goals as goal

pub find_arguments-requires : goal.find_arguments-requires
find_arguments-requires c = ap is_simple_and_free c.in_ok-command.ensures

-- words that clap takes name a command
pub line_in-requires : goal.line_in-requires
line_in-requires c =
    rw c.in_ok-matches.ensures.found
    (subst (λ a. fault_of a (texts_of c.args.words.now) ≡ [] → Finds IsCommand (subcommand_of a (texts_of c.args.words.now))) (sym c.in_ok-command.ensures)
    (words_name_a_command (texts_of c.args.words.now)) c.in_ok-matches.ensures.taken)

pub returns-clause-asked : goal.returns-clause-asked
returns-clause-asked c =
    subst (λ r. Asks r c.in_ok-line.line) (c.in_ok-matches.ensures.found ∙ ap (λ (a : App). subcommand_of a (texts_of c.args.words.now)) c.in_ok-command.ensures) c.in_ok-line.ensures

pub returns-clause-taken : goal.returns-clause-taken
returns-clause-taken c = ap (λ (a : App). fault_of a (texts_of c.args.words.now)) (sym c.in_ok-command.ensures) ∙ c.in_ok-matches.ensures.taken

pub returns-in_err-matches-clause-refused : goal.returns-in_err-matches-clause-refused
returns-in_err-matches-clause-refused c =
    let refused = subst (λ (a : App). IsOneOf (fault_of a (texts_of c.args.words.now)) c.in_err-matches.field-0.0) c.in_ok-command.ensures c.in_err-matches.ensures.refused in
    search (rules, refused, c.from_residual-in_err-matches.ensures)
