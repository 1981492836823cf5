use Rattle.std.proofs.Common.{◌∙◌}
use Rattle.clap.proofs.WalkLemmas.{first_value-rows}
use Rattle.clap.specs.Words.{found_of}
use Rattle.rh_arguments.proofs.FlagLemmas.{is_word}
use Rattle.rh_arguments.proofs.flags.is_given.Goals as goal

pub returns : goal.returns
returns c =
    is_word c.get_str.result _ _ c.eq.result (c.get_str.ensures ∙ first_value-rows (found_of c.args.given.now) c.args.flag.now) c.eq.ensures
