use Rattle.std.proofs.Common.{◌∙◌}
use Rattle.std.specs.Str.Parse.{ExplainsUnsignedError, HasUnsignedDigitsIfOk, ParsesUnsigned}
use Rattle.clap.proofs.WalkLemmas.{one_text-rows}
use Rattle.clap.specs.Words.{found_of, rows_of}
use Rattle.rh_arguments.proofs.ReadLemmas.{number_given, number_read}
use Rattle.rh_arguments.proofs.parsing.number.Goals as goal

pub unwrap-requires : goal.unwrap-requires
unwrap-requires c =
    number_read (λ u x. ParsesUnsigned 64 10 u x × ExplainsUnsignedError 10 u x × HasUnsignedDigitsIfOk u x) (λ u x g. g.0)
    c.args.least c.args.most c.requires.0 c.get_one.result
    (c.get_one.ensures.value c.requires.0 (one_text-rows (found_of c.args.given.now) c.args.id.now ∙ c.requires.1)) c.requires.2

pub returns : goal.returns
returns c =
    number_given (λ u x. ParsesUnsigned 64 10 u x × ExplainsUnsignedError 10 u x × HasUnsignedDigitsIfOk u x) (λ u x g. g.0)
    c.args.id.now c.args.least c.args.most (rows_of (found_of c.args.given.now)) c.requires.0 c.get_one.result c.unwrap.result c.requires.1
    (c.get_one.ensures.value c.requires.0 (one_text-rows (found_of c.args.given.now) c.args.id.now ∙ c.requires.1)) c.requires.2 c.unwrap.ensures
