-- What clap found for a number or a text is what a line needs.
use Rattle.std.proofs.Common.{ℕ, false, is_some, List, [], codes, refl, ap}
use Rattle.std.proofs.Math.Dec.{leb-zero}
use Rattle.clap.specs.Walk.{Rule, Text, rows_after}
use Rattle.clap.specs.Simple.{Shape, filled, with_index}
use Rattle.clap.specs.declared.builder.value_parser.ValueParser.TheVariants.{Unsigned}
use Rattle.clap.proofs.ValueTestLemmas.{accepts-Accepts}
use Rattle.rh_arguments.specs.Words.{HasNumber, HasText, number_rule, path_rule}
use Rattle.rh_arguments.proofs.RowLemmas.{IsIn, default_row, required_row}
use Rattle.rh_arguments.proofs.ValueLemmas.{EachIs, Passes, rows_fit, value_of}

-- a number as clap builds it
abbrev pub number_built : (id : Text) (most : ℕ) → Rule
number_built id most = with_index 1 (filled (number_rule id most))

-- the first text that has to be given, as clap builds it
abbrev pub text_built : (id : Text) → Rule
text_built id = with_index 1 (filled (path_rule id))

pub number_found : (id : Text) (most : ℕ) (s : Shape) (words : List Text) → IsIn (number_built id most) s.rules → EachIs (number_built id most) s.rules → Passes s words
    → HasNumber id 0 most (rows_after s.rules [] words)
number_found id most s words within alone passes =
    let number = value_of (number_built id most) (rows_after s.rules [] words)
    (rows_fit (number_built id most) s words (refl, refl) alone (leb-zero most) passes)
    (default_row (number_built id most) s words (codes "0") [] within refl) in
    (number.0, number.2, accepts-Accepts false (Unsigned 0 most) number.0 number.3)

pub text_found : (id : Text) (s : Shape) (words : List Text) → IsIn (text_built id) s.rules → EachIs (text_built id) s.rules → Passes s words
    → HasText id (rows_after s.rules [] words)
text_found id s words within alone passes =
    let text = value_of (text_built id) (rows_after s.rules [] words)
    (rows_fit (text_built id) s words (refl, refl) alone tt passes)
    (required_row (text_built id) s words within refl passes) in
    ap is_some text.1
