-- What clap found for `draw` is what a line needs.
use Rattle.std.proofs.Common.{inl, inr, false, List, [], codes, refl}
use Rattle.clap.specs.Walk.{Rule, Text, rows_after}
use Rattle.clap.specs.Simple.{Shape, built_leaf, filled, inherited, with_index, with_leaf_noted}
use Rattle.clap.specs.declared.builder.value_parser.ValueParser.TheVariants.{Unsigned}
use Rattle.clap.proofs.ValueTestLemmas.{accepts-Accepts}
use Rattle.rh_play_commands.specs.Line.{HasDrawArguments, draw_app, from_rule, rhplay_app}
use Rattle.rh_play_commands.specs.declared.limits.TheConstants.{MAX_DRAWN, MAX_FROM}
use Rattle.rh_arguments.proofs.FoundLemmas.{number_found, text_found}
use Rattle.rh_arguments.proofs.RowLemmas.{default_row}
use Rattle.rh_arguments.proofs.ValueLemmas.{Passes, rows_fit, value_of}

-- the command and its argument `--from`, as clap builds them
abbrev pub draw_built : Shape
draw_built = built_leaf (inherited (with_leaf_noted rhplay_app.top) draw_app.top)

abbrev from_built : Rule
from_built = with_index 1 (filled from_rule)

pub draw_arguments : (words : List Text) → Passes draw_built words → HasDrawArguments (rows_after draw_built.rules [] words)
draw_arguments words passes =
    let from = value_of from_built (rows_after draw_built.rules [] words)
    (rows_fit from_built draw_built words (refl, refl) (λ same. refl, (λ same. absurd cc, (λ same. absurd cc, (λ same. absurd cc, tt)))) refl passes)
    (default_row from_built draw_built words (codes "1") [] (inl refl) refl) in (
      (from.0, from.2, accepts-Accepts false (Unsigned 1 MAX_FROM) from.0 from.3),
      number_found (codes "steps") MAX_DRAWN draw_built words (inr (inl refl)) (λ same. absurd cc, (λ same. refl, (λ same. absurd cc, (λ same. absurd cc, tt)))) passes,
      text_found (codes "file") draw_built words (inr (inr (inl refl))) (λ same. absurd cc, (λ same. absurd cc, (λ same. refl, (λ same. absurd cc, tt)))) passes,
    )
