-- What clap found for `run` is what a line needs.
use Rattle.std.proofs.Common.{inl, inr, false, List, [], codes, refl}
use Rattle.clap.specs.Walk.{Rule, Text, rows_after}
use Rattle.clap.specs.Simple.{Shape, built_leaf, filled, inherited, with_index, with_leaf_noted}
use Rattle.clap.specs.declared.builder.value_parser.ValueParser.TheVariants.{Unsigned}
use Rattle.clap.proofs.ValueTestLemmas.{accepts-Accepts}
use Rattle.rh_commands.specs.Line.{HasRunArguments, rhset_app, run_app, workers_rule}
use Rattle.rh_commands.specs.declared.limits.TheConstants.{MAX_WORKERS}
use Rattle.rh_arguments.proofs.FoundLemmas.{text_found}
use Rattle.rh_arguments.proofs.RowLemmas.{default_row}
use Rattle.rh_arguments.proofs.ValueLemmas.{Passes, rows_fit, value_of}

-- the command and its argument `--workers`, as clap builds them
abbrev pub run_built : Shape
run_built = built_leaf (inherited (with_leaf_noted rhset_app.top) run_app.top)

abbrev workers_built : Rule
workers_built = with_index 1 (filled workers_rule)

pub run_arguments : (words : List Text) → Passes run_built words → HasRunArguments (rows_after run_built.rules [] words)
run_arguments words passes =
    let workers = value_of workers_built (rows_after run_built.rules [] words)
    (rows_fit workers_built run_built words (refl, refl) (λ same. refl, (λ same. absurd cc, (λ same. absurd cc, tt))) refl passes)
    (default_row workers_built run_built words (codes "1") [] (inl refl) refl) in (
      (workers.0, workers.2, accepts-Accepts false (Unsigned 1 MAX_WORKERS) workers.0 workers.3),
      text_found (codes "script") run_built words (inr (inl refl)) (λ same. absurd cc, (λ same. refl, (λ same. absurd cc, tt))) passes,
    )
