-- What clap found for `check` is what a line needs.
use Rattle.std.proofs.Common.{inl, List, [], codes, refl}
use Rattle.clap.specs.Walk.{Text, rows_after}
use Rattle.clap.specs.Simple.{Shape, built_leaf, inherited, with_leaf_noted}
use Rattle.rh_commands.specs.Line.{check_app, rhset_app}
use Rattle.rh_arguments.specs.Words.{HasText}
use Rattle.rh_arguments.proofs.FoundLemmas.{text_found}
use Rattle.rh_arguments.proofs.ValueLemmas.{Passes}

-- the command as clap builds it
abbrev pub check_built : Shape
check_built = built_leaf (inherited (with_leaf_noted rhset_app.top) check_app.top)

pub check_arguments : (words : List Text) → Passes check_built words → HasText (codes "snapshot") (rows_after check_built.rules [] words)
check_arguments words passes = text_found (codes "snapshot") check_built words (inl refl) (λ same. refl, (λ same. absurd cc, tt)) passes
