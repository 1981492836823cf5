-- What clap found for `split` is what a line needs.
use Rattle.std.proofs.Common.{inl, inr, List, [], codes, refl}
use Rattle.clap.specs.Walk.{Text, rows_after}
use Rattle.clap.specs.Simple.{Shape, built_leaf, inherited, with_leaf_noted}
use Rattle.rh_pack_commands.specs.Line.{HasSplitArguments, rhpack_app, split_app}
use Rattle.rh_pack_commands.specs.declared.limits.TheConstants.{MAX_PARTS}
use Rattle.rh_arguments.specs.declared.limits.TheConstants.{MAX_SKIP}
use Rattle.rh_arguments.proofs.FoundLemmas.{number_found, text_found}
use Rattle.rh_arguments.proofs.ValueLemmas.{Passes}

-- the command as clap builds it
abbrev pub split_built : Shape
split_built = built_leaf (inherited (with_leaf_noted rhpack_app.top) split_app.top)

pub split_arguments : (words : List Text) → Passes split_built words → HasSplitArguments (rows_after split_built.rules [] words)
split_arguments words passes = (
  number_found (codes "parts") MAX_PARTS split_built words (inl refl)
      (λ same. refl, (λ same. absurd cc, (λ same. absurd cc, (λ same. absurd cc, (λ same. absurd cc, (λ same. absurd cc, (λ same. absurd cc, tt))))))) passes,
  text_found (codes "name") split_built words (inr (inr (inr (inl refl))))
      (λ same. absurd cc, (λ same. absurd cc, (λ same. absurd cc, (λ same. refl, (λ same. absurd cc, (λ same. absurd cc, (λ same. absurd cc, tt))))))) passes,
  number_found (codes "skip") MAX_SKIP split_built words (inr (inr (inr (inr (inr (inl refl))))))
      (λ same. absurd cc, (λ same. absurd cc, (λ same. absurd cc, (λ same. absurd cc, (λ same. absurd cc, (λ same. refl, (λ same. absurd cc, tt))))))) passes,
)
