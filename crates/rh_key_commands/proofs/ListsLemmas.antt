-- What clap found for a command on lists is what a line needs.
use Rattle.std.proofs.Common.{inl, inr, List, [], codes, refl}
use Rattle.clap.specs.Walk.{Text, rows_after}
use Rattle.clap.specs.Simple.{Shape, built_leaf, inherited, with_leaf_noted}
use Rattle.rh_key_commands.specs.Line.{HasArguments, HasWith, lists_app, rhkeys_app, worded_app}
use Rattle.rh_key_commands.specs.declared.limits.TheConstants.{MAX_WORKERS}
use Rattle.rh_arguments.specs.declared.limits.TheConstants.{MAX_SKIP}
use Rattle.rh_arguments.proofs.FoundLemmas.{number_found, text_found}
use Rattle.rh_arguments.proofs.ValueLemmas.{Passes}

-- the command as clap builds it
abbrev pub lists_built : Text → Shape
lists_built name = built_leaf (inherited (with_leaf_noted rhkeys_app.top) (lists_app name).top)

pub list_arguments : (name : Text) (words : List Text) → Passes (lists_built name) words → HasArguments (rows_after (lists_built name).rules [] words)
list_arguments name words passes = (
  number_found (codes "workers") MAX_WORKERS (lists_built name) words (inl refl)
      (λ same. refl, (λ same. absurd cc, (λ same. absurd cc, (λ same. absurd cc, (λ same. absurd cc, (λ same. absurd cc, tt)))))) passes,
  number_found (codes "skip") MAX_SKIP (lists_built name) words (inr (inr (inr (inr (inl refl)))))
      (λ same. absurd cc, (λ same. absurd cc, (λ same. absurd cc, (λ same. absurd cc, (λ same. refl, (λ same. absurd cc, tt)))))) passes,
)

-- the commands that take a word before their files
abbrev pub worded_built : (name word : Text) → Shape
worded_built name word = built_leaf (inherited (with_leaf_noted rhkeys_app.top) (worded_app name word).top)

pub least_arguments : (words : List Text) → Passes (worded_built (codes "atleast") (codes "least")) words → HasWith (codes "least") (rows_after (worded_built (codes "atleast") (codes "least")).rules [] words)
least_arguments words passes = (
  text_found (codes "least") (worded_built (codes "atleast") (codes "least")) words (inr (inr (inr (inl refl))))
      (λ same. absurd cc, (λ same. absurd cc, (λ same. absurd cc, (λ same. refl, (λ same. absurd cc, (λ same. absurd cc, (λ same. absurd cc, tt))))))) passes,
  (
    number_found (codes "workers") MAX_WORKERS (worded_built (codes "atleast") (codes "least")) words (inl refl)
        (λ same. refl, (λ same. absurd cc, (λ same. absurd cc, (λ same. absurd cc, (λ same. absurd cc, (λ same. absurd cc, (λ same. absurd cc, tt))))))) passes,
    number_found (codes "skip") MAX_SKIP (worded_built (codes "atleast") (codes "least")) words (inr (inr (inr (inr (inr (inl refl))))))
        (λ same. absurd cc, (λ same. absurd cc, (λ same. absurd cc, (λ same. absurd cc, (λ same. absurd cc, (λ same. refl, (λ same. absurd cc, tt))))))) passes,
  ),
)

pub expression_arguments : (words : List Text) → Passes (worded_built (codes "select") (codes "expression")) words → HasWith (codes "expression") (rows_after (worded_built (codes "select") (codes "expression")).rules [] words)
expression_arguments words passes = (
  text_found (codes "expression") (worded_built (codes "select") (codes "expression")) words (inr (inr (inr (inl refl))))
      (λ same. absurd cc, (λ same. absurd cc, (λ same. absurd cc, (λ same. refl, (λ same. absurd cc, (λ same. absurd cc, (λ same. absurd cc, tt))))))) passes,
  (
    number_found (codes "workers") MAX_WORKERS (worded_built (codes "select") (codes "expression")) words (inl refl)
        (λ same. refl, (λ same. absurd cc, (λ same. absurd cc, (λ same. absurd cc, (λ same. absurd cc, (λ same. absurd cc, (λ same. absurd cc, tt))))))) passes,
    number_found (codes "skip") MAX_SKIP (worded_built (codes "select") (codes "expression")) words (inr (inr (inr (inr (inr (inl refl))))))
        (λ same. absurd cc, (λ same. absurd cc, (λ same. absurd cc, (λ same. absurd cc, (λ same. absurd cc, (λ same. refl, (λ same. absurd cc, tt))))))) passes,
  ),
)
