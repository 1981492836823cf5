-- What clap found for `check` and `pack` is what a line needs.
use Rattle.std.proofs.Common.{inl, inr, List, [], codes, refl}
use Rattle.clap.specs.Walk.{Text, rows_after}
use Rattle.clap.specs.Simple.{App, Shape, built_leaf, inherited, with_leaf_noted}
use Rattle.rh_pack_commands.specs.Line.{check_app, pack_app, rhpack_app}
use Rattle.rh_arguments.specs.Skip.{HasSkip}
use Rattle.rh_arguments.specs.declared.limits.TheConstants.{MAX_SKIP}
use Rattle.rh_arguments.proofs.FoundLemmas.{number_found}
use Rattle.rh_arguments.proofs.ValueLemmas.{Passes}

-- a command as clap builds it
abbrev pub command_built : App → Shape
command_built a = built_leaf (inherited (with_leaf_noted rhpack_app.top) a.top)

pub check_arguments : (words : List Text) → Passes (command_built check_app) words → HasSkip (rows_after (command_built check_app).rules [] words)
check_arguments words passes =
    number_found (codes "skip") MAX_SKIP (command_built check_app) words (inr (inl refl)) (λ same. absurd cc, (λ same. refl, (λ same. absurd cc, tt))) passes

pub pack_arguments : (words : List Text) → Passes (command_built pack_app) words → HasSkip (rows_after (command_built pack_app).rules [] words)
pack_arguments words passes =
    number_found (codes "skip") MAX_SKIP (command_built pack_app) words (inr (inl refl)) (λ same. absurd cc, (λ same. refl, (λ same. absurd cc, tt))) passes
