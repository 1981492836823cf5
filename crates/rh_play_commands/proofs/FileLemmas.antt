-- What clap found for a command that takes a file is what a line needs.
use Rattle.std.proofs.Common.{inl, List, [], codes, refl}
use Rattle.clap.specs.Walk.{Text, rows_after}
use Rattle.clap.specs.Simple.{App, Shape, built_leaf, inherited, with_leaf_noted}
use Rattle.rh_play_commands.specs.Line.{play_app, rhplay_app, trace_app}
use Rattle.rh_arguments.specs.Words.{HasText}
use Rattle.rh_arguments.proofs.FoundLemmas.{text_found}
use Rattle.rh_arguments.proofs.ValueLemmas.{Passes}

-- a command as clap builds it
abbrev pub command_built : App → Shape
command_built a = built_leaf (inherited (with_leaf_noted rhplay_app.top) a.top)

pub play_arguments : (words : List Text) → Passes (command_built play_app) words → HasText (codes "file") (rows_after (command_built play_app).rules [] words)
play_arguments words passes = text_found (codes "file") (command_built play_app) words (inl refl) (λ same. refl, (λ same. absurd cc, tt)) passes

pub trace_arguments : (words : List Text) → Passes (command_built trace_app) words → HasText (codes "file") (rows_after (command_built trace_app).rules [] words)
trace_arguments words passes = text_found (codes "file") (command_built trace_app) words (inl refl) (λ same. refl, (λ same. absurd cc, tt)) passes
