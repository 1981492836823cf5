-- Words that clap takes name a command of rhplay, with what it needs.
use Rattle.std.proofs.Common.{◌≡◌, List, [], codes, inl, inr, refl}
use Rattle.clap.specs.Faults.{fault_of}
use Rattle.clap.specs.Walk.{Text}
use Rattle.clap.specs.Simple.{built, subcommand_of}
use Rattle.rh_play_commands.specs.Line.{IsCommand, rhplay_app}
use Rattle.rh_arguments.specs.Words.{Finds}
use Rattle.rh_arguments.proofs.CommandLemmas.{EachMeets, help_alone, words_find}
use Rattle.rh_play_commands.proofs.FileLemmas.{play_arguments, trace_arguments}
use Rattle.rh_play_commands.proofs.DrawLemmas.{draw_arguments}

each_command : (word : Text) (rest : List Text) → (word ≡ codes "help" → ⊥) → EachMeets IsCommand word rest (built rhplay_app).subs
each_command word rest other = (
  λ is below. inl (refl, play_arguments rest below),
  (
    λ is below. inr (inl (refl, trace_arguments rest below)),
    (λ is below. inr (inr (refl, draw_arguments rest below)), (λ is below. absurd (help_alone word other is), tt)),
  ),
)

pub words_name_a_command : (words : List Text) → fault_of rhplay_app words ≡ [] → Finds IsCommand (subcommand_of rhplay_app words)
words_name_a_command words passes = words_find IsCommand rhplay_app words refl refl each_command passes
