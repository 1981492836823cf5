-- Words that clap takes name a command of rhpack, with what it needs.
use Rattle.std.proofs.Common.{◌≡◌, List, [], codes, inl, inr, refl}
use Rattle.clap.specs.Faults.{fault_of}
use Rattle.clap.specs.Walk.{Text}
use Rattle.clap.specs.Simple.{built, subcommand_of}
use Rattle.rh_pack_commands.specs.Line.{IsCommand, rhpack_app}
use Rattle.rh_arguments.specs.Words.{Finds}
use Rattle.rh_arguments.proofs.CommandLemmas.{EachMeets, help_alone, words_find}
use Rattle.rh_pack_commands.proofs.SkipLemmas.{check_arguments, pack_arguments}
use Rattle.rh_pack_commands.proofs.SplitLemmas.{split_arguments}

each_command : (word : Text) (rest : List Text) → (word ≡ codes "help" → ⊥) → EachMeets IsCommand word rest (built rhpack_app).subs
each_command word rest other = (
  λ is below. inl (refl, check_arguments rest below),
  (
    λ is below. inr (inl (refl, pack_arguments rest below)),
    (
      λ is below. inr (inr (inl refl)),
      (λ is below. inr (inr (inr (refl, split_arguments rest below))), (λ is below. absurd (help_alone word other is), tt)),
    ),
  ),
)

pub words_name_a_command : (words : List Text) → fault_of rhpack_app words ≡ [] → Finds IsCommand (subcommand_of rhpack_app words)
words_name_a_command words passes = words_find IsCommand rhpack_app words refl refl each_command passes
