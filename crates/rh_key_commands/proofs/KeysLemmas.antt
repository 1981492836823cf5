-- Words that clap takes name a command of rhkeys, with what it needs.
use Rattle.std.proofs.Common.{◌≡◌, List, [], codes, inl, inr, refl}
use Rattle.clap.specs.Faults.{fault_of}
use Rattle.clap.specs.Walk.{Text}
use Rattle.clap.specs.Simple.{built, subcommand_of}
use Rattle.rh_key_commands.specs.Line.{IsCommand, rhkeys_app}
use Rattle.rh_arguments.specs.Words.{Finds}
use Rattle.rh_arguments.proofs.CommandLemmas.{EachMeets, help_alone, words_find}
use Rattle.rh_combine.specs.declared.how.How.TheVariants.{Intersect, Union, Subtract, Xor}
use Rattle.rh_key_commands.proofs.ListsLemmas.{expression_arguments, least_arguments, list_arguments}

each_command : (word : Text) (rest : List Text) → (word ≡ codes "help" → ⊥) → EachMeets IsCommand word rest (built rhkeys_app).subs
each_command word rest other = (
  λ is below. inl (Intersect, refl, list_arguments (codes "intersect") rest below),
  (
    λ is below. inl (Union, refl, list_arguments (codes "union") rest below),
    (
      λ is below. inl (Subtract, refl, list_arguments (codes "subtract") rest below),
      (
        λ is below. inl (Xor, refl, list_arguments (codes "xor") rest below),
        (
          λ is below. inr (inl (refl, least_arguments rest below)),
          (λ is below. inr (inr (refl, expression_arguments rest below)), (λ is below. absurd (help_alone word other is), tt)),
        ),
      ),
    ),
  ),
)

pub words_name_a_command : (words : List Text) → fault_of rhkeys_app words ≡ [] → Finds IsCommand (subcommand_of rhkeys_app words)
words_name_a_command words passes = words_find IsCommand rhkeys_app words refl refl each_command passes
