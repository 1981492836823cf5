-- A command with one more subcommand.
use Rattle.std.proofs.Common.{◌≡◌, true, Result, Ok, Err, IfOk, IsOkAnd, ap, ap₂, ◌∙◌}
use Rattle.clap.specs.Words.{AddsSubcommand, App, app_of, with_subcommand}
use Rattle.clap.specs.declared.builder.command.Command.{Command}
use Rattle.clap.proofs.SimpleLemmas.{plain_fields}

pub app_with_subcommand : (old sub new : Command) (above below : App) → AddsSubcommand old sub new → app_of old ≡ above → app_of sub ≡ below → below.top.is_plain ≡ true
    → app_of new ≡ with_subcommand above below.top
app_with_subcommand old sub new above below adds old_is sub_is plain =
    adds.shape (plain_fields sub (ap (λ (a : App). a.top.is_plain) sub_is ∙ plain)).globals ∙ ap₂ with_subcommand old_is (ap (λ (a : App). a.top) sub_is)

-- the same, where each of the three may not have been made
pub made_with_subcommand : {E : Type 0} (old sub new : Result Command E) (above below : App)
    → IfOk new (λ c. IsOkAnd old (λ o. IsOkAnd sub (λ s. AddsSubcommand o s c)))
    → IfOk old (λ o. app_of o ≡ above) → IfOk sub (λ s. app_of s ≡ below) → below.top.is_plain ≡ true
    → IfOk new (λ c. app_of c ≡ with_subcommand above below.top)
made_with_subcommand (Ok old) (Ok sub) (Ok new) above below adds old_is sub_is plain = app_with_subcommand old sub new above below adds old_is sub_is plain
made_with_subcommand (Ok old) (Err e) (Ok new) above below adds old_is sub_is plain = absurd adds
made_with_subcommand (Err e) sub (Ok new) above below adds old_is sub_is plain = absurd adds
made_with_subcommand old sub (Err e) above below adds old_is sub_is plain = tt
