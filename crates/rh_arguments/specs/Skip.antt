-- The argument of the commands that read texts: how many of their first lines are passed by.
use Rattle.std.specs.Prelude.{ℕ, List, codes}
use Rattle.clap.specs.Walk.{Row, Rule}
use Rattle.rh_arguments.specs.Words.{GivesNumber, HasNumber, number_rule}
use Rattle.rh_arguments.specs.declared.limits.TheConstants.{MAX_SKIP}

-- `--skip N`: a number up to MAX_SKIP, and 0 where it is left out
abbrev pub skip_rule : Rule
skip_rule = number_rule (codes "skip") MAX_SKIP

abbrev pub HasSkip : List Row → Type 0
HasSkip rows = HasNumber (codes "skip") 0 MAX_SKIP rows

abbrev pub GivesSkip : List Row → (skip : ℕ) → Type 0
GivesSkip rows skip = GivesNumber (codes "skip") 0 MAX_SKIP rows skip
