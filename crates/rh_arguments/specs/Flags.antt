-- Flags of a command.
use Rattle.std.specs.Prelude.{◌≡◌, List, Some, codes}
use Rattle.clap.specs.Walk.{Row, Rule, Text, first_of}
use Rattle.clap.specs.Simple.{new_rule}
use Rattle.clap.specs.declared.builder.action.ArgAction.TheVariants.{SetTrue}

-- a flag, whose long name is its id
abbrev pub flag_rule : Text → Rule
flag_rule id = record (new_rule id) { long = Some id; action = Some SetTrue }

-- the flag is told as given: `true` is the text that clap has for a flag that is
-- (`get_flag` of clap promises nothing of texts that no flag has)
abbrev pub IsGiven : Text → List Row → Type 0
IsGiven id rows = first_of id rows ≡ Some (codes "true")
