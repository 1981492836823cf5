-- The command line of rhpack: the commands as clap reads them, and what a line says of the words.
use Rattle.std.specs.Prelude.{◌≡◌, ◌⊎◌, ◌↔◌, IsTrue, List, Option, Some, None, codes}
use Rattle.clap.specs.Walk.{Row, Rule, Text}
use Rattle.clap.specs.Simple.{App, new_app, new_rule, with_rule, with_subcommand}
use Rattle.clap.specs.declared.builder.action.ArgAction.TheVariants.{Append, Set}
use Rattle.rh_pack_commands.specs.declared.asked.Line.{Line}
use Rattle.rh_pack_commands.specs.declared.asked.Line.TheVariants.{Check, Pack, List as Listing, Split}
use Rattle.rh_pack_commands.specs.declared.limits.TheConstants.{MAX_PARTS}
use Rattle.rh_arguments.specs.Flags.{IsGiven, flag_rule}
use Rattle.rh_arguments.specs.Skip.{GivesSkip, HasSkip, skip_rule}
use Rattle.rh_arguments.specs.Words.{IsTextFor, GivesAll, GivesNumber, HasNumber, HasText, number_rule, path_rule, program_app}

-- ---- the commands

-- one file at the most
abbrev pub file_rule : Rule
file_rule = record (new_rule (codes "file")) { action = Some Set; value_names = 1 }

-- any number of files
abbrev pub files_rule : Rule
files_rule = record (new_rule (codes "file")) { action = Some Append; value_names = 1 }

-- the command `check` takes files, and how many lines are passed by
abbrev pub check_app : App
check_app = with_rule (with_rule (new_app (codes "check")) files_rule) skip_rule

-- the command `pack` takes a file, and how many of its lines are passed by
abbrev pub pack_app : App
pack_app = with_rule (with_rule (new_app (codes "pack")) file_rule) skip_rule

-- the command `list` takes the flag `--snapshot`, and files
abbrev pub list_app : App
list_app = with_rule (with_rule (new_app (codes "list")) (flag_rule (codes "snapshot"))) files_rule

-- the command `split` takes a number of parts, these flags, a name, a file, and how many of its lines are passed by
abbrev pub named_split : App
named_split =
    with_rule (with_rule (with_rule (with_rule (new_app (codes "split")) (number_rule (codes "parts") MAX_PARTS)) (flag_rule (codes "key-file"))) (flag_rule (codes "plan"))) (path_rule (codes "name"))

abbrev pub split_app : App
split_app = with_rule (with_rule named_split file_rule) skip_rule

abbrev pub rhpack_app : App
rhpack_app =
    with_subcommand (with_subcommand (with_subcommand (with_subcommand (program_app (codes "rhpack")) check_app.top) pack_app.top) list_app.top) split_app.top

-- ---- what was found

abbrev pub HasSplitArguments : List Row → Type 0
HasSplitArguments rows = HasNumber (codes "parts") 0 MAX_PARTS rows × HasText (codes "name") rows × HasSkip rows

-- the name of a command, with what it needs
abbrev pub IsCommand : Text → List Row → Type 0
IsCommand name rows =
    ((name ≡ codes "check") × HasSkip rows)
    ⊎ (((name ≡ codes "pack") × HasSkip rows) ⊎ ((name ≡ codes "list") ⊎ ((name ≡ codes "split") × HasSplitArguments rows)))

-- ---- what a line says

-- the line is the command, with what was found for it
abbrev pub Says : Text → List Row → Line → Type 0
Says name rows (Check skip files) = (name ≡ codes "check") × GivesSkip rows skip × GivesAll (codes "file") rows files.items
Says name rows (Pack skip files) = (name ≡ codes "pack") × GivesSkip rows skip × GivesAll (codes "file") rows files.items
Says name rows (Listing snapshot files) =
    (name ≡ codes "list") × (IsTrue snapshot ↔ IsGiven (codes "snapshot") rows) × GivesAll (codes "file") rows files.items
Says name rows (Split parts key_file plan text skip files) =
    (name ≡ codes "split") × GivesNumber (codes "parts") 0 MAX_PARTS rows parts × (IsTrue key_file ↔ IsGiven (codes "key-file") rows)
    × (IsTrue plan ↔ IsGiven (codes "plan") rows) × IsTextFor (codes "name") rows text × GivesSkip rows skip × GivesAll (codes "file") rows files.items

-- a command was found, and the line is that
abbrev pub Asks : Option (Text × List Row) → Line → Type 0
Asks None line = ⊥
Asks (Some found) line = Says found.0 found.1 line
