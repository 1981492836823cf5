-- The command line of rhkeys: the commands as clap reads them, and what a line says of the words.
use Rattle.std.specs.Prelude.{◌≡◌, ◌⊎◌, ◌↔◌, Bool, IsTrue, List, Option, Some, None, true, false, codes}
use Rattle.clap.specs.Walk.{Row, Rule, Text}
use Rattle.clap.specs.Simple.{App, new_app, new_rule, with_rule, with_subcommand}
use Rattle.clap.specs.declared.builder.action.ArgAction.TheVariants.{Append}
use Rattle.rh_key_commands.specs.declared.asked.Asked.{Asked}
use Rattle.rh_key_commands.specs.declared.asked.Asked.TheVariants.{Made, AtLeast, Select}
use Rattle.rh_key_commands.specs.declared.asked.Line.{Line}
use Rattle.rh_combine.specs.declared.how.How.{How}
use Rattle.rh_combine.specs.declared.how.How.TheVariants.{Intersect, Union, Subtract, Xor}
use Rattle.rh_combine.specs.declared.form.Form.{Form}
use Rattle.rh_combine.specs.declared.form.Form.TheVariants.{Lines, Count, Packed}
use Rattle.rh_key_commands.specs.declared.limits.TheConstants.{MAX_WORKERS}
use Rattle.rh_arguments.specs.Flags.{IsGiven, flag_rule}
use Rattle.rh_arguments.specs.Skip.{GivesSkip, HasSkip, skip_rule}
use Rattle.rh_arguments.specs.Words.{GivesAll, GivesNumber, HasNumber, HasText, IsTextFor, number_rule, path_rule, program_app}

-- ---- the commands

-- the command's name
abbrev pub name_of : How → Text
name_of Intersect = codes "intersect"
name_of Union = codes "union"
name_of Subtract = codes "subtract"
name_of Xor = codes "xor"

-- files, of which one at least has to be named
abbrev pub lists_rule : Rule
lists_rule = record (new_rule (codes "file")) { action = Some Append; value_names = 1; required = true }

-- a command takes a number of workers and two flags
abbrev pub flagged_app : Text → App
flagged_app name = with_rule (with_rule (with_rule (new_app name) (number_rule (codes "workers") MAX_WORKERS)) (flag_rule (codes "count"))) (flag_rule (codes "packed"))

-- with files, and how many of their lines are passed by
abbrev pub lists_app : Text → App
lists_app name = with_rule (with_rule (flagged_app name) lists_rule) skip_rule

-- with a word before its files
abbrev pub worded_app : (name word : Text) → App
worded_app name word = with_rule (with_rule (with_rule (flagged_app name) (path_rule word)) lists_rule) skip_rule

abbrev pub atleast_app : App
atleast_app = worded_app (codes "atleast") (codes "least")

abbrev pub select_app : App
select_app = worded_app (codes "select") (codes "expression")

abbrev pub rhkeys_app : App
rhkeys_app =
    with_subcommand (with_subcommand (with_subcommand (with_subcommand (with_subcommand (with_subcommand (program_app (codes "rhkeys"))
    (lists_app (codes "intersect")).top) (lists_app (codes "union")).top) (lists_app (codes "subtract")).top) (lists_app (codes "xor")).top) atleast_app.top) select_app.top

-- ---- what was found

abbrev pub HasArguments : List Row → Type 0
HasArguments rows = HasNumber (codes "workers") 0 MAX_WORKERS rows × HasSkip rows

abbrev pub HasWith : (word : Text) → List Row → Type 0
HasWith word rows = HasText word rows × HasArguments rows

-- the name of a command, with what it needs
abbrev pub IsCommand : Text → List Row → Type 0
IsCommand name rows =
    ((how : How) × (name ≡ name_of how) × HasArguments rows)
    ⊎ (((name ≡ codes "atleast") × HasWith (codes "least") rows) ⊎ ((name ≡ codes "select") × HasWith (codes "expression") rows))

-- ---- what a line says

-- what is written: with no flag the numbers, with one their count or a key file of them, and with both it is refused
abbrev pub form_asked : (count packed : Bool) → Option Form
form_asked true true = None
form_asked true false = Some Count
form_asked false true = Some Packed
form_asked false false = Some Lines

-- the flags that were found ask for that
abbrev pub AsksForm : List Row → Option Form → Type 0
AsksForm rows form =
    (count : Bool) × (packed : Bool) × (IsTrue count ↔ IsGiven (codes "count") rows) × (IsTrue packed ↔ IsGiven (codes "packed") rows)
    × (form ≡ form_asked count packed)

-- what all commands on lists are given
abbrev pub AsksLists : List Row → Line → Type 0
AsksLists rows line =
    AsksForm rows line.form × GivesNumber (codes "workers") 0 MAX_WORKERS rows line.workers × GivesSkip rows line.skip
    × GivesAll (codes "file") rows line.files.items

-- the command of this name asks this
abbrev pub AsksThis : Text → List Row → Asked → Type 0
AsksThis name rows (Made how) = name ≡ name_of how
AsksThis name rows (AtLeast least) = (name ≡ codes "atleast") × IsTextFor (codes "least") rows least
AsksThis name rows (Select expression) = (name ≡ codes "select") × IsTextFor (codes "expression") rows expression

-- the line is the command, with what was found for it
abbrev pub Says : Text → List Row → Line → Type 0
Says name rows line = AsksThis name rows line.asked × AsksLists rows line

-- a command was found, and the line is that
abbrev pub Asks : Option (Text × List Row) → Line → Type 0
Asks None line = ⊥
Asks (Some found) line = Says found.0 found.1 line
