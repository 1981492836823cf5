-- The command line of rhset: the commands as clap reads them, and what a line says of the words.
use Rattle.std.specs.Prelude.{◌≡◌, ◌⊎◌, List, [], ◌∷◌, Option, Some, None, codes}
use Rattle.clap.specs.Walk.{Row, Rule, Text}
use Rattle.clap.specs.Simple.{App, new_app, new_rule, with_rule, with_subcommand}
use Rattle.clap.specs.declared.builder.action.ArgAction.TheVariants.{Set}
use Rattle.clap.specs.declared.builder.value_parser.ValueParser.TheVariants.{Unsigned}
use Rattle.rh_commands.specs.declared.line.asked.Line.{Line}
use Rattle.rh_commands.specs.declared.line.asked.Line.TheVariants.{Dump, Run, Check}
use Rattle.rh_commands.specs.declared.limits.TheConstants.{MAX_WORKERS}
use Rattle.rh_arguments.specs.Words.{IsTextFor, GivesNumber, HasNumber, HasText, path_rule, program_app}

-- ---- the commands

-- the command `dump` takes no argument
abbrev pub dump_app : App
dump_app = new_app (codes "dump")

-- `--workers N`: a number from 1 to MAX_WORKERS, and 1 where it is left out
abbrev pub workers_rule : Rule
workers_rule = record (new_rule (codes "workers")) {
  long = Some (codes "workers");
  action = Some Set;
  value_names = 1;
  defaults = codes "1" ∷ [];
  parser = Some (Unsigned 1 MAX_WORKERS);
}

-- the command `run` takes a script, and a number of workers
abbrev pub run_app : App
run_app = with_rule (with_rule (new_app (codes "run")) workers_rule) (path_rule (codes "script"))

-- the command `check` takes a snapshot
abbrev pub check_app : App
check_app = with_rule (new_app (codes "check")) (path_rule (codes "snapshot"))

abbrev pub rhset_app : App
rhset_app = with_subcommand (with_subcommand (with_subcommand (program_app (codes "rhset")) dump_app.top) run_app.top) check_app.top

-- ---- what was found

abbrev pub HasRunArguments : List Row → Type 0
HasRunArguments rows = HasNumber (codes "workers") 1 MAX_WORKERS rows × HasText (codes "script") rows

-- the name of a command, with what it needs
abbrev pub IsCommand : Text → List Row → Type 0
IsCommand name rows =
    (name ≡ codes "dump") ⊎ (((name ≡ codes "run") × HasRunArguments rows) ⊎ ((name ≡ codes "check") × HasText (codes "snapshot") rows))

-- ---- what a line says

-- the line is the command, with the texts that were found for it
-- `run --workers=+1 s` and `run s` both say one worker and the script s; `run --workers 17 s` is refused
abbrev pub Says : Text → List Row → Line → Type 0
Says name rows Dump = name ≡ codes "dump"
Says name rows (Run workers script) =
    (name ≡ codes "run") × GivesNumber (codes "workers") 1 MAX_WORKERS rows workers × IsTextFor (codes "script") rows script
Says name rows (Check snapshot) = (name ≡ codes "check") × IsTextFor (codes "snapshot") rows snapshot

-- a command was found, and the line is that
abbrev pub Asks : Option (Text × List Row) → Line → Type 0
Asks None line = ⊥
Asks (Some found) line = Says found.0 found.1 line
