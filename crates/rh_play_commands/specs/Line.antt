-- The command line of rhplay: the commands as clap reads them, and what a line says of the words.
use Rattle.std.specs.Prelude.{◌≡◌, ◌⊎◌, List, [], ◌∷◌, Option, Some, None, codes}
use Rattle.clap.specs.Walk.{Row, Rule, Text}
use Rattle.clap.specs.Simple.{App, new_app, new_rule, with_rule, with_subcommand}
use Rattle.clap.specs.declared.builder.action.ArgAction.TheVariants.{Set}
use Rattle.clap.specs.declared.builder.value_parser.ValueParser.TheVariants.{Unsigned}
use Rattle.rh_play_commands.specs.declared.asked.Line.{Line}
use Rattle.rh_play_commands.specs.declared.asked.Line.TheVariants.{Play, Trace, Draw}
use Rattle.rh_play_commands.specs.declared.limits.TheConstants.{MAX_DRAWN, MAX_FROM}
use Rattle.rh_arguments.specs.Words.{IsTextFor, GivesNumber, HasNumber, HasText, number_rule, path_rule, program_app}

-- ---- the commands

-- the command `play` takes a file
abbrev pub play_app : App
play_app = with_rule (new_app (codes "play")) (path_rule (codes "file"))

-- and so does the command `trace`
abbrev pub trace_app : App
trace_app = with_rule (new_app (codes "trace")) (path_rule (codes "file"))

-- `--from STEP`: the number of a step, and 1 where it is left out
abbrev pub from_rule : Rule
from_rule = record (new_rule (codes "from")) {
  long = Some (codes "from");
  action = Some Set;
  value_names = 1;
  defaults = codes "1" ∷ [];
  parser = Some (Unsigned 1 MAX_FROM);
}

-- the command `draw` takes a file, and which steps are drawn
abbrev pub draw_app : App
draw_app = with_rule (with_rule (with_rule (new_app (codes "draw")) from_rule) (number_rule (codes "steps") MAX_DRAWN)) (path_rule (codes "file"))

abbrev pub rhplay_app : App
rhplay_app = with_subcommand (with_subcommand (with_subcommand (program_app (codes "rhplay")) play_app.top) trace_app.top) draw_app.top

-- ---- what was found

abbrev pub HasDrawArguments : List Row → Type 0
HasDrawArguments rows = HasNumber (codes "from") 1 MAX_FROM rows × HasNumber (codes "steps") 0 MAX_DRAWN rows × HasText (codes "file") rows

-- the name of a command, with what it needs
abbrev pub IsCommand : Text → List Row → Type 0
IsCommand name rows =
    ((name ≡ codes "play") × HasText (codes "file") rows)
    ⊎ (((name ≡ codes "trace") × HasText (codes "file") rows) ⊎ ((name ≡ codes "draw") × HasDrawArguments rows))

-- ---- what a line says

-- the line is the command, with the texts that were found for it
-- `draw --from=+2 p` and `draw p --from 2` both say all steps of the play p from the second on; `draw --from 0 p` is refused
abbrev pub Says : Text → List Row → Line → Type 0
Says name rows (Play file) = (name ≡ codes "play") × IsTextFor (codes "file") rows file
Says name rows (Trace file) = (name ≡ codes "trace") × IsTextFor (codes "file") rows file
Says name rows (Draw from steps file) =
    (name ≡ codes "draw") × GivesNumber (codes "from") 1 MAX_FROM rows from × GivesNumber (codes "steps") 0 MAX_DRAWN rows steps × IsTextFor (codes "file") rows file

-- a command was found, and the line is that
abbrev pub Asks : Option (Text × List Row) → Line → Type 0
Asks None line = ⊥
Asks (Some found) line = Says found.0 found.1 line
