-- What a command line says of a program, of its words, and of what is found in them.
use Rattle.std.specs.Prelude.{◌≡◌, ◌≤◌, ℕ, true, List, [], ◌∷◌, false, unwrap_or, Option, Some, None, is_some, map, option_map, string_bytes, String, codes}
use Rattle.std.specs.Global.{Global}
use Rattle.std.specs.Str.Parse.{digits_value, without_leading_plus}
use Rattle.clap.specs.Values.{IsUnsignedIn}
use Rattle.clap.specs.Walk.{Row, Rule, Text, all_of, first_of, one_of, rule_of}
use Rattle.clap.specs.Simple.{App, new_app, new_rule, on_top}
use Rattle.clap.specs.declared.builder.arg.Arg.{Arg}
use Rattle.clap.specs.declared.builder.action.ArgAction.TheVariants.{Set}
use Rattle.clap.specs.declared.builder.value_parser.ValueParser.TheVariants.{Unsigned}

-- a program before its commands: it has a version, and a command has to be named
abbrev pub program_app : Text → App
program_app name = on_top (λ s. record s { has_version = true; subcommand_required = true }) (new_app name)

-- an argument that has to be given, such as a path; any text is taken
abbrev pub path_rule : Text → Rule
path_rule id = record (new_rule id) { action = Some Set; value_names = 1; required = true }

-- `--id N`: a number up to `most`, and 0 where it is left out
abbrev pub number_rule : (id : Text) (most : ℕ) → Rule
number_rule id most = record (new_rule id) {
  long = Some id;
  action = Some Set;
  value_names = 1;
  defaults = codes "0" ∷ [];
  parser = Some (Unsigned 0 most);
}

-- the argument of this rule; no command below its own knows it
pub record IsArg (rule : Rule) (arg : Arg) : Type 0 where
  pub ruled : rule_of arg ≡ rule
  pub local : arg.global ≡ false

-- the words as texts, of which the first is the program's name
abbrev pub texts_of : List (String Global) → List Text
texts_of = map string_bytes

-- a command was found, and this holds of its name and of the rows of its arguments
abbrev pub Finds : (Text → List Row → Type 0) → Option (Text × List Row) → Type 0
Finds P None = ⊥
Finds P (Some found) = P found.0 found.1

-- ---- what was found

-- there is a text for the argument
abbrev pub HasText : Text → List Row → Type 0
HasText id rows = is_some (first_of id rows) ≡ true

-- there is a text for the argument, which spells a number in these bounds
abbrev pub HasNumber : (id : Text) (least most : ℕ) → List Row → Type 0
HasNumber id least most rows = (text : Text) × (one_of id rows ≡ Some text) × IsUnsignedIn least most text

-- ---- what is told of it

-- the text is the one for the argument
abbrev pub IsTextFor : Text → List Row → String Global → Type 0
IsTextFor id rows text = first_of id rows ≡ Some (string_bytes text)

-- the texts are those for the argument, in their order
abbrev pub GivesAll : Text → List Row → List (String Global) → Type 0
GivesAll id rows texts = texts_of texts ≡ unwrap_or (all_of id rows) []

-- the number that a text spells; a plus may stand before its digits
abbrev pub number_spelled : Text → ℕ
number_spelled text = digits_value 10 (without_leading_plus text)

-- the number is the one that the text for the argument spells, and lies in these bounds
abbrev pub GivesNumber : (id : Text) (least most : ℕ) → List Row → ℕ → Type 0
GivesNumber id least most rows n = (option_map number_spelled (one_of id rows) ≡ Some n) × (least ≤ n) × (n ≤ most)
