-- The grammar of scripts: the instructions of a text, or its first fault.
use Rattle.std.specs.Prelude.{ℕ, Bool, false, ◌&&◌, ◌||◌, nat_le, if◌then◌else◌, List, [], ◌∷◌, ◌++◌, length, codes, Option, Some, None, ok_or, Result, Ok, Err}
use Rattle.std.specs.Char.{is_ascii_digit, is_ascii_lowercase}
use Rattle.std.specs.Str.{bytes_eq}
use Rattle.std.specs.List.{list_all}
use Rattle.rh_script.specs.declared.fault.ScriptFault.{ScriptFault}
use Rattle.rh_script.specs.declared.fault.ScriptFaultKind.{ScriptFaultKind}
use Rattle.rh_script.specs.declared.fault.ScriptFaultKind.TheVariants.{TooLong, BadCommand, BadName}
use Rattle.rh_script.specs.declared.action.Action.TheVariants.{Add, Drop, Keep, Flip, Ask}
use Rattle.rh_script.specs.declared.verb.Verb.{Verb}
use Rattle.rh_script.specs.declared.verb.Verb.TheVariants as verbs
use Rattle.rh_script.specs.declared.limits.TheConstants.{MAX_LINES, MAX_LINE_BYTES, MAX_NAME_BYTES}
use Rattle.rh_script.specs.Instruction.{Instruction, Use, Act, Save, Clear, Dump, Snapshot, Restore, Numbered}
use Rattle.rh_lines.specs.Lines.{without_return}
use Rattle.rh_lines.specs.Grammar.{◌>>=◌, Grammar, no_word, read_by}
use Rattle.rh_lines.specs.Grammar as texts
use Rattle.rh_script.specs.Names.{admitted}

-- ---- the command of a line

-- the bytes after the first of a name: small letters and digits
abbrev pub goes_on : ℕ → Bool
goes_on b = is_ascii_lowercase b || is_ascii_digit b

-- a small letter, and then small letters and digits
unfoldable pub is_name : List ℕ → Bool
is_name [] = false
is_name (first ∷ others) =
    is_ascii_lowercase first && list_all goes_on others && nat_le (length (first ∷ others)) MAX_NAME_BYTES

unfoldable pub verb_of : List ℕ → Option Verb
verb_of word =
    if bytes_eq word (codes "use") then Some verbs.Use
    else if bytes_eq word (codes "add") then Some (verbs.Act Add)
    else if bytes_eq word (codes "drop") then Some (verbs.Act Drop)
    else if bytes_eq word (codes "ask") then Some (verbs.Act Ask)
    else if bytes_eq word (codes "keep") then Some (verbs.Act Keep)
    else if bytes_eq word (codes "flip") then Some (verbs.Act Flip)
    else if bytes_eq word (codes "save") then Some verbs.Save
    else if bytes_eq word (codes "clear") then Some verbs.Clear
    else if bytes_eq word (codes "dump") then Some verbs.Dump
    else if bytes_eq word (codes "snapshot") then Some verbs.Snapshot
    else if bytes_eq word (codes "restore") then Some verbs.Restore
    else None

-- the words are a name
unfoldable pub one_name : List (List ℕ) → Result (List ℕ) ScriptFaultKind
one_name (name ∷ []) = if is_name name then Ok name else Err BadName
one_name _ = Err BadCommand

-- the words are a name and a path
unfoldable pub name_and_path : List (List ℕ) → Result (List ℕ × List ℕ) ScriptFaultKind
name_and_path (name ∷ path ∷ []) = if is_name name then Ok (name, path) else Err BadName
name_and_path _ = Err BadCommand

-- the words are a path
unfoldable pub one_path : List (List ℕ) → Result (List ℕ) ScriptFaultKind
one_path (path ∷ []) = Ok path
one_path _ = Err BadCommand

abbrev pub on_name : (List ℕ → Instruction) → List (List ℕ) → Result Instruction ScriptFaultKind
on_name instruction words = one_name words >>= (λ name. Ok (instruction name))

abbrev pub on_path : (List ℕ → Instruction) → List (List ℕ) → Result Instruction ScriptFaultKind
on_path instruction words = one_path words >>= (λ path. Ok (instruction path))

-- the instruction of a verb with the words after it
unfoldable pub instruction_of : Verb → List (List ℕ) → Result Instruction ScriptFaultKind
instruction_of verbs.Use words = name_and_path words >>= (λ given. Ok (Use given.0 given.1))
instruction_of (verbs.Act action) words = on_name (Act action) words
instruction_of verbs.Save words = on_name Save words
instruction_of verbs.Clear words = no_word BadCommand Clear words
instruction_of verbs.Dump words = no_word BadCommand Dump words
instruction_of verbs.Snapshot words = on_path Snapshot words
instruction_of verbs.Restore words = on_path Restore words

unfoldable pub instruction_in : List (List ℕ) → Result Instruction ScriptFaultKind
instruction_in [] = Err BadCommand
instruction_in (word ∷ words) = ok_or (verb_of word) BadCommand >>= (λ verb. instruction_of verb words)

-- what a line says, if anything
abbrev pub said_in : List ℕ → Result (Option Instruction) ScriptFaultKind
said_in = texts.line_said BadCommand instruction_in

-- ---- the lines of a script

abbrev pub within_limits : ℕ → List ℕ → Result (List ℕ) ScriptFaultKind
within_limits number line =
    if nat_le number MAX_LINES && nat_le (length line) MAX_LINE_BYTES then Ok line else Err TooLong

-- the steps so far, with that of this line
unfoldable pub entered : ℕ → List Numbered → Option Instruction → Result (List Numbered) ScriptFaultKind
entered number before None = Ok before
entered number before (Some said) =
    admitted before said >>= (λ _. Ok (before ++ record { line = number; instruction = said } ∷ []))

unfoldable pub after_line : ℕ → List Numbered → List ℕ → Result (List Numbered) ScriptFaultKind
after_line number before line =
    within_limits number line >>= (λ l. said_in (without_return l) >>= entered number before)

abbrev pub script_grammar : Grammar (List Numbered) ScriptFaultKind ScriptFault
script_grammar = record {
  start = [];
  after_line = after_line;
  fault_at = λ number kind. record { line = number; kind = kind };
}

abbrev pub script_of : List ℕ → Result (List Numbered) ScriptFault
script_of = read_by script_grammar

-- the lines of a text before that of this number have no fault
abbrev pub HasNoFaultBefore : ℕ → List ℕ → Type 0
HasNoFaultBefore = texts.NoFaultBefore script_grammar
