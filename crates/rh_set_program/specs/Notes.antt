-- What a second line says, for a person.
use Rattle.std.specs.Prelude.{◌≡◌, ◌≢◌, ◌⊎◌, ℕ, ◌-◌, List, ◌∷◌, drop, IsTrue, not, Option, None, Some, Result, Err, string_bytes}
use Rattle.std.specs.List.{list_all, slice_get}
use Rattle.rh_streams.specs.Quoted.{quoted}
use Rattle.rh_key_files.specs.declared.fault.KeyFault.TheVariants as keys
use Rattle.rh_snapshot.specs.declared.fault.SnapFault.TheVariants as snap
use Rattle.rh_lines.specs.Lines.{is_printable, lines_of, without_return, words_of}
use Rattle.rh_operations.specs.declared.cause.Cause.{Cause}
use Rattle.rh_operations.specs.declared.cause.Cause.TheVariants as causes
use Rattle.rh_script.specs.Grammar.{verb_of}
use Rattle.rh_script.specs.declared.fault.ScriptFault.{ScriptFault}
use Rattle.rh_script.specs.declared.fault.ScriptFaultKind.{ScriptFaultKind}
use Rattle.rh_script.specs.declared.fault.ScriptFaultKind.TheVariants.{BadCommand, BadName}
use Rattle.rh_script_run.specs.declared.wanted.Wanted.{Wanted}
use Rattle.rh_cli.specs.declared.status.ProgramFault.TheVariants as program
use Rattle.rh_cli.specs.declared.status.Status.{Status}
use Rattle.rh_commands.specs.declared.check.CheckFault.TheVariants as check
use Rattle.rh_commands.specs.declared.dump.DumpFault.TheVariants as dump
use Rattle.rh_set_program.specs.declared.status.Fault.{Fault}
use Rattle.rh_set_program.specs.declared.status.Fault.TheVariants as fault
use Rattle.rh_set_program.specs.declared.note.Note.{Note}
use Rattle.rh_set_program.specs.declared.note.Note.TheVariants as note

-- the word in the place of a name
abbrev pub NotesName : (line : List ℕ) → Note → Type 0
NotesName line (note.Name word) =
    (verb : List ℕ) × (named : List ℕ) × (rest : List (List ℕ)) × (words_of line ≡ verb ∷ named ∷ rest) × (string_bytes word ≡ quoted named)
NotesName line told = ⊥

-- this word is shown
abbrev pub ShowsWord : (word : List ℕ) → Note → Type 0
ShowsWord word (note.Command shown) = string_bytes shown ≡ quoted word
ShowsWord word told = ⊥

-- this line is shown
abbrev pub ShowsLine : (line : List ℕ) → Note → Type 0
ShowsLine line (note.Form shown form) = string_bytes shown ≡ quoted line
ShowsLine line told = ⊥

-- The first word is no command, or it is one and the words behind it are not its own.
abbrev pub NotesWords : (line : List ℕ) → Note → Type 0
NotesWords line told =
    (verb : List ℕ) × (rest : List (List ℕ)) × (words_of line ≡ verb ∷ rest) × (((verb_of verb ≡ None) × ShowsWord verb told) ⊎ ((verb_of verb ≢ None) × ShowsLine line told))

-- a line has a byte that none may have, and is shown from one byte on; else as its words say
abbrev pub NotesCommand : (line : List ℕ) → Note → Type 0
NotesCommand line (note.Byte shown) = IsTrue (not (list_all is_printable line)) × ((i : ℕ) × (string_bytes shown ≡ quoted (drop i line)))
NotesCommand line told = NotesWords line told

-- of a line by its fault
abbrev pub NotesLine : (line : List ℕ) → ScriptFaultKind → Note → Type 0
NotesLine line BadName told = NotesName line told
NotesLine line BadCommand told = NotesCommand line told
NotesLine line kind told = ⊥

-- of the line of a text that the fault stands at
abbrev pub NotesScript : (text : List ℕ) → ScriptFault → Note → Type 0
NotesScript text fault told = (line : List ℕ) × (slice_get (lines_of text) (fault.line - 1) ≡ Some line) × NotesLine (without_return line) fault.kind told

-- the cause is that a file could not be opened, read or written
abbrev pub IsOfFile : Cause → Type 0
IsOfFile cause = (cause ≡ causes.Missing) ⊎ (cause ≡ causes.Put) ⊎ (cause ≡ causes.Keys keys.Read) ⊎ (cause ≡ causes.Snap snap.Read)

-- what is said of a run by its cause: the numbers that it wanted, its file, or that this may be a text
abbrev pub NotesRun : Cause → (wanted : Option Wanted) → Note → Type 0
NotesRun cause wanted (note.TooLarge held list) = (cause ≡ causes.TooLarge) × (wanted ≡ Some (record { held = held; list = list }))
NotesRun cause wanted (note.File f) = IsOfFile cause
NotesRun cause wanted (note.Text path) = (cause ≡ causes.Keys keys.NotKeys) ⊎ (cause ≡ causes.Keys keys.Short)
NotesRun cause wanted told = ⊥

-- a command ended so because its output could not be written
abbrev pub IsUnwritten : Result Status Fault → Type 0
IsUnwritten (Err (fault.Program f)) = f ≡ program.Write
IsUnwritten (Err (fault.Dump f)) = f ≡ dump.Write
IsUnwritten (Err (fault.Check f)) = f ≡ check.Write
IsUnwritten (Err (fault.Run f)) = f.cause ≡ causes.Write
IsUnwritten r = ⊥
