-- What is told of a list that was not read, or is refused, and why; and of what `select` was asked with.
use Rattle.std.specs.Prelude.{◌≡◌, ◌≢◌, ◌⊎◌, ℕ, List, Option, Some, None, slice_get, string_bytes}
use Rattle.std.specs.declared.io.ErrorKind.{ErrorKind}
use Rattle.std.specs.declared.io.ErrorKind.TheVariants.{NotFound, PermissionDenied}
use Rattle.rh_cli.specs.declared.status.ProgramFault.TheVariants as program
use Rattle.rh_key_files.specs.declared.fault.KeyFault.TheVariants as keys
use Rattle.rh_numbers.specs.declared.fault.TextFault.TheVariants as text
use Rattle.rh_shelf.specs.declared.shelf.ShelfFault.TheVariants as shelf
use Rattle.rh_lists.specs.declared.fault.ListFault.TheVariants as of_list
use Rattle.rh_lists.specs.declared.fault.CommandFault.{CommandFault}
use Rattle.rh_lists.specs.declared.fault.CommandFault.TheVariants as command
use Rattle.rh_lists.specs.declared.fault.FileFault.{FileFault as CombinedFault}
use Rattle.rh_lists.specs.declared.fault.FileFault.TheVariants as combined
use Rattle.rh_expressions.specs.declared.fault.SelectFault.{SelectFault}
use Rattle.rh_expressions.specs.declared.fault.SelectFault.TheVariants as select
use Rattle.rh_keys_program.specs.declared.fault.Fault.{Fault}
use Rattle.rh_keys_program.specs.declared.fault.Fault.TheVariants as fault
use Rattle.rh_keys_program.specs.declared.fault.Found.{Found}
use Rattle.rh_keys_program.specs.declared.fault.Found.TheVariants as found
use Rattle.rh_keys_program.specs.declared.fault.InputFault.{InputFault}
use Rattle.rh_keys_program.specs.declared.fault.InputFault.TheVariants as input
use Rattle.rh_keys_program.specs.declared.fault.Place.{Place}
use Rattle.rh_keys_program.specs.declared.fault.Place.TheVariants as place
use Rattle.rh_keys_program.specs.declared.fault.Reason.{Reason}
use Rattle.rh_keys_program.specs.declared.fault.Reason.TheVariants.{Unknown, NoFile, NoRight, Folder}

-- ---- what was read

-- the path that was named
abbrev pub path_of : Place → Option (List ℕ)
path_of place.Input = None
path_of (place.File path) = Some (string_bytes path)

-- why a file was not opened, of which the system says this
abbrev pub reason_of_kind : ErrorKind → Reason
reason_of_kind NotFound = NoFile
reason_of_kind PermissionDenied = NoRight
reason_of_kind kind = Unknown

-- what may be told of a failed read: whether it was a folder
abbrev pub IsFolderOrNone : Reason → Type 0
IsFolderOrNone reason = (reason ≡ Folder) ⊎ (reason ≡ Unknown)

-- The reason fits the fault: of what was not opened why it was not, of what was not read whether it is a folder, and else none.
abbrev pub Explains : InputFault → Reason → Type 0
Explains (input.Open f) reason = reason ≢ Folder
Explains (input.Text text.Read) reason = IsFolderOrNone reason
Explains (input.Keys keys.Read) reason = IsFolderOrNone reason
Explains f reason = reason ≡ Unknown

-- where the line cannot be looked at again, its number is told
abbrev pub IsOfLine : (line : ℕ) → Found → Type 0
IsOfLine line (found.Once n) = n ≡ line
IsOfLine line other = Unit {0}

-- what stands there is shown of a line alone
abbrev pub MayShow : InputFault → Found → Type 0
MayShow (input.Text (text.NotAKey line)) shown = IsOfLine line shown
MayShow (input.Text (text.OutOfRange line)) shown = IsOfLine line shown
MayShow f shown = shown ≡ found.Nothing

-- this fault of what was read there is told, with a reason that fits, and perhaps what stands there
abbrev pub NamesInput : (path : Option (List ℕ)) → InputFault → Fault → Type 0
NamesInput path f (fault.Input at g reason shown) = (path_of at ≡ path) × (g ≡ f) × Explains f reason × MayShow f shown
NamesInput path f told = ⊥

-- what is told of it: want of memory is no fault of what was read
abbrev pub TellsInput : (path : Option (List ℕ)) → InputFault → Fault → Type 0
TellsInput path (input.Open shelf.Memory) told = told ≡ fault.Program program.Memory
TellsInput path (input.Text text.Memory) told = told ≡ fault.Program program.Memory
TellsInput path (input.Keys keys.Memory) told = told ≡ fault.Program program.Memory
TellsInput path f told = NamesInput path f told

-- ---- lists

abbrev pub TellsList : (path : Option (List ℕ)) → CombinedFault → Fault → Type 0
TellsList path (combined.Shelf f) told = TellsInput path (input.Open f) told
TellsList path (combined.List (of_list.Text f)) told = TellsInput path (input.Text f) told
TellsList path (combined.List (of_list.Keys f)) told = TellsInput path (input.Keys f) told

-- what is told of a command on lists
abbrev pub TellsCommand : (paths : List (List ℕ)) → CommandFault → Fault → Type 0
TellsCommand paths (command.List index f) told = TellsList (slice_get paths index) f told
TellsCommand paths command.Memory told = told ≡ fault.Program program.Memory
TellsCommand paths command.Write told = told ≡ fault.Program program.Write

-- ---- what `select` was asked with

-- this fault is told of the word at this place
abbrev pub NamesWord : (words : List (List ℕ)) → (place : ℕ) → SelectFault → Fault → Type 0
NamesWord words place f (fault.Word word g) = (slice_get words place ≡ Some (string_bytes word)) × (g ≡ f)
NamesWord words place f told = ⊥

-- this fault is told of the text, behind so many bytes of it
abbrev pub MarksText : (text : List ℕ) → (at : ℕ) → SelectFault → Fault → Type 0
MarksText text at f (fault.Expression g marked) = (string_bytes marked.text ≡ text) × (marked.at ≡ at) × (g ≡ f)
MarksText text at f told = ⊥

abbrev pub TellsSelect : (text : List ℕ) → (words : List (List ℕ)) → SelectFault → Fault → Type 0
TellsSelect text words select.Memory told = told ≡ fault.Program program.Memory
TellsSelect text words (select.Expression at f) told = MarksText text at (select.Expression at f) told
TellsSelect text words (select.NoName word) told = NamesWord words word (select.NoName word) told
TellsSelect text words (select.Twice word) told = NamesWord words word (select.Twice word) told
TellsSelect text words (select.Unused word) told = NamesWord words word (select.Unused word) told
