-- Why a file was not opened or read.
use Rattle.std.specs.Prelude.{◌≡◌, Option, Some, None, Result, Ok, Err}
use Rattle.std.specs.Fs.{IsDir, file_type}
use Rattle.std.specs.IoError.{error_kind}
use Rattle.std.specs.declared.fs.attrs.Metadata.{Metadata}
use Rattle.std.specs.declared.io.Error.{Error}
use Rattle.rh_cli.specs.Notes.{reason_of}
use Rattle.rh_cli.specs.declared.reason.Reason.{Reason}
use Rattle.rh_cli.specs.declared.reason.Reason.TheVariants.{Folder}

-- why what the system finds at a path cannot be opened or read: it is a folder, or the system does not find it
abbrev pub Explains : Result Metadata Error → Option Reason → Type 0
Explains (Ok metadata) reason = (IsDir (file_type metadata) → reason ≡ Some Folder) × ((IsDir (file_type metadata) → ⊥) → reason ≡ None)
Explains (Err error) reason = reason ≡ reason_of (error_kind error)
