-- Where a new file may be put.
use Rattle.std.specs.Prelude.{◌≡◌, Result, Ok, Err}
use Rattle.std.specs.Fs.{IsFile, file_type}
use Rattle.std.specs.IoError.{error_kind}
use Rattle.std.specs.declared.fs.attrs.Metadata.{Metadata}
use Rattle.std.specs.declared.io.ErrorKind.TheVariants.{NotFound}
use Rattle.std.specs.declared.io.Error.{Error}

-- where the system, which follows links, finds a plain file or nothing
abbrev pub IsFree : Result Metadata Error → Type 0
IsFree (Ok metadata) = IsFile (file_type metadata)
IsFree (Err error) = error_kind error ≡ NotFound
