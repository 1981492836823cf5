-- Why the system did not open, read or write a file.
use Rattle.std.specs.Prelude.{Option, Some, None}
use Rattle.std.specs.declared.io.ErrorKind.{ErrorKind}
use Rattle.std.specs.declared.io.ErrorKind.TheVariants.{NotFound, PermissionDenied, StorageFull}
use Rattle.rh_cli.specs.declared.reason.Reason.{Reason}
use Rattle.rh_cli.specs.declared.reason.Reason.TheVariants.{NoFile, NoRight, NoSpace}

-- why a file was not opened or written, of which the system says this
abbrev pub reason_of : ErrorKind → Option Reason
reason_of NotFound = Some NoFile
reason_of PermissionDenied = Some NoRight
reason_of StorageFull = Some NoSpace
reason_of kind = None
