-- The writer in an outlet.
use Rattle.std.specs.Prelude.{Option}
use Rattle.std.specs.declared.io.ErrorKind.{ErrorKind}
use Rattle.rh_cli.specs.declared.outlet.Outlet.{Outlet}

abbrev pub inside : {W : Type 0} → Outlet W → W
inside o = o.inner

-- what the system said of its last failure
abbrev pub last_failure : {W : Type 0} → Outlet W → Option ErrorKind
last_failure o = o.last_failure
