-- How the program ends.
use Rattle.std.specs.Prelude.{◌≡◌, ◌⊎◌, ℕ, Option, Some, None, Result, Ok, Err, if◌then◌else◌, nat_lt}
use Rattle.rh_cli.specs.Endings.{ending_by_program as ending_by_program}
use Rattle.rh_cli.specs.declared.status.ProgramFault.TheVariants as program
use Rattle.rh_cli.specs.declared.status.Status.{Status}
use Rattle.rh_cli.specs.declared.status.Status.TheVariants.{Refused, Memory, Write}
use Rattle.rh_play_text.specs.declared.fault.PlayTextKind.{PlayTextKind}
use Rattle.rh_play_text.specs.declared.fault.PlayTextKind.TheVariants as texts
use Rattle.rh_interleaving.specs.declared.fault.PlayFault.{PlayFault}
use Rattle.rh_interleaving.specs.declared.fault.PlayFault.TheVariants as starts
use Rattle.rh_play_run.specs.declared.fault.PlayRunFault.{PlayRunFault}
use Rattle.rh_play_run.specs.declared.fault.PlayRunFault.TheVariants as plays
use Rattle.rh_play_run.specs.declared.draw_fault.DrawFault.TheVariants as draw
use Rattle.rh_play_run.specs.declared.tell_fault.TellFault.TheVariants as tell
use Rattle.rhplay.specs.declared.status.Fault.{Fault}
use Rattle.rhplay.specs.declared.status.Fault.TheVariants as fault

-- how a run ends whose text is no play
abbrev pub ending_by_text : PlayTextKind → Status
ending_by_text texts.Memory = Memory
ending_by_text kind = Refused

-- how a run ends whose play does not begin
abbrev pub ending_by_start : PlayFault → Status
ending_by_start starts.Memory = Memory
ending_by_start fault = Refused

-- how a run ends whose play was not run, or not told to its end
abbrev pub ending_by_play : PlayRunFault → Status
ending_by_play plays.Read = Refused
ending_by_play (plays.Text fault) = ending_by_text fault.kind
ending_by_play (plays.Start fault) = ending_by_start fault
ending_by_play plays.Memory = Memory
ending_by_play plays.Write = Write

-- how a run ends that a fault ended early
abbrev pub ending_by : Fault → Status
ending_by (fault.Program fault) = ending_by_program fault
ending_by (fault.Play (tell.Play fault)) = ending_by_play fault
ending_by (fault.Play tell.TooLong) = Refused
ending_by (fault.Draw (draw.Play fault)) = ending_by_play fault
ending_by (fault.Draw draw.TooLong) = Refused
ending_by (fault.Draw draw.TooMany) = Refused
ending_by (fault.Draw draw.NoStep) = Refused

-- how the program ends that came to this
abbrev pub ending : Result Status Fault → Status
ending (Ok status) = status
ending (Err fault) = ending_by fault

-- how many steps are drawn, where 0 stands for all
abbrev pub steps_asked : ℕ → Option ℕ
steps_asked steps = if nat_lt 0 steps then Some steps else None

-- the file of the play could not be opened or read
abbrev pub NotesFile : Result Status Fault → Type 0
NotesFile r =
    (r ≡ Err (fault.Program program.Open)) ⊎ (r ≡ Err (fault.Play (tell.Play plays.Read))) ⊎ (r ≡ Err (fault.Draw (draw.Play plays.Read)))

-- its output could not be written
abbrev pub IsUnwritten : Result Status Fault → Type 0
IsUnwritten r =
    (r ≡ Err (fault.Program program.Write)) ⊎ (r ≡ Err (fault.Play (tell.Play plays.Write))) ⊎ (r ≡ Err (fault.Draw (draw.Play plays.Write)))
