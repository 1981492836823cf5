-- The next step of a machine, as a value.
use Rattle.std.specs.Prelude.{Bool, true, false, Option, Some, None}
use Rattle.rh_helping.specs.declared.looking.Watch.{Watch}
use Rattle.rh_helping.specs.declared.looking.Watch.TheVariants as watch
use Rattle.rh_helping.specs.declared.looking.Sight.{Sight}
use Rattle.rh_helping.specs.declared.looking.Sight.TheVariants as sight
use Rattle.rh_helping.specs.declared.machine.At.{At}
use Rattle.rh_helping.specs.declared.machine.At.TheVariants as stage
use Rattle.rh_helping.specs.declared.machine.Machine.{Machine}
use Rattle.rh_helping.specs.declared.machine.Progress.{Progress}
use Rattle.rh_helping.specs.declared.machine.Progress.TheVariants as progress
use Rattle.rh_helping.specs.declared.settling.Settling.{Settling}
use Rattle.rh_helping.specs.declared.settling.SettlingAt.{SettlingAt}
use Rattle.rh_helping.specs.declared.settling.SettlingAt.TheVariants as at
use Rattle.rh_helping.specs.Goal.{owed_of}
use Rattle.rh_helping.specs.Next.{Goal, Looked, Looking, StageOutcome, PlacedMark, Settles, Work}
use Rattle.rh_helping.specs.Next.{Looked as seen}
use Rattle.rh_helping.specs.Next.{Looking as looking}
use Rattle.rh_helping.specs.Next.{StageOutcome as outcome}
use Rattle.rh_helping.specs.Next.{Settles as settles}
use Rattle.rh_helping.specs.Next.{Work as work}

-- ---- with a mark that was met in a cell

abbrev pub settling_at : SettlingAt → Settling → Settles
settling_at at.Desc m = settles.Desc m.mark m.piece.cell
settling_at at.Entry m = settles.Entry m.mark m.piece.cell m.named
settling_at at.Serial m = settles.Serial m.mark m.piece.cell m.named m.piece.entry
settling_at at.Control m = settles.Control m.mark m.piece
settling_at at.Old m = settles.Old m.mark m.piece
settling_at at.OldSerial m = settles.OldSerial m.mark m.piece m.value
settling_at at.Promote m = settles.Settle m.mark m.piece None
settling_at at.Demote m = settles.Settle m.mark m.piece (Some m.value)

abbrev pub settling_of : Settling → Settles
settling_of m = settling_at m.at m

-- what its step leads to, if it leads on
abbrev pub left_on : Bool → Settling → Option Settles
left_on true m = Some (settling_of m)
left_on false m = None

-- ---- with a descriptor

abbrev pub goal_of : Machine → Goal
goal_of m = record { task = m.task; cell = m.change.cell; old = m.change.old; new = m.change.new }

abbrev pub placed_of : Machine → PlacedMark
placed_of m = record { goal = goal_of m; mark = m.mark }

abbrev pub work_at : At → Machine → Work
work_at stage.Control m = work.Control m.task.desc
work_at stage.Length m = work.Length m.task.desc m.task.state
work_at stage.LengthSerial m = work.LengthSerial m.task.desc m.task.state m.task.size
work_at stage.EntryCell m = work.EntryCell m.task
work_at stage.EntryOld m = work.EntryOld m.task m.change.cell
work_at stage.EntryNew m = work.EntryNew m.task m.change.cell m.change.old
work_at stage.EntrySerial m = work.EntrySerial (goal_of m)
work_at stage.MarkSerial m = work.MarkSerial (goal_of m)
work_at stage.MarkDesc m = work.MarkDesc (goal_of m)
work_at stage.MarkEntry m = work.MarkEntry (goal_of m)
work_at stage.Place m = work.Place (goal_of m)
work_at stage.Settle m = work.Settle (settling_of m.settling) (goal_of m)
work_at stage.MarkControl m = work.MarkControl (placed_of m)
work_at stage.Promote m = work.Promote (placed_of m)
work_at stage.Demote m = work.Demote (placed_of m) m.decided
work_at stage.Recheck m = work.Recheck (goal_of m) m.promoted
work_at stage.WriteReason m = work.WriteReason m.task
work_at stage.Fail m = work.Fail m.task
work_at stage.Succeed m = work.Succeed m.task
work_at stage.Withdraw m = work.Withdraw m.task.desc
work_at stage.ReadReason m = work.ReadReason m.task m.decider
work_at stage.Release m = work.Release (goal_of m)
work_at stage.GiveBack m = work.GiveBack (owed_of (goal_of m))

abbrev pub work_of : Machine → Work
work_of m = work_at m.at m

-- what its step leads to
abbrev pub led : Progress → Machine → StageOutcome
led progress.On m = outcome.On (work_of m)
led progress.Over m = outcome.Over
led (progress.Closed k) m = outcome.Closed k
led progress.Spent m = outcome.Spent

-- ---- with a cell that it looks at

abbrev pub looking_of : Watch → Machine → Looking
looking_of watch.Read m = looking.Read
looking_of watch.Settle m = looking.Settle (settling_of m.settling)
looking_of watch.Help m = looking.Help (work_of m)

abbrev pub looked : Sight → Machine → Looked
looked (sight.On l) m = seen.On (looking_of l m)
looked (sight.Sees word) m = seen.Sees word
looked sight.Spent m = seen.Spent
