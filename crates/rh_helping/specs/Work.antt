-- What is so at each next step of a worker on a descriptor, and what a step leads to.
use Rattle.std.specs.Prelude.{◌≡◌, ℕ, ◌+◌, ◌<◌, ◌≤◌, ◌⊎◌, Option, Some, None, Bool, true, [], ◌∷◌, length}
use Rattle.rh_tagword.specs.declared.control.State.{State}
use Rattle.rh_tagword.specs.declared.control.State.TheVariants.{Unused, Undecided, Succeeded, Withdrawn, Failed}
use Rattle.rh_world.specs.World.{Ref, In}
use Rattle.rh_world.specs.World.Control.{failed, succeeded, withdrawn}
use Rattle.rh_world.specs.Facts.Fact.{installed, mismatch, decided, failed_at, found, desc_is, which_is, may_promote, may_demote, stale}
use Rattle.rh_words.specs.declared.reference.Ref.{Ref as Reference}
use Rattle.rh_words.specs.declared.shape.Shape.{Shape}
use Rattle.rh_words.specs.declared.steps.StepKind.{StepKind}
use Rattle.rh_words.specs.declared.steps.StepKind.TheVariants as kind
use Rattle.rh_words.specs.Parts.{mark_row, reason_row}
use Rattle.rh_words.specs.View.{OwnDesc, View, own_ref}
use Rattle.rh_words.specs.View.RowWord.{cell_word, length_word, new_word, old_word}
use Rattle.rh_words.specs.Words.{desc_number, ref_of}
use Rattle.rh_words.specs.Steps.{HasSerial, IsKnown, row_word}
use Rattle.rh_helping.specs.declared.goal.Task.{Task}
use Rattle.rh_helping.specs.Next.{Goal, StageOutcome, PlacedMark, Work}
use Rattle.rh_helping.specs.declared.goal.Owed.{Owed}
use Rattle.rh_helping.specs.Next.{Work as work}
use Rattle.rh_helping.specs.Next.StageOutcome.{On, Over, Closed, Spent}
use Rattle.rh_helping.specs.declared.machine.Ended.{Ended}
use Rattle.rh_helping.specs.declared.machine.Ended.TheVariants as ended
use Rattle.rh_carrier.specs.Own.{IsNewestOwn, KnowsOwn, OwesNothing}
use Rattle.rh_helping.specs.Goal.{GivesBack, IsStale, HasReadRow, HasReason, IsForeign, IsMet, KnowsGoal, KnowsTask, Releases, debt_of, owed_of}
use Rattle.rh_helping.specs.Settling.{IsSettling, kind_of_settling}

abbrev pub kind_of_work : Work → StepKind
kind_of_work (work.Control d) = kind.Read
kind_of_work (work.Length d k) = kind.Read
kind_of_work (work.LengthSerial d k n) = kind.Read
kind_of_work (work.EntryCell t) = kind.Read
kind_of_work (work.EntryOld t c) = kind.Read
kind_of_work (work.EntryNew t c o) = kind.Read
kind_of_work (work.EntrySerial g) = kind.Read
kind_of_work (work.MarkSerial g) = kind.Write
kind_of_work (work.MarkDesc g) = kind.Write
kind_of_work (work.MarkEntry g) = kind.Write
kind_of_work (work.Place g) = kind.Place
kind_of_work (work.Settle s g) = kind_of_settling s
kind_of_work (work.MarkControl p) = kind.Read
kind_of_work (work.Promote p) = kind.Settle
kind_of_work (work.Demote p k) = kind.Settle
kind_of_work (work.Recheck g promoted) = kind.Read
kind_of_work (work.WriteReason t) = kind.Write
kind_of_work (work.Fail t) = kind.Decide
kind_of_work (work.Succeed t) = kind.Decide
kind_of_work (work.Withdraw d) = kind.Decide
kind_of_work (work.ReadReason t by) = kind.Read
kind_of_work (work.Release g) = kind.Release
kind_of_work (work.GiveBack o) = kind.Release

-- ---- what is so before the step

-- what is owed: of a descriptor that is undecided nothing yet, of a decided one what is to be released
abbrev pub OwesAs : View → Task → State → Type 0
OwesAs v t Unused = OwesNothing v
OwesAs v t Undecided = OwesNothing v
OwesAs v t Succeeded = Releases v t
OwesAs v t Withdrawn = Releases v t
OwesAs v t (Failed by) = Releases v t

abbrev pub Owes : View → Task → Type 0
Owes v t = OwesAs v t t.state

abbrev pub IsOver : State → Type 0
IsOver Unused = ⊥
IsOver Undecided = ⊥
IsOver Succeeded = Unit {0}
IsOver Withdrawn = Unit {0}
IsOver (Failed by) = Unit {0}

-- a task with an entry left, undecided or decided
pub record IsAt (v : View) (t : Task) : Type 0 where
  pub task : KnowsTask v t
  pub left : t.entry < t.size
  pub owes : Owes v t
  pub reason : HasReason v t

-- the same, or all entries of an undecided one are installed
pub record IsNextTask (v : View) (t : Task) : Type 0 where
  pub task : KnowsTask v t
  pub left : (t.entry < t.size) ⊎ (t.state ≡ Undecided)
  pub owes : Owes v t
  pub reason : HasReason v t

-- a task that is begun: none of its entries is installed or released yet
pub record Begins (v : View) (t : Task) : Type 0 where
  pub task : KnowsTask v t
  pub first : t.entry ≡ 0
  pub owes : Owes v t

-- who decided that a descriptor failed, if it did
abbrev pub failed_by : State → Option ℕ
failed_by Unused = None
failed_by Undecided = None
failed_by Succeeded = None
failed_by Withdrawn = None
failed_by (Failed by) = Some by

-- it is the own open descriptor, and it failed by this decider
pub record HasFailedOwn (v : View) (t : Task) (by : ℕ) : Type 0 where
  pub failed : t.state ≡ Failed by
  pub own : t.desc.worker ≡ v.worker
  pub opened : v.side.current ≡ Some t.desc.number

-- a goal for which the next own mark can be placed
pub record CanTry (z : Shape) (v : View) (g : Goal) : Type 0 where
  pub goal : KnowsGoal v g
  pub undecided : g.task.state ≡ Undecided
  pub owes : OwesNothing v
  pub mark : v.marks_used < z.rooms.marks

-- the mark row, which is of the next own mark, names the goal's descriptor
pub record NamesDesc (z : Shape) (v : View) (g : Goal) : Type 0 where
  pub serial : HasSerial z v
  pub desc : row_word v.written (mark_row z 1) ≡ desc_number (ref_of g.task.desc)

-- and its entry
pub record NamesEntry (z : Shape) (v : View) (g : Goal) : Type 0 where
  pub named : NamesDesc z v g
  pub entry : row_word v.written (mark_row z 2) ≡ g.task.entry

-- the own mark is placed for the goal, whose descriptor was undecided then, and not settled yet
pub record IsMarkPlaced (v : View) (p : PlacedMark) : Type 0 where
  pub goal : KnowsGoal v p.goal
  pub undecided : p.goal.task.state ≡ Undecided
  pub own : p.mark.worker ≡ v.worker
  pub unsettled : v.side.unsettled ≡ Some p.mark.number
  pub paid : v.side.debts ≡ []
  pub unreleased : v.side.released ≡ []
  pub met : In (found (ref_of p.mark) p.goal.cell) v.side.facts
  pub of_desc : In (desc_is (ref_of p.mark) (ref_of p.goal.task.desc)) v.side.facts
  pub of_entry : In (which_is (ref_of p.mark) p.goal.task.entry) v.side.facts

-- the mark was swapped to its descriptor, or another worker settled it: the cell is owed
pub record IsSwapped (v : View) (g : Goal) (promoted : Bool) : Type 0 where
  pub goal : KnowsGoal v g
  pub undecided : g.task.state ≡ Undecided
  pub settled : v.side.unsettled ≡ None
  pub owes : v.side.debts ≡ debt_of (owed_of g) ∷ []
  pub unreleased : v.side.released ≡ []
  pub holds : promoted ≡ true → In (installed (ref_of g.task.desc) g.task.entry) v.side.facts

-- the descriptor is decided so, or it is stale
abbrev pub IsDecidedOrStale : View → Ref → Option State → Type 0
IsDecidedOrStale v d None = IsStale v d
IsDecidedOrStale v d (Some k) = IsOver k × IsMet v d k 0

-- d is left, as it is stale: nothing is owed, or this cell
abbrev pub IsGivenUp : View → Ref → Option Owed → Type 0
IsGivenUp v d None = OwesNothing v × In (stale d) v.side.facts
IsGivenUp v d (Some o) = GivesBack v o

-- an entry of an undecided task did not hold its old value
pub record Mismatches (v : View) (t : Task) : Type 0 where
  pub at : IsAt v t
  pub undecided : t.state ≡ Undecided
  pub seen : In (mismatch (ref_of t.desc) t.entry 0) v.side.facts

abbrev pub Stands : Shape → View → Work → Type 0
Stands z v (work.Control d) = OwesNothing v × IsKnown v.side.facts (ref_of d)
Stands z v (work.Length d k) = OwesNothing v × IsMet v (ref_of d) k 0 × IsForeign v (ref_of d)
Stands z v (work.LengthSerial d k n) = OwesNothing v × IsMet v (ref_of d) k 0 × IsForeign v (ref_of d) × HasReadRow v (ref_of d) (length_word n)
Stands z v (work.EntryCell t) = IsAt v t × IsForeign v (ref_of t.desc)
Stands z v (work.EntryOld t c) = IsAt v t × IsForeign v (ref_of t.desc) × HasReadRow v (ref_of t.desc) (cell_word t.entry c)
Stands z v (work.EntryNew t c o) = IsAt v t × IsForeign v (ref_of t.desc) × HasReadRow v (ref_of t.desc) (cell_word t.entry c) × HasReadRow v (ref_of t.desc) (old_word t.entry o)
Stands z v (work.EntrySerial g) = IsAt v g.task × IsForeign v (ref_of g.task.desc) × HasReadRow v (ref_of g.task.desc) (cell_word g.task.entry g.cell)
    × HasReadRow v (ref_of g.task.desc) (old_word g.task.entry g.old) × HasReadRow v (ref_of g.task.desc) (new_word g.task.entry g.new)
Stands z v (work.MarkSerial g) = CanTry z v g
Stands z v (work.MarkDesc g) = CanTry z v g × HasSerial z v
Stands z v (work.MarkEntry g) = CanTry z v g × NamesDesc z v g
Stands z v (work.Place g) = CanTry z v g × NamesEntry z v g
Stands z v (work.Settle s g) = CanTry z v g × NamesEntry z v g × IsSettling v s
Stands z v (work.MarkControl p) = IsMarkPlaced v p
Stands z v (work.Promote p) = IsMarkPlaced v p × In (may_promote (ref_of p.mark) p.goal.cell) v.side.facts
Stands z v (work.Demote p k) = IsMarkPlaced v p × IsDecidedOrStale v (ref_of p.goal.task.desc) k × In (may_demote (ref_of p.mark)) v.side.facts
Stands z v (work.Recheck g promoted) = IsSwapped v g promoted
Stands z v (work.WriteReason t) = Mismatches v t
Stands z v (work.Fail t) = Mismatches v t × (row_word v.written (reason_row z t.desc.worker) ≡ t.entry)
Stands z v (work.Succeed t) = KnowsTask v t × (t.entry ≡ t.size) × (t.state ≡ Undecided) × OwesNothing v
Stands z v (work.Withdraw d) = OwesNothing v × (d.worker ≡ v.worker) × (v.side.current ≡ Some d.number) × (z.rooms.marks ≤ v.marks_used)
Stands z v (work.ReadReason t by) = Begins v t × HasFailedOwn v t by
Stands z v (work.Release g) = KnowsGoal v g × IsOver g.task.state × Releases v g.task × HasReason v g.task
Stands z v (work.GiveBack o) = GivesBack v o

-- ---- what it leads to

-- d ended so; where it failed, at which entry is known
abbrev pub HasEnded : View → Ref → Ended → Type 0
HasEnded v d ended.Succeeded = In (decided d succeeded) v.side.facts
HasEnded v d ended.Withdrawn = In (decided d withdrawn) v.side.facts
HasEnded v d (ended.Failed e) = ((by : ℕ) × In (decided d (failed 0 by)) v.side.facts) × In (failed_at d e) v.side.facts

-- where it failed, it was at one of its entries, of which there are so many
abbrev pub FailsWithin : (size : ℕ) → Ended → Type 0
FailsWithin size ended.Succeeded = Unit {0}
FailsWithin size ended.Withdrawn = Unit {0}
FailsWithin size (ended.Failed e) = e < size

-- by its state, and by what its decider's reason says
abbrev pub ended_as : State → Option ℕ → Ended
ended_as Unused e = ended.Withdrawn
ended_as Undecided e = ended.Withdrawn
ended_as Succeeded e = ended.Succeeded
ended_as Withdrawn e = ended.Withdrawn
ended_as (Failed by) None = ended.Withdrawn
ended_as (Failed by) (Some e) = ended.Failed e

-- this own descriptor, which was open, ended so and is released
pub record IsClosed (v : View) (desc : OwnDesc) (k : Ended) : Type 0 where
  pub own : KnowsOwn v None
  pub owes : OwesNothing v
  pub newest : IsNewestOwn v.opened desc
  pub result : HasEnded v (own_ref v desc.number) k
  pub entry : FailsWithin (length desc.entries) k

abbrev pub Leads : Shape → View → (opens : Option OwnDesc) → StageOutcome → Type 0
Leads z v opens (On w) = KnowsOwn v opens × Stands z v w
Leads z v opens Over = KnowsOwn v None × OwesNothing v × (opens ≡ None)
Leads z v opens (Closed k) = (d : OwnDesc) × (opens ≡ Some d) × IsClosed v d k
Leads z v opens Spent = KnowsOwn v None × OwesNothing v × (opens ≡ None) × (z.rooms.marks ≤ v.marks_used)

-- the descriptor that the step is about
abbrev pub desc_of : Work → Reference
desc_of (work.Control d) = d
desc_of (work.Length d k) = d
desc_of (work.LengthSerial d k n) = d
desc_of (work.EntryCell t) = t.desc
desc_of (work.EntryOld t c) = t.desc
desc_of (work.EntryNew t c o) = t.desc
desc_of (work.EntrySerial g) = g.task.desc
desc_of (work.MarkSerial g) = g.task.desc
desc_of (work.MarkDesc g) = g.task.desc
desc_of (work.MarkEntry g) = g.task.desc
desc_of (work.Place g) = g.task.desc
desc_of (work.Settle s g) = g.task.desc
desc_of (work.MarkControl p) = p.goal.task.desc
desc_of (work.Promote p) = p.goal.task.desc
desc_of (work.Demote p k) = p.goal.task.desc
desc_of (work.Recheck g promoted) = g.task.desc
desc_of (work.WriteReason t) = t.desc
desc_of (work.Fail t) = t.desc
desc_of (work.Succeed t) = t.desc
desc_of (work.Withdraw d) = d
desc_of (work.ReadReason t by) = t.desc
desc_of (work.Release g) = g.task.desc
desc_of (work.GiveBack o) = o.piece.desc

-- the step releases the last entry of a descriptor
abbrev pub ReleasesLast : Work → Type 0
ReleasesLast w = (g : Goal) × (w ≡ work.Release g) × (g.task.entry + 1 ≡ g.task.size)

-- Where marks are left, nothing else ends the work, but that the descriptor is stale.
abbrev pub MayEnd : View → Work → StageOutcome → Type 0
MayEnd next w (On on) = Unit {0}
MayEnd next w Over = ReleasesLast w ⊎ In (stale (ref_of (desc_of w))) next.side.facts
MayEnd next w (Closed k) = ReleasesLast w
MayEnd next w Spent = Unit {0}
