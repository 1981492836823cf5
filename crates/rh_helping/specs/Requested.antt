-- The step that a worker asks for, by what it goes about; and what is so once it is made, before the worker goes on from the
-- word that it found.
use Rattle.std.specs.Prelude.{◌≡◌, ℕ, Option, Some, None}
use Rattle.rh_tagword.specs.Control.{IsState}
use Rattle.rh_tagword.specs.declared.control.State.{State}
use Rattle.rh_world.specs.World.Control.{failed, succeeded, withdrawn}
use Rattle.rh_words.specs.declared.shape.Shape.{Shape}
use Rattle.rh_words.specs.declared.shape.Part.TheVariants as part
use Rattle.rh_words.specs.declared.reference.Reading.TheVariants as reading
use Rattle.rh_words.specs.View.{OwnDesc, View}
use Rattle.rh_words.specs.Words.{control_of, desc_number, ref_of}
use Rattle.rh_words.specs.Steps.{Step, decided_word, noted}
use Rattle.rh_rule.specs.Sound.{Finds}
use Rattle.rh_carrier.specs.Relies.{Knows, Trusts}
use Rattle.rh_helping.specs.declared.goal.Task.{Task}
use Rattle.rh_carrier.specs.Own.{KnowsOwn, OwesNothing}
use Rattle.rh_helping.specs.Goal.{KnowsTask, released_value}
use Rattle.rh_helping.specs.Next.{Settles, Work}
use Rattle.rh_helping.specs.Next.{Settles as settles}
use Rattle.rh_helping.specs.Next.{Work as work}
use Rattle.rh_helping.specs.Settling.{IsSettling}
use Rattle.rh_helping.specs.Work.{IsOver, Stands}

abbrev pub asked_of_mark : Settles → Step
asked_of_mark (settles.Desc x c) = Step.reads (reading.MarkDesc x)
asked_of_mark (settles.Entry x c u) = Step.reads (reading.MarkEntry x)
asked_of_mark (settles.Serial x c u e) = Step.reads (reading.MarkSerial x)
asked_of_mark (settles.Control x p) = Step.reads (reading.MarkControl x p.cell p.desc)
asked_of_mark (settles.Old x p) = Step.reads (reading.EntryOld p.desc p.entry)
asked_of_mark (settles.OldSerial x p old) = Step.reads (reading.Serial p.desc)
asked_of_mark (settles.Settle x p old) = Step.settles (ref_of x) p.cell (ref_of p.desc) p.entry old

abbrev pub requested : View → Work → Step
requested v (work.Control d) = Step.reads (reading.Control d)
requested v (work.Length d k) = Step.reads (reading.Length d)
requested v (work.LengthSerial d k n) = Step.reads (reading.Serial d)
requested v (work.EntryCell t) = Step.reads (reading.EntryCell t.desc t.entry)
requested v (work.EntryOld t c) = Step.reads (reading.EntryOld t.desc t.entry)
requested v (work.EntryNew t c o) = Step.reads (reading.EntryNew t.desc t.entry)
requested v (work.EntrySerial g) = Step.reads (reading.Serial g.task.desc)
requested v (work.MarkSerial g) = Step.writes (part.MarkSerial v.worker) v.marks_used
requested v (work.MarkDesc g) = Step.writes (part.MarkDesc v.worker) (desc_number (ref_of g.task.desc))
requested v (work.MarkEntry g) = Step.writes (part.MarkEntry v.worker) g.task.entry
requested v (work.Place g) = Step.places (ref_of g.task.desc) g.task.entry g.cell g.old
requested v (work.Settle s g) = asked_of_mark s
requested v (work.MarkControl p) = Step.reads (reading.MarkControl p.mark p.goal.cell p.goal.task.desc)
requested v (work.Promote p) = Step.settles (ref_of p.mark) p.goal.cell (ref_of p.goal.task.desc) p.goal.task.entry None
requested v (work.Demote p k) = Step.settles (ref_of p.mark) p.goal.cell (ref_of p.goal.task.desc) p.goal.task.entry (Some p.goal.old)
requested v (work.Recheck g promoted) = Step.reads (reading.Control g.task.desc)
requested v (work.WriteReason t) = Step.writes (part.Reason v.worker t.desc.worker) t.entry
requested v (work.Fail t) = Step.decides (ref_of t.desc) (failed 0 v.worker)
requested v (work.Succeed t) = Step.decides (ref_of t.desc) succeeded
requested v (work.Withdraw d) = Step.decides (ref_of d) withdrawn
requested v (work.ReadReason t by) = Step.reads (reading.Reason t.desc by)
requested v (work.Release g) =
    Step.releases (ref_of g.task.desc) g.task.entry g.cell (Some (control_of g.task.state)) (released_value g.task.state g.old g.new)
requested v (work.GiveBack o) = Step.releases (ref_of o.piece.desc) o.piece.entry o.piece.cell None o.old

-- ---- the view after it

-- of a worker of whom v was kept, that made a step with a mark
pub record SettledFrom (z : Shape) (v : View) (s : Settles) (word : ℕ) (next : View) : Type 0 where
  pub settling : IsSettling v s
  pub finds : Finds z v (asked_of_mark s) word
  pub view_is : next ≡ noted z v (asked_of_mark s) word

abbrev pub FollowsSettling : Settles → (word : ℕ) → Type 0
FollowsSettling s word = (z : Shape) × ((v : View) × ((next : View) × SettledFrom z v s word next))

-- of a worker that went about a descriptor, and is so of the words too
pub record Follows {T : Type 0} (shows : Shape → T → View → Type 0) (z : Shape) (opens : Option OwnDesc) (w : Work) (word : ℕ) (t : T) (next : View) : Type 0 where
  pub trusts : Trusts shows z t next
  pub before : View
  pub knows : Knows z before
  pub own : KnowsOwn before opens
  pub stands : Stands z before w
  pub finds : Finds z before (requested before w) word
  pub view_is : next ≡ noted z before (requested before w) word

-- of one that decided it: this control was left by it
pub record FollowsDecide (z : Shape) (opens : Option OwnDesc) (t : Task) (control : ℕ) (next : View) : Type 0 where
  pub before : View
  pub knows : Knows z before
  pub own : KnowsOwn before opens
  pub task : KnowsTask before t
  pub owes : OwesNothing before
  pub state : State
  pub over : IsOver state
  pub fits : IsState state
  pub word : ℕ
  pub finds : Finds z before (Step.decides (ref_of t.desc) (control_of state)) word
  pub view_is : next ≡ noted z before (Step.decides (ref_of t.desc) (control_of state)) word
  pub control_is : control ≡ decided_word (ref_of t.desc) (control_of state) word
