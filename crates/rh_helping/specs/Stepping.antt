-- What is so before and after a step, and before and after a worker goes on from the word that a step found.
use Rattle.std.specs.Prelude.{◌≡◌, ℕ, ◌<◌, Option}
use Rattle.rh_words.specs.declared.shape.Shape.{Shape}
use Rattle.rh_words.specs.Parts.{cell_count}
use Rattle.rh_words.specs.View.{OwnDesc, View}
use Rattle.rh_words.specs.Steps.{Step}
use Rattle.rh_carrier.specs.Own.{KnowsOwn}
use Rattle.rh_carrier.specs.Relies.{Relies, Trusts}
use Rattle.rh_helping.specs.Looking.{IsLooking, LooksOn, MayLookOn, kind_of_looking, reads_after}
use Rattle.rh_helping.specs.Made.{HasMadeStep, HasStepped}
use Rattle.rh_helping.specs.Next.{Looked, Looking, StageOutcome, Work}
use Rattle.rh_helping.specs.Work.{Leads, MayEnd, Stands, kind_of_work}

-- A worker of whom this own descriptor is open, or none, may make this step of its work.
pub record MayGoOn {T : Type 0} (shows serves : Shape → T → View → Type 0) (z : Shape) (opens : Option OwnDesc) (w : Work) (t : T) (v : View) : Type 0 where
  pub relies : Relies shows serves z t v
  pub own : KnowsOwn v opens
  pub stands : Stands z v w

-- The step was made and led to this; it ended the work only where it may.
pub record HasGoneOn {T : Type 0} (shows : Shape → T → View → Type 0) (makes : Shape → Step → T → View → ℕ → T → View → Type 0) (z : Shape) (opens : Option OwnDesc) (w : Work) (t : T) (v : View) (o : StageOutcome) (then : T) (next : View) : Type 0 where
  pub made : HasMadeStep shows makes z (kind_of_work w) t v then next
  pub leads : Leads z next opens o
  pub ends : MayEnd next w o

-- Between two steps: what is kept of the worker is so of the words too, and it knows its own descriptors.
pub record IsBetween {T : Type 0} (shows : Shape → T → View → Type 0) (z : Shape) (opens : Option OwnDesc) (t : T) (v : View) : Type 0 where
  pub trusts : Trusts shows z t v
  pub own : KnowsOwn v opens

-- The worker comes to this without another step, and ends the work only where it may.
pub record ComesTo {T : Type 0} (z : Shape) (opens : Option OwnDesc) (w : Work) (t : T) (v : View) (o : StageOutcome) (then : T) : Type 0 where
  pub same : then ≡ t
  pub leads : Leads z v opens o
  pub ends : MayEnd v w o

-- A worker may make this step of a look at cell c.
pub record MayLook {T : Type 0} (shows serves : Shape → T → View → Type 0) (z : Shape) (c : ℕ) (l : Looking) (t : T) (v : View) : Type 0 where
  pub relies : Relies shows serves z t v
  pub cell : c < cell_count z
  pub looking : IsLooking z v l

-- The step was made and led to this: a plain word that was seen is kept as read, and the cell is read anew only where it may be.
pub record HasLooked {T : Type 0} (shows : Shape → T → View → Type 0) (makes : Shape → Step → T → View → ℕ → T → View → Type 0) (z : Shape) (c : ℕ) (l : Looking) (t : T) (v : View) (r : Looked) (then : T) (next : View) : Type 0 where
  pub made : HasStepped shows makes z (kind_of_looking l) v.opened (reads_after v c r) t v then next
  pub leads : LooksOn z next r
  pub ends : MayLookOn v next l r
