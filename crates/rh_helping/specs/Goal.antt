-- What a worker knows of the descriptor that it goes about, and of the entry.
use Rattle.std.specs.Prelude.{zero, suc, ◌≡◌, ℕ, ◌<◌, ◌≤◌, ◌==◌, ◌⊎◌, cond, Option, Some, None, List, [], ◌∷◌}
use Rattle.rh_tagword.specs.declared.control.State.{State}
use Rattle.rh_tagword.specs.declared.control.State.TheVariants.{Unused, Undecided, Succeeded, Withdrawn, Failed}
use Rattle.rh_world.specs.World.{Ref, In}
use Rattle.rh_world.specs.World.Control.{failed}
use Rattle.rh_world.specs.Facts.{Fact}
use Rattle.rh_world.specs.Facts.Fact.{known, size_is, target_is, old_is, new_is, installed, decided, failed_at}
use Rattle.rh_world.specs.Sides.{Debt}
use Rattle.rh_world.specs.Moves.{MayWork}
use Rattle.rh_words.specs.declared.reference.Piece.{Piece}
use Rattle.rh_words.specs.View.{OwnDesc, RowWord, View, own_ref}
use Rattle.rh_words.specs.Words.{control_of, ref_of}
use Rattle.rh_words.specs.Steps.{IsKnown}
use Rattle.rh_helping.specs.declared.goal.Task.{Task}
use Rattle.rh_helping.specs.Next.{Goal}
use Rattle.rh_helping.specs.declared.goal.Owed.{Owed}
use Rattle.rh_helping.specs.declared.goal.OpenDesc.{OpenDesc}

-- ---- of its own descriptor

-- what a worker has of the one that is open
abbrev pub own_of : OpenDesc → OwnDesc
own_of o = record { number = o.number; entries = o.entries.now }

abbrev pub opened_by : Option OpenDesc → Option OwnDesc
opened_by None = None
opened_by (Some o) = Some (own_of o)

-- ---- of the descriptor that it goes about

abbrev pub IsForeign : View → Ref → Type 0
IsForeign v d = d.worker ≡ v.worker → ⊥

-- it is not the own open one
abbrev pub IsOther : View → Ref → Type 0
IsOther v d = d.worker ≡ v.worker → v.side.current ≡ Some d.number → ⊥

-- each descriptor of its owner that this worker is noted to have decided as failed is older
abbrev pub IsAfterFailures : View → Ref → Type 0
IsAfterFailures v d = (f : Ref) → f.worker ≡ d.worker → In (decided f (failed 0 v.worker)) v.side.facts → f.number < d.number

-- undecided, each entry before this one is installed; or it is decided so
abbrev pub StandsAt : List Fact → Ref → State → (entry : ℕ) → Type 0
StandsAt facts d Unused e = ⊥
StandsAt facts d Undecided e = In (known d) facts × ((f : ℕ) → f < e → In (installed d f) facts)
StandsAt facts d Succeeded e = In (decided d (control_of Succeeded)) facts
StandsAt facts d Withdrawn e = In (decided d (control_of Withdrawn)) facts
StandsAt facts d (Failed by) e = In (decided d (control_of (Failed by))) facts

-- it stands so, as far as its entry e; an undecided one may still be failed by this worker, and an own one is the newest
pub record IsMet (v : View) (d : Ref) (k : State) (e : ℕ) : Type 0 where
  pub stands : StandsAt v.side.facts d k e
  pub fresh : k ≡ Undecided → IsAfterFailures v d
  pub last : d.worker ≡ v.worker → suc d.number ≡ v.next_number

pub record KnowsTask (v : View) (t : Task) : Type 0 where
  pub size : In (size_is (ref_of t.desc) t.size) v.side.facts
  pub met : IsMet v (ref_of t.desc) t.state t.entry
  pub within : t.entry ≤ t.size
  pub unowed : t.state ≡ Undecided → t.owed ≡ None

pub record KnowsGoal (v : View) (g : Goal) : Type 0 where
  pub task : KnowsTask v g.task
  pub entry : g.task.entry < g.task.size
  pub cell : In (target_is (ref_of g.task.desc) g.task.entry g.cell) v.side.facts
  pub old : In (old_is (ref_of g.task.desc) g.task.entry g.old) v.side.facts
  pub new : In (new_is (ref_of g.task.desc) g.task.entry g.new) v.side.facts

abbrev pub piece_of : Goal → Piece
piece_of g = record { desc = g.task.desc; entry = g.task.entry; cell = g.cell }

-- this word was read in the row of d, whose serial number was not read since
abbrev pub HasReadRow : View → Ref → RowWord → Type 0
HasReadRow v d u = In (record { desc = d; word = u }) v.raw_rows

-- what the cell of an entry gets from a descriptor that is decided so
abbrev pub released_value : State → (old new : ℕ) → ℕ
released_value Unused old new = old
released_value Undecided old new = old
released_value Succeeded old new = new
released_value Withdrawn old new = old
released_value (Failed by) old new = old

-- ---- what it owes

-- the numbers below this one, the greatest first
abbrev pub below : ℕ → List ℕ
below zero = []
below (suc n) = n ∷ below n

abbrev pub owed_of : Goal → Owed
owed_of g = record { piece = piece_of g; old = g.old }

abbrev pub debt_of : Owed → Debt
debt_of o = record { desc = ref_of o.piece.desc; cell = o.piece.cell }

-- the cell is that of an entry of d from e on, and its old value is known
pub record IsOwed (v : View) (d : Ref) (e size : ℕ) (o : Owed) : Type 0 where
  pub of_desc : ref_of o.piece.desc ≡ d
  pub left : e ≤ o.piece.entry
  pub within : o.piece.entry < size
  pub cell : In (target_is d o.piece.entry o.piece.cell) v.side.facts
  pub old : In (old_is d o.piece.entry o.old) v.side.facts

-- it owes no cell, or this one
abbrev pub OwesOne : View → Ref → (e size : ℕ) → Option Owed → Type 0
OwesOne v d e size None = v.side.debts ≡ []
OwesOne v d e size (Some o) = (v.side.debts ≡ debt_of o ∷ []) × IsOwed v d e size o

-- what is still owed once the entry for this cell is released
abbrev pub owed_after : Option Owed → (cell : ℕ) → Option Owed
owed_after None c = None
owed_after (Some o) c = cond (o.piece.cell == c) None (Some o)

-- d is the own open descriptor, of which the entries before e are released
pub record ReleasesOwn (v : View) (d : Ref) (e : ℕ) : Type 0 where
  pub own : d ≡ own_ref v d.number
  pub open_one : v.side.current ≡ Some d.number
  pub released : v.side.released ≡ below e

-- d is another one, and no entry of the own open descriptor is released
pub record ReleasesOther (v : View) (d : Ref) : Type 0 where
  pub other : IsOther v d
  pub released : v.side.released ≡ []

abbrev pub HasReleased : View → (d : Ref) → (e : ℕ) → Type 0
HasReleased v d e = ReleasesOwn v d e ⊎ ReleasesOther v d

-- while the entries of a task are released
pub record Releases (v : View) (t : Task) : Type 0 where
  pub settled : v.side.unsettled ≡ None
  pub owes : OwesOne v (ref_of t.desc) t.entry t.size t.owed
  pub released : HasReleased v (ref_of t.desc) t.entry

-- of the own open descriptor it is known at which entry it failed
abbrev pub HasReason : View → Task → Type 0
HasReason v t = t.desc.worker ≡ v.worker → v.side.current ≡ Some t.desc.number → (by : ℕ) → t.state ≡ Failed by
    → (e : ℕ) × (t.reason ≡ Some e) × In (failed_at (ref_of t.desc) e) v.side.facts

-- ---- a stale descriptor

-- it is decided, and not the own open one
pub record IsStale (v : View) (d : Ref) : Type 0 where
  pub known : IsKnown v.side.facts d
  pub over : In (Fact.over d) v.side.facts
  pub stale : In (Fact.stale d) v.side.facts
  pub other : IsOther v d

-- the one cell that is owed gets its old value back, should such a descriptor stand there
pub record GivesBack (v : View) (o : Owed) : Type 0 where
  pub gone : IsStale v (ref_of o.piece.desc)
  pub work : MayWork v.side (ref_of o.piece.desc) o.piece.entry
  pub cell : In (target_is (ref_of o.piece.desc) o.piece.entry o.piece.cell) v.side.facts
  pub old : In (old_is (ref_of o.piece.desc) o.piece.entry o.old) v.side.facts
  pub settled : v.side.unsettled ≡ None
  pub owes : v.side.debts ≡ debt_of o ∷ []
  pub unreleased : v.side.released ≡ []
