-- What is so of a worker between two of its steps.
use Rattle.std.specs.Prelude.{◌≡◌, ℕ, ◌<◌, ◌≤◌, ◌⊎◌, Option, Some, None, Bool, List, length, take, slice_index}
use Rattle.std.specs.List.{Contains}
use Rattle.rh_layout.specs.Round.{cell_ahead}
use Rattle.rh_layout.specs.Key.{IsKey}
use Rattle.rh_layout.specs.Order.{home_of}
use Rattle.rh_ledger.specs.declared.tally.Kind.{Kind}
use Rattle.rh_world.specs.World.{In}
use Rattle.rh_world.specs.World.Control.{withdrawn}
use Rattle.rh_world.specs.Facts.Fact.{decided}
use Rattle.rh_acts.specs.Done.{kept}
use Rattle.rh_layout.specs.declared.entry.Entry.{Entry}
use Rattle.rh_words.specs.declared.shape.Shape.{Shape}
use Rattle.rh_words.specs.declared.steps.StepKind.{StepKind}
use Rattle.rh_words.specs.declared.steps.StepKind.TheVariants as kind
use Rattle.rh_words.specs.Parts.{cell_count}
use Rattle.rh_words.specs.View.{OwnDesc, View, own_ref}
use Rattle.rh_carrier.specs.Own.{IsClear, KnowsOwn, Owns, OwesNothing}
use Rattle.rh_helping.specs.Looking.{IsLooking, kind_of_looking}
use Rattle.rh_helping.specs.Opening.{IsOpening, kind_of_opening}
use Rattle.rh_helping.specs.Work.{Stands, kind_of_work}
use Rattle.rh_helping.specs.Machine.{looking_of, work_of}
use Rattle.rh_helping.specs.declared.machine.Machine.{Machine}
use Rattle.rh_order.specs.History.{kept_of}
use Rattle.rh_order.specs.OwnActs.{Closes}
use Rattle.rh_worker.specs.Deciding.{IsPlan}
use Rattle.rh_worker.specs.ScanBuffer.{HasRoom}
use Rattle.rh_worker.specs.declared.stage.Plan.{Plan}
use Rattle.rh_worker.specs.declared.stage.KeyStage.{KeyStage}
use Rattle.rh_worker.specs.declared.stage.KeyStage.TheVariants as stage
use Rattle.rh_worker.specs.declared.scan_buffer.ScanBuffer.{ScanBuffer}
use Rattle.rh_worker.specs.declared.worker.Worker.{Worker}

-- A worker alone inserts key 9 into an empty table of 3 bits in 17 steps: a Read of cell 4, five Writes of its row, an Open, a
-- Read of its control, three Writes of the mark row, a Place, a Read, a Settle, a Read, a Decide, a Release.
abbrev pub kind_of_stage : Machine → KeyStage → StepKind
kind_of_stage m stage.Idle = kind.Read
kind_of_stage m stage.Spent = kind.Read
kind_of_stage m (stage.Scan l n) = kind_of_looking (looking_of l m)
kind_of_stage m (stage.Open o p) = kind_of_opening o
kind_of_stage m (stage.Swap n p) = kind_of_work (work_of m)

-- a step is left
abbrev pub IsBusy : KeyStage → Type 0
IsBusy stage.Idle = ⊥
IsBusy stage.Spent = ⊥
IsBusy (stage.Scan l n) = Unit {0}
IsBusy (stage.Open o p) = Unit {0}
IsBusy (stage.Swap n p) = Unit {0}

-- a worker is idle exactly where the key was done
abbrev pub EndsAt : (done : Option Bool) → KeyStage → Type 0
EndsAt None p = p ≡ stage.Idle → ⊥
EndsAt (Some answer) p = p ≡ stage.Idle

-- each was read of its cell, from the key's home on
abbrev pub WereRead : Shape → View → (k : ℕ) → (seen : List ℕ) → Type 0
WereRead z v k seen = (p : ℕ) → p < length seen → Contains (kept_of z v) (kept (cell_ahead (cell_count z) (home_of z.bits k) p) (slice_index seen p))

-- the first n cells from the key's home on were read, and there is a next one
pub record HasSeenCells (z : Shape) (v : View) (k : ℕ) (s : ScanBuffer) (n : ℕ) : Type 0 where
  pub within : n < cell_count z
  pub seen : n ≤ length s.seen.items
  pub were_read : WereRead z v k (take n s.seen.items)

-- ---- an own descriptor that is to be opened: its row may be of it by now

pub record IsPlanned (z : Shape) (v : View) (kind : Kind) (k : ℕ) (s : ScanBuffer) (p : Plan) : Type 0 where
  pub owns : Owns v None
  pub owes : OwesNothing v
  pub plan : IsPlan kind z.bits k s.entries.items p
  pub room : v.next_number < z.rooms.descriptors

-- its entries
abbrev pub planned : ScanBuffer → Plan → List Entry
planned s p = take p.entries s.entries.items

-- ---- an own descriptor that is open, or was

-- the planned one, opened with this number
abbrev pub opened_as : (number : ℕ) → ScanBuffer → Plan → OwnDesc
opened_as number s p = record { number = number; entries = planned s p }

-- the own descriptor that was open was closed, and the worker had withdrawn it
pub record GivesUp (v next : View) : Type 0 where
  pub own : OwnDesc
  pub closes : Closes v next own
  pub before : In (decided (own_ref v own.number) withdrawn) v.side.facts

-- why no step is left: no mark is left in this round, or no number for a descriptor
abbrev pub HasNoRoom : Shape → View → Type 0
HasNoRoom z v = (z.rooms.marks ≤ v.marks_used) ⊎ (z.rooms.descriptors ≤ v.next_number)

-- ---- at each stage

abbrev pub Stays : Shape → View → Kind → (k : ℕ) → ScanBuffer → Machine → KeyStage → Type 0
Stays z v kind k s m stage.Idle = IsClear v
Stays z v kind k s m stage.Spent = IsClear v × HasNoRoom z v
Stays z v kind k s m (stage.Scan l n) = IsLooking z v (looking_of l m) × HasSeenCells z v k s n
Stays z v kind k s m (stage.Open o p) = IsPlanned z v kind k s p × IsOpening v (planned s p) o
Stays z v kind k s m (stage.Swap n p) = KnowsOwn v (Some (opened_as n s p)) × Stands z v (work_of m) × IsPlan kind z.bits k s.entries.items p

-- what is so of a worker at a stage
pub record IsAtStage (z : Shape) (w : Worker) (p : KeyStage) : Type 0 where
  pub key : IsKey w.key
  pub room : HasRoom z.bits w.buffer
  pub stays : Stays z w.side.known.view w.kind w.key w.buffer w.machine p

abbrev pub IsWorker : Shape → Worker → Type 0
IsWorker z w = IsAtStage z w w.stage

-- it is at the same key, and does the same with it
pub record KeepsKey (w next : Worker) : Type 0 where
  pub kind : next.kind ≡ w.kind
  pub key : next.key ≡ w.key
