-- What a phase makes of the cells.
use Rattle.std.specs.Prelude.{◌≡◌, ◌≢◌, ℕ, ◌+◌, ◌^◌, ◌<◌, ◌≤◌, false, All, List, length, replicate, slice_index}
use Rattle.std.specs.FinSet as set
use Rattle.std.specs.FinSet.{contains}
use Rattle.rh_layout.specs.Layout.{IsLayout, Keys, Layout, keys_of}
use Rattle.rh_ledger.specs.declared.tally.Kind.{Kind}
use Rattle.rh_ledger.specs.declared.tally.Tally.{Tally}
use Rattle.rh_ledger.specs.declared.tally.Kind.TheVariants.{Insert, Remove, Ask}
use Rattle.rh_ledger.specs.Phase.{most_added, set_after, tally_of}
use Rattle.rh_runner.specs.Cells.{AreTheCells}
use Rattle.rh_ledger.specs.Tally.{tally_by}
use Rattle.rh_words.specs.declared.limits.TheConstants.{MAX_ROOM, MAX_WORKERS}
use Rattle.rh_words.specs.declared.shape.Rooms.{Rooms}
use Rattle.rh_words.specs.declared.shape.Shape.{Shape}
use Rattle.rh_threads.specs.Buffer.{HasBufferRoom}
use Rattle.rh_shared.specs.Crews.{views_of}
use Rattle.rh_shared.specs.declared.table.Table.{Table}
use Rattle.rh_threads.specs.Rounds.{AreDone, Comes, Setting, all_changed, at_table, is_marked}
use Rattle.rh_threads.specs.declared.crew.Crew.{Crew}
use Rattle.rh_threads.specs.declared.hand.Hand.{Hand}
use Rattle.rh_threads.specs.declared.phase.Phase.{Phase}

-- so many workers a table may have, and a phase needs
abbrev pub IsWorkers : (workers : ℕ) → Type 0
IsWorkers workers = (0 < workers) × (workers ≤ MAX_WORKERS)

-- the rooms of a worker do for a key at least: it takes a descriptor, with at most one mark for each cell
pub record IsRooms (bits : ℕ) (rooms : Rooms) : Type 0 where
  pub some : 1 ≤ rooms.descriptors
  pub descriptors : rooms.descriptors ≤ MAX_ROOM
  pub enough : 2 ^ bits ≤ rooms.marks
  pub marks : rooms.marks ≤ MAX_ROOM

-- it has done nothing yet, and has room for any key, and marks for so many positions
pub record IsNew (z : Shape) (kind : Kind) (positions : ℕ) (h : Hand) : Type 0 where
  pub no_key : h.has_key ≡ false
  pub kind_is : h.kind ≡ kind
  pub room : HasBufferRoom z.bits h.buffer
  pub to_claim : h.ended ≡ false
  pub none_done : h.done ≡ 0
  pub unchanged : h.changed ≡ 0
  pub unmarked : h.found.items ≡ replicate positions false

-- a hand for each worker
pub record AreNew (z : Shape) (kind : Kind) (positions : ℕ) (hs : List Hand) : Type 0 where
  pub long : length hs ≡ z.workers
  pub each : All (IsNew z kind positions) hs

-- The cells are a layout, and leave one of them free for each key that may be added, and one more.
pub record HasRoomFor (p : Phase) (cells : List ℕ) : Type 0 where
  pub layout : IsLayout p.shape.bits cells
  pub room : set.len (keys_of cells) + most_added p.kind p.keys.now < 2 ^ p.shape.bits

-- how many positions of a list the hands may mark: of those whose keys are looked up
abbrev pub markable : Kind → (many : ℕ) → ℕ
markable Insert many = 0
markable Remove many = 0
markable Ask many = many

-- its setting, where it starts from these cells
abbrev pub opened : Phase → (opening : List ℕ) → Setting
opened p opening = record { kind = p.kind; shape = p.shape; opening = opening; keys = p.keys.now; positions = markable p.kind (length p.keys.now) }

-- the set that the cells held at the start
abbrev pub first_set : Setting → Keys
first_set ph = keys_of ph.opening

-- These values are the layout of the set that is meant. The hands have counted what came of the phase, and marked the positions
-- whose keys were found.
pub record HasWorkedOut (ph : Setting) (values : List ℕ) (hs : List Hand) : Type 0 where
  pub layout : Layout values ph.shape.bits (set_after ph.kind (first_set ph) ph.keys)
  pub few : ph.kind ≢ Ask → all_changed hs < 2 ^ 64
  pub tally : ph.kind ≢ Ask → tally_by ph.kind (length ph.keys) (all_changed hs) ≡ tally_of ph.kind (first_set ph) ph.keys
  pub found : ph.kind ≡ Ask → (p : ℕ) → p < length ph.keys → p < ph.positions → is_marked hs p ≡ contains (first_set ph) (slice_index ph.keys p)

-- The workers of the table have done all keys of the list, in as many rounds as that took, and are at rest.
pub record IsWorkedOut (ph : Setting) (t : Table) (c : Crew) : Type 0 where
  pub shape_is : t.shape ≡ ph.shape
  pub done : AreDone t ph.keys c
  pub open done use *
  pub comes : Comes (at_table t ph.keys ph) (views_of c.seat) c.hands

-- The new cells are the one layout of the old ones' set after the keys, and this is the tally of one worker.
pub record HasChanged (p : Phase) (old new : List ℕ) (total : Tally) : Type 0 where
  pub layout : IsLayout p.shape.bits new
  pub keys_are : keys_of new ≡ set_after p.kind (keys_of old) p.keys.now
  pub cells_are : AreTheCells p.shape.bits (set_after p.kind (keys_of old) p.keys.now) new
  pub tally : total ≡ tally_of p.kind (keys_of old) p.keys.now
