-- How a worker does one key.
use Rattle.std.specs.Prelude.{suc, ◌≡◌, ℕ, ◌≤◌, ◌⊎◌, Option, None, Some, Bool, List, [], ◌∷◌, ◌++◌, length}
use Rattle.std.specs.List.{Contains}
use Rattle.rh_layout.specs.declared.entry.Entry.{Entry}
use Rattle.rh_ledger.specs.declared.tally.Kind.{Kind}
use Rattle.rh_acts.specs.Act.{Act}
use Rattle.rh_acts.specs.Done.{Does, IsAsRead, Kept}
use Rattle.rh_words.specs.declared.shape.Shape.{Shape}
use Rattle.rh_words.specs.View.{View}
use Rattle.rh_order.specs.History.{kept_of, own_acts_of}
use Rattle.rh_shared.specs.Rests.{SeatRests}
use Rattle.rh_shared.specs.Seats.{view_of}
use Rattle.rh_shared.specs.declared.seat.Seat.{Seat}
use Rattle.rh_shared.specs.declared.table.Table.{Table}
use Rattle.rh_order.specs.Laws.{furthered}
use Rattle.rh_order.specs.Run.{Progress, ProgressInvariant}
use Rattle.rh_worker.specs.Deciding.{IsLeftOpenBy, IsPlan}
use Rattle.rh_worker.specs.Reading.{HasScanned, IsAsReadAnew}
use Rattle.rh_worker.specs.Worker.{HasNoRoom}
use Rattle.rh_threads.specs.declared.key.KeyTask.{KeyTask}
use Rattle.rh_threads.specs.declared.key.Scanned.{Scanned}
use Rattle.rh_threads.specs.declared.key.Scanned.TheVariants as scanned
use Rattle.rh_threads.specs.declared.key.Tried.{Tried}
use Rattle.rh_threads.specs.declared.key.Tried.TheVariants as tried

-- Between the two the own acts of the worker grew by just one, which does the key: it puts it in, takes it out, or shows that
-- it is not there.
pub record IsByOwnAct (z : Shape) (kind : Kind) (k : ℕ) (v next : View) (answer : Bool) : Type 0 where
  pub act : Act
  pub own : own_acts_of next ≡ own_acts_of v ++ act ∷ []
  pub does : Does kind z.bits k answer act

-- They are as before, and the cells that it read since, in turn from the key's home on, tell it.
pub record IsByReading (z : Shape) (kind : Kind) (k : ℕ) (v next : View) (answer : Bool) : Type 0 where
  pub own : own_acts_of next ≡ own_acts_of v
  pub tells : IsAsReadAnew z (kept_of z v) next kind k answer

-- Between the two the worker did the key, with this answer.
abbrev pub KeySpec : Shape → Kind → (k : ℕ) → (v next : View) → (answer : Bool) → Type 0
KeySpec z kind k v next answer = IsByOwnAct z kind k v next answer ⊎ IsByReading z kind k v next answer

-- However far the worker had come with its keys, of which this is one: it has done this one too, where there is an answer.
abbrev pub Furthers : Shape → Kind → (k : ℕ) → (v next : View) → (answer : Option Bool) → Type 0
Furthers z kind k v next answer = (p : Progress) → Contains p.keys k
    → ProgressInvariant z kind (record p { view = v }) → ProgressInvariant z kind (furthered p next k answer)

-- The seat is one worker's, which rests at the table, and what is kept of it says that it did the key, with this answer.
pub record HasDone (t : Table) (s : Seat) (bits : ℕ) (kind : Kind) (k : ℕ) (answer : Bool) : Type 0 where
  pub rests : SeatRests t s
  pub bits_are : t.shape.bits ≡ bits
  pub before : View
  pub so : KeySpec t.shape kind k before (view_of s) answer

-- The worker did not do the key: its own acts are as before, and what it read stands before all that it had read.
pub record IsUndone (z : Shape) (kind : Kind) (k : ℕ) (v next : View) : Type 0 where
  pub own : own_acts_of next ≡ own_acts_of v
  pub since : List Kept
  pub reads : kept_of z next ≡ since ++ kept_of z v
  pub claims : next.side.claims ≡ v.side.claims
  pub opening : next.opening ≡ v.opening
  pub furthers : Furthers z kind k v next None

-- so far it only read, and opened no descriptor
pub record HasOnlyRead (z : Shape) (kind : Kind) (k : ℕ) (v next : View) : Type 0 where
  pub undone : IsUndone z kind k v next
  pub unopened : next.next_number ≡ v.next_number

-- it did the key, as one of those that it has to do
pub record IsDoneSo (z : Shape) (kind : Kind) (k : ℕ) (v next : View) (answer : Bool) : Type 0 where
  pub claims : next.side.claims ≡ v.side.claims
  pub opening : next.opening ≡ v.opening
  pub furthers : Furthers z kind k v next (Some answer)
  pub so : KeySpec z kind k v next answer

-- so many cells were read in turn from the key's home on, and they do not decide
pub record LeavesOpen (z : Shape) (kind : Kind) (k count : ℕ) (v next : View) : Type 0 where
  pub seen : List ℕ
  pub long : length seen ≡ count
  pub read : HasScanned z (kept_of z v) next k seen count
  pub open_by : IsLeftOpenBy kind z.bits k seen []

abbrev pub IsUndoneYet : {R : Type 0} → KeyTask R → (s then : Seat) → Type 0
IsUndoneYet task s then = IsUndone task.table.now.shape task.kind task.key (view_of s) (view_of then)

abbrev pub IsDoneNow : {R : Type 0} → KeyTask R → (s then : Seat) → (answer : Bool) → Type 0
IsDoneNow task s then answer = IsDoneSo task.table.now.shape task.kind task.key (view_of s) (view_of then) answer

-- what a scan leads to, with room for so many cells
abbrev pub LeadsTo : Shape → Kind → (k room : ℕ) → (v next : View) → List Entry → Scanned → Type 0
LeadsTo z kind k room v next entries (scanned.Done answer) = IsAsReadAnew z (kept_of z v) next kind k answer × IsAsRead kind z.bits (kept_of z next) k answer
LeadsTo z kind k room v next entries (scanned.Acts p) = IsPlan kind z.bits k entries p
LeadsTo z kind k room v next entries scanned.Longer = LeavesOpen z kind k room v next
LeadsTo z kind k room v next entries scanned.Spent = z.rooms.marks ≤ next.marks_used

pub record IsScannedSo {R : Type 0} (task : KeyTask R) (room : ℕ) (s then : Seat) (entries : List Entry) (to : Scanned) : Type 0 where
  pub reads : HasOnlyRead task.table.now.shape task.kind task.key (view_of s) (view_of then)
  pub open reads use *
  pub leads : LeadsTo task.table.now.shape task.kind task.key room (view_of s) (view_of then) entries to

-- What came of a try, with room for so many cells. Each that is made again has used up a number of a descriptor.
abbrev pub IsTriedSo : {R : Type 0} → KeyTask R → (room : ℕ) → (s then : Seat) → Tried → Type 0
IsTriedSo task room s then (tried.Done answer) = IsDoneNow task s then answer
IsTriedSo task room s then tried.Again = IsUndoneYet task s then × ((view_of then).next_number ≡ suc (view_of s).next_number)
IsTriedSo task room s then tried.Longer = IsUndoneYet task s then × ((view_of then).next_number ≡ (view_of s).next_number)
    × LeavesOpen task.table.now.shape task.kind task.key room (view_of s) (view_of then)
IsTriedSo task room s then tried.Spent = IsUndoneYet task s then × HasNoRoom task.table.now.shape (view_of then)

-- It is done, with this answer, or too little room is left for it.
abbrev pub IsEndedSo : {R : Type 0} → KeyTask R → (s then : Seat) → Option Bool → Type 0
IsEndedSo task s then (Some answer) = IsDoneNow task s then answer
IsEndedSo task s then None = IsUndoneYet task s then × HasNoRoom task.table.now.shape (view_of then)
