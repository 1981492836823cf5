-- The kinds of step on the words of a table: when a worker may make one, which word it touches, what becomes of the word,
-- and what the worker notes. Each is one load, store or exchange, compare-and-swap or increment of one word. The swaps are
-- those of Harris, Fraser and Pratt 2002; that each worker places marks of its own, and Claims, are this project's.
use Rattle.std.specs.Prelude.{zero, suc, ◌≡◌, ℕ, ◌+◌, ◌<◌, ◌≤◌, ◌%◌, ◌^◌, ◌==◌, ◌&&◌, ◌||◌, ◌⊎◌, Option, Some, None, Bool, true, false, cond, List, [], ◌∷◌, ◌++◌, length, slice_index, slice_set}
use Rattle.rh_world.specs.World.{Ref, Control, In, is_ref}
use Rattle.rh_world.specs.World.Control.{unused, undecided, succeeded, withdrawn, failed}
use Rattle.rh_world.specs.Facts.{Fact}
use Rattle.rh_world.specs.Facts.Fact.{met, known, size_is, target_is, old_is, new_is, desc_is, which_is, decided, over, stale, failed_at, found, may_promote, may_demote}
use Rattle.rh_world.specs.Sides.{Side, is_number, note_side, open_side, paid_side, claim_side}
use Rattle.rh_world.specs.Moves.{Entries, HasSeen, MayWork, MayDecide, note_entries, cell_noted, control_noted, mark_noted, place_noted, settle_noted, release_noted, note_all}
use Rattle.rh_layout.specs.declared.entry.Entry.{Entry}
use Rattle.rh_words.specs.declared.shape.Shape.{Shape}
use Rattle.rh_words.specs.declared.shape.Part.{Part}
use Rattle.rh_words.specs.declared.shape.Part.TheVariants as part
use Rattle.rh_words.specs.declared.reference.Reading.{Reading}
use Rattle.rh_words.specs.declared.reference.Reading.TheVariants as reading
use Rattle.rh_words.specs.Parts.{cell_count, word_count, entry_row, mark_row, reason_row, index_of}
use Rattle.rh_words.specs.View.{MarkWord, OwnDesc, Raw, RawRow, RowWord, Written, View}
use Rattle.rh_words.specs.View.RowWord.{length_word, cell_word, old_word, new_word}
use Rattle.rh_words.specs.View.MarkWord.{desc_word, entry_word}
use Rattle.rh_words.specs.Words.{IsPlain, mark_number, desc_number, control_word_of, with_entry, serial_in, cell_in, read_control, desc_in, ref_of}

-- Cell 4 of the table beside `index_of`, from empty to key 1, by descriptor 0 of worker 0: the Open takes word 8 from 0 to 1, the
-- Place word 4 from 0 to 1, the Settle that from 1 to 2, the Decide word 8 from 1 to 2, the Release word 4 from 2 to 8. The next
-- Open takes word 8 from 2 to 257.
pub data Step : Type 0 where
  -- Write of a word of an own row
  writes : Part → (word : ℕ) → Step
  -- Open of the next own descriptor, which has so many entries
  opens : (size : ℕ) → Step
  reads : Reading → Step
  -- Place of the next own mark for an entry: the descriptor, the entry, its cell and its old value
  places : Ref → (e c old : ℕ) → Step
  -- Settle of a mark in a cell, which is for this entry: to its descriptor, or to this old value
  settles : (x : Ref) → (c : ℕ) → (d : Ref) → (e : ℕ) → (old : Option ℕ) → Step
  decides : Ref → Control → Step
  -- Release of an entry of a descriptor that is decided so, or that is stale: its cell, and the value that it puts
  -- there
  releases : Ref → (e c : ℕ) → Option Control → (value : ℕ) → Step
  -- Claim of the next index of the list of keys
  claims : Step

-- ---- what a worker knows of its own rows

-- the row word of this number: 0 where it was not written
abbrev pub row_word : List Written → (row : ℕ) → ℕ
row_word [] row = 0
row_word (o ∷ os) row = cond (row == o.row) o.word (row_word os row)

-- the entries that the row words say from this one on
abbrev pub entries_at : List Written → (entry size : ℕ) → List Entry
entries_at rows entry zero = []
entries_at rows entry (suc n) =
    record { cell = row_word rows (entry_row entry 0); old = row_word rows (entry_row entry 1); new = row_word rows (entry_row entry 2) }
    ∷ entries_at rows (suc entry) n

abbrev pub no_entry : Entry
no_entry = record { cell = 0; old = 0; new = 0 }

abbrev pub entry_of : List Entry → (e : ℕ) → Entry
entry_of [] e = no_entry
entry_of (x ∷ xs) zero = x
entry_of (x ∷ xs) (suc e) = entry_of xs e

-- as the world has them
abbrev pub entries_of : List Entry → Entries
entries_of es = record { size = length es; target = λ e. (entry_of es e).cell; old = λ e. (entry_of es e).old; new = λ e. (entry_of es e).new }

abbrev pub next_entries : View → (size : ℕ) → List Entry
next_entries v size = entries_at v.written 0 size

-- how many entries the own descriptor of this number has
abbrev pub size_in : List OwnDesc → (number : ℕ) → ℕ
size_in [] number = 0
size_in (o ∷ os) number = cond (number == o.number) (length o.entries) (size_in os number)

abbrev pub own_desc : View → Ref
own_desc v = record { worker = v.worker; number = v.next_number }

abbrev pub own_mark : View → Ref
own_mark v = record { worker = v.worker; number = v.marks_used }

-- the own descriptor row is of the next own descriptor
abbrev pub HasRow : View → Type 0
HasRow v = row_word v.written 1 ≡ v.next_number

-- the own mark row is of the next own mark
abbrev pub HasSerial : Shape → View → Type 0
HasSerial z v = row_word v.written (mark_row z 0) ≡ v.marks_used

-- ---- when it is allowed

-- The worker knows that an entry of a descriptor of this owner did not hold its old value, and decided no descriptor of the
-- owner as failed that is not older than that one: so no reason to the owner is lost that it is to read.
-- That any own Decide counts, also one to another result, would be stricter, and cost each worker a list of its own Decides.
pub record MayGiveReason (v : View) (owner : ℕ) : Type 0 where
  pub desc : Ref
  pub entry : ℕ
  pub of_owner : desc.worker ≡ owner
  pub mismatch : (n : ℕ) × In (Fact.mismatch desc entry n) v.side.facts
  pub older : (d : Ref) → d.worker ≡ owner → In (decided d (failed 0 v.worker)) v.side.facts → d.number < desc.number

-- This word may be written there: to the descriptor row, while nothing is open, and then the number of the next descriptor
-- before all else; to the mark row, once the mark that it was of is settled, and then the number of the next mark first; or
-- to the reason to an owner.
-- Once a row is of the next one, its words may be written in any order, and again: more than the protocol needs.
abbrev pub IsFree : Shape → View → Part → (word : ℕ) → Type 0
IsFree z v (part.Cell c) u = ⊥
IsFree z v (part.Control worker) u = ⊥
IsFree z v (part.Serial worker) u = (worker ≡ v.worker) × (v.side.current ≡ None) × (u ≡ v.next_number) × (u < z.rooms.descriptors)
IsFree z v (part.Length worker) u = (worker ≡ v.worker) × (v.side.current ≡ None) × HasRow v
IsFree z v (part.EntryCell worker entry) u = (worker ≡ v.worker) × (v.side.current ≡ None) × HasRow v × (entry < cell_count z)
IsFree z v (part.EntryOld worker entry) u = (worker ≡ v.worker) × (v.side.current ≡ None) × HasRow v × (entry < cell_count z)
IsFree z v (part.EntryNew worker entry) u = (worker ≡ v.worker) × (v.side.current ≡ None) × HasRow v × (entry < cell_count z)
IsFree z v (part.MarkSerial worker) u = (worker ≡ v.worker) × (v.side.unsettled ≡ None) × (u ≡ v.marks_used) × (u < z.rooms.marks)
IsFree z v (part.MarkDesc worker) u = (worker ≡ v.worker) × (v.side.unsettled ≡ None) × HasSerial z v
IsFree z v (part.MarkEntry worker) u = (worker ≡ v.worker) × (v.side.unsettled ≡ None) × HasSerial z v
IsFree z v (part.Reason worker owner) u = (worker ≡ v.worker) × (owner < z.workers) × MayGiveReason v owner
IsFree z v part.Counter u = ⊥

-- the table may have this descriptor, or this mark
abbrev pub IsDesc : Shape → Ref → Type 0
IsDesc z d = (d.worker < z.workers) × (d.number < z.rooms.descriptors)

abbrev pub IsMark : Shape → Ref → Type 0
IsMark z x = (x.worker < z.workers) × (x.number < z.rooms.marks)

-- entries that a descriptor may have: the cells rise and are cells of the table, and the values are plain words
pub record AreEntries (z : Shape) (es : List Entry) : Type 0 where
  pub some : 0 < length es
  pub rising : (e f : ℕ) → e < f → f < length es → (entry_of es e).cell < (entry_of es f).cell
  pub cells : (e : ℕ) → e < length es → (entry_of es e).cell < cell_count z
  pub olds : (e : ℕ) → e < length es → IsPlain (entry_of es e).old
  pub news : (e : ℕ) → e < length es → IsPlain (entry_of es e).new

-- the own row is of the next descriptor and says the entries, it has a number, and nothing of the worker is open
pub record CanOpenNext (z : Shape) (v : View) (size : ℕ) : Type 0 where
  pub row : HasRow v
  pub length_is : row_word v.written 2 ≡ size
  pub entries : AreEntries z (next_entries v size)
  pub room : v.next_number < z.rooms.descriptors
  pub closed : v.side.current ≡ None

-- the worker knows that d was opened: it has seen it so, or met it in a cell
abbrev pub IsKnown : List Fact → Ref → Type 0
IsKnown facts d = HasSeen facts d ⊎ In (met d) facts

-- the table has the word that is read
abbrev pub IsRead : Shape → Reading → Type 0
IsRead z (reading.Word p) = p < word_count z
IsRead z (reading.Cell c) = c < cell_count z
IsRead z (reading.Control d) = IsDesc z (ref_of d)
IsRead z (reading.MarkControl x c d) = IsDesc z (ref_of d)
IsRead z (reading.Serial d) = IsDesc z (ref_of d)
IsRead z (reading.Length d) = IsDesc z (ref_of d)
IsRead z (reading.EntryCell d e) = IsDesc z (ref_of d) × (e < cell_count z)
IsRead z (reading.EntryOld d e) = IsDesc z (ref_of d) × (e < cell_count z)
IsRead z (reading.EntryNew d e) = IsDesc z (ref_of d) × (e < cell_count z)
IsRead z (reading.MarkSerial x) = IsMark z (ref_of x)
IsRead z (reading.MarkDesc x) = IsMark z (ref_of x)
IsRead z (reading.MarkEntry x) = IsMark z (ref_of x)
IsRead z (reading.Reason d by) = IsDesc z (ref_of d) × (by < z.workers)

-- the row of a mark for entry e of d is known: so d was opened, and has that entry
abbrev pub KnowsMark : List Fact → Ref → (e : ℕ) → Type 0
KnowsMark facts d e = (x : Ref) × In (desc_is x d) facts × In (which_is x e) facts

-- d is known as opened, or a mark of it is known
abbrev pub WasOpened : List Fact → Ref → Type 0
WasOpened facts d = IsKnown facts d ⊎ ((x : Ref) × In (desc_is x d) facts)

-- d is the newest descriptor of the worker
abbrev pub IsNewest : View → Ref → Type 0
IsNewest v d = (d.worker ≡ v.worker) × (suc d.number ≡ v.next_number)

-- What is noted of it is true: what a row says is noted only of a descriptor that is known as opened, or of a mark that
-- was found, and then only once its row is seen to be still of it; that a mark may be settled, only where its control is
-- read after it was found; a reason to the worker, only of its newest descriptor, which that other one decided.
-- The old value may be read on two grounds: who settles a mark that it met needs to know no more of the descriptor.
abbrev pub IsNoted : View → Reading → Type 0
IsNoted v (reading.Word p) = Unit {0}
IsNoted v (reading.Cell c) = Unit {0}
IsNoted v (reading.Control d) = Unit {0}
IsNoted v (reading.MarkControl x c d) = In (found (ref_of x) c) v.side.facts × In (desc_is (ref_of x) (ref_of d)) v.side.facts
IsNoted v (reading.Serial d) = WasOpened v.side.facts (ref_of d)
IsNoted v (reading.Length d) = IsKnown v.side.facts (ref_of d)
IsNoted v (reading.EntryCell d e) = MayWork v.side (ref_of d) e
IsNoted v (reading.EntryOld d e) = MayWork v.side (ref_of d) e ⊎ KnowsMark v.side.facts (ref_of d) e
IsNoted v (reading.EntryNew d e) = MayWork v.side (ref_of d) e
IsNoted v (reading.MarkSerial x) = (c : ℕ) × In (found (ref_of x) c) v.side.facts
IsNoted v (reading.MarkDesc x) = (c : ℕ) × In (found (ref_of x) c) v.side.facts
IsNoted v (reading.MarkEntry x) = (c : ℕ) × In (found (ref_of x) c) v.side.facts
IsNoted v (reading.Reason d by) = IsNewest v (ref_of d) × In (decided (ref_of d) (failed 0 by)) v.side.facts

-- the next own mark is left, the mark row is of it and names the entry, the entry is known, the worker opened the descriptor or
-- read its control as not unused, and no own mark is unsettled
pub record CanPlace (z : Shape) (v : View) (d : Ref) (e c old : ℕ) : Type 0 where
  pub cell : c < cell_count z
  pub room : v.marks_used < z.rooms.marks
  pub serial : HasSerial z v
  pub desc : row_word v.written (mark_row z 1) ≡ desc_number d
  pub entry : row_word v.written (mark_row z 2) ≡ e
  pub work : MayWork v.side d e
  pub seen : HasSeen v.side.facts d
  pub knows_cell : In (target_is d e c) v.side.facts
  pub knows_old : In (old_is d e old) v.side.facts
  pub settled : v.side.unsettled ≡ None

-- that the mark may be swapped to its descriptor, or to this old value
-- Any Read of the control after the mark was found would do; but what is kept of a worker does not tell which Read came after
-- which finding, so only one that was made for the mark counts.
abbrev pub MaySettle : View → (x : Ref) → (c : ℕ) → (d : Ref) → (e : ℕ) → Option ℕ → Type 0
MaySettle v x c d e None = In (may_promote x c) v.side.facts
MaySettle v x c d e (Some old) = In (may_demote x) v.side.facts × In (old_is d e old) v.side.facts

-- the mark was found in that cell, and its row was read or written
pub record CanSettle (z : Shape) (v : View) (x : Ref) (c : ℕ) (d : Ref) (e : ℕ) (old : Option ℕ) : Type 0 where
  pub cell : c < cell_count z
  pub mark : IsMark z x
  pub desc : IsDesc z d
  pub found : In (Fact.found x c) v.side.facts
  pub desc_is : In (Fact.desc_is x d) v.side.facts
  pub which_is : In (Fact.which_is x e) v.side.facts
  pub may : MaySettle v x c d e old

-- of how it is decided: a word tells it, so the entry is 0; the worker names itself; a descriptor is withdrawn only where no
-- mark is left
abbrev pub IsResult : Shape → View → Control → Type 0
IsResult z v unused = ⊥
IsResult z v undecided = ⊥
IsResult z v succeeded = Unit {0}
IsResult z v withdrawn = z.rooms.marks ≤ v.marks_used
IsResult z v (failed e by) = (e ≡ 0) × (by ≡ v.worker)

-- the entry at which it fails is that of the own reason to its owner
abbrev pub decided_so : Shape → View → Ref → Control → Control
decided_so z v d k = with_entry (row_word v.written (reason_row z d.worker)) k

pub record CanDecide (z : Shape) (v : View) (d : Ref) (k : Control) : Type 0 where
  pub desc : IsDesc z d
  pub known : In (Fact.known d) v.side.facts
  pub may : MayDecide v.side v.worker d (decided_so z v d k)
  pub result : IsResult z v k

-- the value that the entry's cell gets: the new one if the descriptor succeeded, else the old one
abbrev pub IsReleased : View → Ref → (e : ℕ) → Control → (value : ℕ) → Type 0
IsReleased v d e unused value = ⊥
IsReleased v d e undecided value = ⊥
IsReleased v d e succeeded value = In (new_is d e value) v.side.facts
IsReleased v d e withdrawn value = In (old_is d e value) v.side.facts
IsReleased v d e (failed f by) value = In (old_is d e value) v.side.facts

-- how the descriptor was decided is known, and which value counts; or that it was, and that it is stale, so that it
-- is not the own open one: then it is the old one, as a descriptor that succeeded stands nowhere any more
abbrev pub KnowsValue : View → Ref → (e : ℕ) → Option Control → (value : ℕ) → Type 0
KnowsValue v d e None value =
    In (over d) v.side.facts × In (stale d) v.side.facts × In (old_is d e value) v.side.facts × (d.worker ≡ v.worker → v.side.current ≡ Some d.number → ⊥)
KnowsValue v d e (Some k) value = In (decided d k) v.side.facts × IsReleased v d e k value

-- the entry is known, and what its cell gets
pub record CanRelease (z : Shape) (v : View) (d : Ref) (e c : ℕ) (k : Option Control) (value : ℕ) : Type 0 where
  pub cell : c < cell_count z
  pub desc : IsDesc z d
  pub work : MayWork v.side d e
  pub knows_cell : In (target_is d e c) v.side.facts
  pub knows_value : KnowsValue v d e k value

-- nothing of the worker is open, and no earlier Claim of it found the end
pub record CanClaim (z : Shape) (v : View) : Type 0 where
  pub closed : v.side.current ≡ None
  pub keys : (n : ℕ) → In n v.side.claims → n < z.keys

abbrev pub IsStep : Shape → View → Step → Type 0
IsStep z v (writes p u) = IsFree z v p u
IsStep z v (opens size) = CanOpenNext z v size
IsStep z v (reads r) = IsRead z r × IsNoted v r
IsStep z v (places d e c old) = CanPlace z v d e c old
IsStep z v (settles x c d e old) = CanSettle z v x c d e old
IsStep z v (decides d k) = CanDecide z v d k
IsStep z v (releases d e c k value) = CanRelease z v d e c k value
IsStep z v claims = CanClaim z v

-- a worker of the table may make the step, where no wipe is under way
pub record Allowed (z : Shape) (v : View) (s : Step) : Type 0 where
  pub worker : v.worker < z.workers
  pub still : v.wiping ≡ None
  pub step : IsStep z v s

-- ---- the word that it touches

abbrev pub index_read : Shape → Reading → ℕ
index_read z (reading.Word p) = p
index_read z (reading.Cell c) = c
index_read z (reading.Control d) = index_of z (part.Control d.worker)
index_read z (reading.MarkControl x c d) = index_of z (part.Control d.worker)
index_read z (reading.Serial d) = index_of z (part.Serial d.worker)
index_read z (reading.Length d) = index_of z (part.Length d.worker)
index_read z (reading.EntryCell d e) = index_of z (part.EntryCell d.worker e)
index_read z (reading.EntryOld d e) = index_of z (part.EntryOld d.worker e)
index_read z (reading.EntryNew d e) = index_of z (part.EntryNew d.worker e)
index_read z (reading.MarkSerial x) = index_of z (part.MarkSerial x.worker)
index_read z (reading.MarkDesc x) = index_of z (part.MarkDesc x.worker)
index_read z (reading.MarkEntry x) = index_of z (part.MarkEntry x.worker)
index_read z (reading.Reason d by) = index_of z (part.Reason by d.worker)

abbrev pub index : Shape → View → Step → ℕ
index z v (writes p u) = index_of z p
index z v (opens size) = index_of z (part.Control v.worker)
index z v (reads r) = index_read z r
index z v (places d e c old) = c
index z v (settles x c d e old) = c
index z v (decides d k) = index_of z (part.Control d.worker)
index z v (releases d e c k value) = c
index z v claims = index_of z part.Counter

-- ---- what becomes of the word

-- a swap writes only where it finds the word that it names
abbrev pub swapped : (old new word : ℕ) → ℕ
swapped old new word = cond (word == old) new word

abbrev pub settled_word : Ref → Option ℕ → ℕ
settled_word d None = desc_number d
settled_word d (Some old) = old

abbrev pub word_after : View → Step → (word : ℕ) → ℕ
word_after v (writes p u) word = u
word_after v (opens size) word = swapped v.control (control_word_of v.next_number undecided) word
word_after v (reads r) word = word
word_after v (places d e c old) word = swapped old (mark_number (own_mark v)) word
word_after v (settles x c d e old) word = swapped (mark_number x) (settled_word d old) word
word_after v (decides d k) word = swapped (control_word_of d.number undecided) (control_word_of d.number k) word
word_after v (releases d e c k value) word = swapped (desc_number d) value word
word_after v claims word = (word + 1) % 2 ^ 64

-- ---- what the worker notes

-- the row of a part among its worker's
abbrev pub row_of : Shape → Part → ℕ
row_of z (part.Cell c) = 0
row_of z (part.Control worker) = 0
row_of z (part.Serial worker) = 1
row_of z (part.Length worker) = 2
row_of z (part.EntryCell worker entry) = entry_row entry 0
row_of z (part.EntryOld worker entry) = entry_row entry 1
row_of z (part.EntryNew worker entry) = entry_row entry 2
row_of z (part.MarkSerial worker) = mark_row z 0
row_of z (part.MarkDesc worker) = mark_row z 1
row_of z (part.MarkEntry worker) = mark_row z 2
row_of z (part.Reason worker owner) = reason_row z owner
row_of z part.Counter = 0

abbrev pub with_side : View → Side → View
with_side v s = record v { side = s }

-- what the words that were read in a row say of its descriptor, or of its mark
abbrev pub desc_row_said : Ref → RowWord → Fact
desc_row_said d (length_word u) = size_is d u
desc_row_said d (cell_word e u) = target_is d e u
desc_row_said d (old_word e u) = old_is d e u
desc_row_said d (new_word e u) = new_is d e u

abbrev pub rows_said : List RawRow → Ref → List Fact
rows_said [] d = []
rows_said (r ∷ rs) d = cond (is_ref r.desc d) (desc_row_said d r.word ∷ rows_said rs d) (rows_said rs d)

abbrev pub desc_said : Ref → Option Ref → List Fact
desc_said x None = []
desc_said x (Some d) = desc_is x d ∷ []

abbrev pub mark_said : Ref → MarkWord → List Fact
mark_said x (desc_word u) = desc_said x (desc_in u)
mark_said x (entry_word u) = which_is x u ∷ []

abbrev pub row_said : List Raw → Ref → List Fact
row_said [] x = []
row_said (r ∷ rs) x = cond (is_ref r.mark x) (mark_said x r.word ++ row_said rs x) (row_said rs x)

-- the row of d is of another descriptor by now, so it was decided
abbrev pub stale_noted : Side → Ref → Side
stale_noted s d = note_side (note_side s (over d)) (stale d)

-- whether a fact says that d was opened
abbrev pub tells_opened : Fact → Ref → Bool
tells_opened (met f) d = is_ref f d
tells_opened (known f) d = is_ref f d
tells_opened (decided f k) d = is_ref f d
tells_opened _ d = false

abbrev pub is_known : List Fact → Ref → Bool
is_known [] d = false
is_known (n ∷ ns) d = tells_opened n d || is_known ns d

-- A control word with the number of d tells how d is. With another one it tells that d is stale, if it was opened.
abbrev pub control_read : Side → Ref → (word : ℕ) → Side
control_read s d word =
    cond (serial_in word == d.number) (control_noted s d (read_control word)) (cond (is_known s.facts d) (stale_noted s d) s)

-- the same of the control of a mark that was found in a cell
abbrev pub mark_control_read : Side → (x : Ref) → (c : ℕ) → (d : Ref) → (word : ℕ) → Side
mark_control_read s x c d word =
    cond (serial_in word == d.number) (mark_noted (control_noted s d (read_control word)) x c (read_control word)) (note_side (stale_noted s d) (may_demote x))

-- the number in the row of d
abbrev pub serial_read : View → Ref → (word : ℕ) → Side
serial_read v d word = cond (word == d.number) (note_all v.side (rows_said v.raw_rows d)) (stale_noted v.side d)

abbrev pub read_noted : View → Reading → (word : ℕ) → Side
read_noted v (reading.Word p) word = v.side
read_noted v (reading.Cell c) word = cell_noted v.side c (cell_in word) v.side.current 0 v.next_number
read_noted v (reading.Control d) word = control_read v.side (ref_of d) word
read_noted v (reading.MarkControl x c d) word = mark_control_read v.side (ref_of x) c (ref_of d) word
read_noted v (reading.Serial d) word = serial_read v (ref_of d) word
read_noted v (reading.Length d) word = v.side
read_noted v (reading.EntryCell d e) word = v.side
read_noted v (reading.EntryOld d e) word = v.side
read_noted v (reading.EntryNew d e) word = v.side
read_noted v (reading.MarkSerial x) word = cond (word == x.number) (note_all v.side (row_said v.raw (ref_of x))) v.side
read_noted v (reading.MarkDesc x) word = v.side
read_noted v (reading.MarkEntry x) word = v.side
read_noted v (reading.Reason d by) word = note_side v.side (failed_at (ref_of d) word)

-- the words that were read in rows, and whose numbers are not seen yet
abbrev pub read_raw : List Raw → Reading → (word : ℕ) → List Raw
read_raw raw (reading.Word p) word = raw
read_raw raw (reading.Cell c) word = raw
read_raw raw (reading.Control d) word = raw
read_raw raw (reading.MarkControl x c d) word = raw
read_raw raw (reading.Serial d) word = raw
read_raw raw (reading.Length d) word = raw
read_raw raw (reading.EntryCell d e) word = raw
read_raw raw (reading.EntryOld d e) word = raw
read_raw raw (reading.EntryNew d e) word = raw
read_raw raw (reading.MarkSerial x) word = raw
read_raw raw (reading.MarkDesc x) word = record { mark = ref_of x; word = desc_word word } ∷ raw
read_raw raw (reading.MarkEntry x) word = record { mark = ref_of x; word = entry_word word } ∷ raw
read_raw raw (reading.Reason d by) word = raw

abbrev pub read_rows : List RawRow → Reading → (word : ℕ) → List RawRow
read_rows rows (reading.Word p) word = rows
read_rows rows (reading.Cell c) word = rows
read_rows rows (reading.Control d) word = rows
read_rows rows (reading.MarkControl x c d) word = rows
read_rows rows (reading.Serial d) word = rows
read_rows rows (reading.Length d) word = record { desc = ref_of d; word = length_word word } ∷ rows
read_rows rows (reading.EntryCell d e) word = record { desc = ref_of d; word = cell_word e word } ∷ rows
read_rows rows (reading.EntryOld d e) word = record { desc = ref_of d; word = old_word e word } ∷ rows
read_rows rows (reading.EntryNew d e) word = record { desc = ref_of d; word = new_word e word } ∷ rows
read_rows rows (reading.MarkSerial x) word = rows
read_rows rows (reading.MarkDesc x) word = rows
read_rows rows (reading.MarkEntry x) word = rows
read_rows rows (reading.Reason d by) word = rows

-- the own control word, where it is the one that was seen
abbrev pub is_newest : View → Ref → Bool
is_newest v d = (d.worker == v.worker) && (suc d.number == v.next_number)

abbrev pub control_seen : View → Ref → (word : ℕ) → ℕ
control_seen v d word = cond (is_newest v d) word v.control

abbrev pub read_own : View → Reading → (word : ℕ) → ℕ
read_own v (reading.Word p) word = v.control
read_own v (reading.Cell c) word = v.control
read_own v (reading.Control d) word = control_seen v (ref_of d) word
read_own v (reading.MarkControl x c d) word = control_seen v (ref_of d) word
read_own v (reading.Serial d) word = v.control
read_own v (reading.Length d) word = v.control
read_own v (reading.EntryCell d e) word = v.control
read_own v (reading.EntryOld d e) word = v.control
read_own v (reading.EntryNew d e) word = v.control
read_own v (reading.MarkSerial x) word = v.control
read_own v (reading.MarkDesc x) word = v.control
read_own v (reading.MarkEntry x) word = v.control
read_own v (reading.Reason d by) word = v.control

abbrev pub read_view : View → Reading → (word : ℕ) → View
read_view v r word = record v {
  side = read_noted v r word;
  control = read_own v r word;
  raw_rows = read_rows v.raw_rows r word;
  raw = read_raw v.raw r word;
}

abbrev pub open_noted : View → (size : ℕ) → View
open_noted v size = record v {
  side = note_entries (open_side v.side v.next_number) (own_desc v) (entries_of (next_entries v size)) size;
  next_number = suc v.next_number;
  control = control_word_of v.next_number undecided;
  opened = record { number = v.next_number; entries = next_entries v size } ∷ v.opened;
}

abbrev pub place_view : View → Ref → (e c old word : ℕ) → View
place_view v d e c old word = record v {
  side = place_noted v.side (own_mark v) d e c old (cell_in word) 0;
  marks_used = cond (word == old) (suc v.marks_used) v.marks_used;
}

abbrev pub is_none : Option ℕ → Bool
is_none None = true
is_none (Some n) = false

abbrev pub settle_view : View → (x : Ref) → (c : ℕ) → (d : Ref) → (e : ℕ) → Option ℕ → (word : ℕ) → Side
settle_view v x c d e old word =
    cond (is_number v.side.unsettled v.worker x) (settle_noted v.side d e c (is_none old && (word == mark_number x))) v.side

-- the control word of d after a swap of it from undecided to k that found this word
abbrev pub decided_word : Ref → Control → (word : ℕ) → ℕ
decided_word d k word = swapped (control_word_of d.number undecided) (control_word_of d.number k) word

abbrev pub decide_view : View → Ref → Control → (word : ℕ) → View
decide_view v d k word = record v {
  side = control_read v.side d (decided_word d k word);
  control = control_seen v d (decided_word d k word);
}

abbrev pub release_view : View → Ref → (e c : ℕ) → Side
release_view v d e c =
    cond (is_number v.side.current v.worker d) (release_noted (paid_side v.side d c) e (size_in v.opened d.number)) (paid_side v.side d c)

abbrev pub noted : Shape → View → Step → (word : ℕ) → View
noted z v (writes p u) word = record v { written = record { row = row_of z p; word = u } ∷ v.written }
noted z v (opens size) word = open_noted v size
noted z v (reads r) word = read_view v r word
noted z v (places d e c old) word = place_view v d e c old word
noted z v (settles x c d e old) word = with_side v (settle_view v x c d e old word)
noted z v (decides d k) word = decide_view v d k word
noted z v (releases d e c k value) word = with_side v (release_view v d e c)
noted z v claims word = with_side v (claim_side v.side word)

-- The step takes the words and what is kept of its worker to the next ones, and finds this word.
pub record StepsTo (z : Shape) (s : Step) (words : List ℕ) (v : View) (word : ℕ) (then : List ℕ) (next : View) : Type 0 where
  pub found_is : word ≡ slice_index words (index z v s)
  pub words_are : then ≡ slice_set words (index z v s) (word_after v s word)
  pub view_is : next ≡ noted z v s word

-- the same, whatever word it finds
abbrev pub Makes : Shape → Step → (words : List ℕ) → View → (then : List ℕ) → (next : View) → Type 0
Makes z s words v then next = StepsTo z s words v (slice_index words (index z v s)) then next
