-- What a worker may rely on: what the words say that it finds, and that what it noted fits the table and does not
-- contradict itself.
use Rattle.std.specs.Prelude.{suc, ◌≡◌, ℕ, ◌+◌, ◌<◌, ◌≤◌, ◌⊎◌, Some, List, length, slice_index}
use Rattle.rh_tagword.specs.Control.{IsState}
use Rattle.rh_world.specs.World.{Ref, Control, World, IsOpened, IsDecided, In}
use Rattle.rh_world.specs.World.Control.{failed, undecided, withdrawn}
use Rattle.rh_world.specs.Facts.Fact.{size_is, target_is, old_is, new_is, decided, failed_at, desc_is, which_is, found}
use Rattle.rh_world.specs.Sides.{KeptRead}
use Rattle.rh_world.specs.Moves.{MayWork}
use Rattle.rh_words.specs.declared.shape.Shape.{Shape}
use Rattle.rh_words.specs.declared.shape.Part.{Part}
use Rattle.rh_words.specs.declared.reference.Reading.{Reading}
use Rattle.rh_words.specs.declared.reference.Reading.TheVariants as reading
use Rattle.rh_words.specs.Parts.{cell_count, entry_row, index_of}
use Rattle.rh_words.specs.View.{OwnDesc, View}
use Rattle.rh_words.specs.View.MarkWord.{desc_word}
use Rattle.rh_words.specs.Words.{IsPlain, cell_in, desc_in, control_word_of, read_control, ref_of, serial_in, state_of}
use Rattle.rh_words.specs.Steps.{Allowed, IsDesc, IsKnown, IsMark, KnowsMark, Step, entry_of, index, row_of, row_word}
use Rattle.rh_rule.specs.Represents.{IsCell, IsOwn}
use Rattle.rh_rule.specs.Core.{Core}

-- the own row says the entries that are kept of the descriptor that it is of, by what the worker wrote there
pub record OwnRow (v : View) (d : Ref) : Type 0 where
  pub own : OwnDesc
  pub here : In own v.opened
  pub number : own.number ≡ d.number
  pub size : row_word v.written 2 ≡ length own.entries
  pub cells : (e : ℕ) → e < length own.entries → row_word v.written (entry_row e 0) ≡ (entry_of own.entries e).cell
  pub olds : (e : ℕ) → e < length own.entries → row_word v.written (entry_row e 1) ≡ (entry_of own.entries e).old
  pub news : (e : ℕ) → e < length own.entries → row_word v.written (entry_row e 2) ≡ (entry_of own.entries e).new

-- what is so of the facts in a worker's view
pub record Sound (z : Shape) (v : View) : Type 0 where
  -- its own numbers lie within the room
  pub descs_used : v.next_number ≤ z.rooms.descriptors
  pub marks_used : v.marks_used ≤ z.rooms.marks
  pub numbers : (d : Ref) → d.worker ≡ v.worker → IsKnown v.side.facts d → d.number < v.next_number
  -- and so do the numbers with which it kept what it read
  pub reads : (k : KeptRead) → In k v.side.reads → k.next_number ≤ v.next_number
  -- descriptors and marks that it met are of the table, and so are their entries
  pub descs : (d : Ref) → IsKnown v.side.facts d → IsDesc z d
  pub sizes : (d : Ref) (n : ℕ) → In (size_is d n) v.side.facts → (0 < n) × (n ≤ cell_count z)
  pub targets : (d : Ref) (e c : ℕ) → In (target_is d e c) v.side.facts → MayWork v.side d e → c < cell_count z
  pub olds : (d : Ref) (e u : ℕ) → In (old_is d e u) v.side.facts → MayWork v.side d e ⊎ KnowsMark v.side.facts d e → IsPlain u
  pub news : (d : Ref) (e u : ℕ) → In (new_is d e u) v.side.facts → MayWork v.side d e → IsPlain u
  pub marks : (x : Ref) (c : ℕ) → In (found x c) v.side.facts → IsMark z x × (c < cell_count z)
  pub marked : (d : Ref) (e : ℕ) → KnowsMark v.side.facts d e → IsDesc z d × (e < cell_count z)
  pub named : (x d : Ref) → In (desc_is x d) v.side.facts → IsDesc z d
  pub results : (d : Ref) (k : Control) → In (decided d k) v.side.facts → IsDecided k
  pub deciders : (d : Ref) (by : ℕ) → In (decided d (failed 0 by)) v.side.facts → by < z.workers
  -- a descriptor failed at an entry that it has
  pub failures : (d : Ref) (e n : ℕ) → In (failed_at d e) v.side.facts → In (size_is d n) v.side.facts → e < n
  -- a descriptor of its own was withdrawn only where no mark is left
  pub withdrawals : (d : Ref) → d.worker ≡ v.worker → In (decided d withdrawn) v.side.facts → z.rooms.marks ≤ v.marks_used
  -- what it wrote of the own descriptor that has the row is what is kept of it
  pub rows : (d : Ref) → d.worker ≡ v.worker → IsKnown v.side.facts d → row_word v.written 1 ≡ d.number → OwnRow v d
  -- it noted no two answers to one question
  pub one_size : (d : Ref) (m n : ℕ) → In (size_is d m) v.side.facts → In (size_is d n) v.side.facts → m ≡ n
  pub one_target : (d : Ref) (e b c : ℕ) → In (target_is d e b) v.side.facts → In (target_is d e c) v.side.facts → b ≡ c
  pub one_old : (d : Ref) (e t u : ℕ) → In (old_is d e t) v.side.facts → In (old_is d e u) v.side.facts → t ≡ u
  pub one_new : (d : Ref) (e t u : ℕ) → In (new_is d e t) v.side.facts → In (new_is d e u) v.side.facts → t ≡ u
  pub one_result : (d : Ref) (j k : Control) → In (decided d j) v.side.facts → In (decided d k) v.side.facts → j ≡ k
  pub one_desc : (x d f : Ref) → In (desc_is x d) v.side.facts → In (desc_is x f) v.side.facts → d ≡ f
  pub one_entry : (x : Ref) (e f : ℕ) → In (which_is x e) v.side.facts → In (which_is x f) v.side.facts → e ≡ f

-- a control word: it has a serial number and a state
pub record IsControlWord (word : ℕ) : Type 0 where
  pub number : ℕ
  pub control : Control
  pub state : IsState (state_of control)
  pub is : word ≡ control_word_of number control

-- The control word has the number of d, which was opened. Where this worker decided that d failed, it noted so; while d is
-- undecided, all descriptors of its owner that this worker decided as failed are older; and an own d is the newest.
pub record ControlTellsOf (v : View) (d : Ref) (word : ℕ) : Type 0 where
  pub opened : IsOpened (read_control word)
  pub noted : (e : ℕ) → read_control word ≡ failed e v.worker → In (decided d (failed 0 v.worker)) v.side.facts
  pub older : read_control word ≡ undecided → (f : Ref) → f.worker ≡ d.worker → In (decided f (failed 0 v.worker)) v.side.facts → f.number < d.number
  pub newest : d.worker ≡ v.worker → suc d.number ≡ v.next_number

-- And it has the number of an own d that is the newest.
pub record ControlTells (v : View) (d : Ref) (word : ℕ) : Type 0 where
  pub word_is : IsControlWord word
  pub tells : serial_in word ≡ d.number → ControlTellsOf v d word
  pub stays : d.worker ≡ v.worker → suc d.number ≡ v.next_number → serial_in word ≡ d.number

-- what a word says that is read
abbrev pub Reads : Shape → View → Reading → (word : ℕ) → Type 0
Reads z v (reading.Word p) word = (q : Part) → IsOwn z v.worker q → p ≡ index_of z q → word ≡ row_word v.written (row_of z q)
Reads z v (reading.Cell c) word = IsCell z (cell_in word)
Reads z v (reading.Control d) word = IsControlWord word × (IsKnown v.side.facts (ref_of d) → ControlTells v (ref_of d) word)
Reads z v (reading.MarkControl x c d) word = ControlTells v (ref_of d) word
Reads z v (reading.Serial d) word = Unit {0}
Reads z v (reading.Length d) word = Unit {0}
Reads z v (reading.EntryCell d e) word = Unit {0}
Reads z v (reading.EntryOld d e) word = Unit {0}
Reads z v (reading.EntryNew d e) word = Unit {0}
Reads z v (reading.MarkSerial x) word = (u : ℕ) → word ≡ x.number → In (record { mark = ref_of x; word = desc_word u }) v.raw → (d : Ref) × (desc_in u ≡ Some d)
Reads z v (reading.MarkDesc x) word = Unit {0}
Reads z v (reading.MarkEntry x) word = Unit {0}
Reads z v (reading.Reason d by) word = Unit {0}

-- what a step of a worker finds, of whom this was kept before
abbrev pub Finds : Shape → View → Step → (word : ℕ) → Type 0
Finds z v (Step.writes p u) word = Unit {0}
Finds z v (Step.opens size) word = word ≡ v.control
Finds z v (Step.reads r) word = Reads z v r word
Finds z v (Step.places d e c old) word = IsCell z (cell_in word)
Finds z v (Step.settles x c d e old) word = IsCell z (cell_in word)
Finds z v (Step.decides d k) word = ControlTells v d word
Finds z v (Step.releases d e c k value) word = IsCell z (cell_in word)
Finds z v Step.claims word = word ≤ z.keys + z.workers

-- Under the rule what is kept of each worker is sound, and each allowed step finds what it may rely on.
abbrev pub ViewsAreSound : Type 0
ViewsAreSound = (w : World) (z : Shape) (words : List ℕ) (keep : ℕ → View) (v : ℕ) → Core w z words keep → v < z.workers
    → Sound z (keep v)

abbrev pub StepsFind : Type 0
StepsFind = (w : World) (z : Shape) (words : List ℕ) (keep : ℕ → View) (v : ℕ) (s : Step) → Core w z words keep
    → v < z.workers → Allowed z (keep v) s → Finds z (keep v) s (slice_index words (index z (keep v) s))
