-- How the words of a table, and what is kept of its workers, represent a world.
use Rattle.std.specs.Prelude.{suc, ◌≡◌, ℕ, ◌<◌, ◌≤◌, ◌⊎◌, Some, None, List, map, length, slice_index}
use Rattle.rh_world.specs.World.{Ref, Cell, Control, World, IsOpened, IsUsed, IsFalling, In}
use Rattle.rh_world.specs.World.Cell.{plain, mark, desc}
use Rattle.rh_world.specs.World.Control.{failed, withdrawn}
use Rattle.rh_world.specs.Facts.Fact.{decided}
use Rattle.rh_world.specs.Sides.{Side, new_side}
use Rattle.rh_words.specs.declared.shape.Shape.{Shape}
use Rattle.rh_words.specs.declared.shape.Part.{Part}
use Rattle.rh_words.specs.declared.shape.Part.TheVariants as part
use Rattle.rh_words.specs.Parts.{cell_count, index_of, word_count}
use Rattle.rh_words.specs.View.{MarkWord, OwnDesc, Raw, RawRow, RowWord, View}
use Rattle.rh_words.specs.View.RowWord.{length_word, cell_word, old_word, new_word}
use Rattle.rh_words.specs.View.MarkWord.{desc_word, entry_word}
use Rattle.rh_words.specs.Words.{IsPlain, mark_number, desc_number, control_word_of}
use Rattle.rh_words.specs.Steps.{IsDesc, IsMark, row_of, row_word, entry_of}
use Rattle.rh_rule.specs.Erased.{erased}

abbrev pub word_at : Shape → List ℕ → Part → ℕ
word_at z words p = slice_index words (index_of z p)

-- the word of what a cell holds
abbrev pub cell_number : Cell → ℕ
cell_number (plain u) = u
cell_number (mark x) = mark_number x
cell_number (desc d) = desc_number d

abbrev pub IsCell : Shape → Cell → Type 0
IsCell z (plain u) = IsPlain u
IsCell z (mark x) = IsMark z x
IsCell z (desc d) = IsDesc z d

pub record Cells (z : Shape) (words : List ℕ) (w : World) : Type 0 where
  pub cells : (c : ℕ) → c < cell_count z → slice_index words c ≡ cell_number (w.cell c)
  pub standing : (c : ℕ) → c < cell_count z → IsCell z (w.cell c)

-- The control word of a worker is that of its newest descriptor, and 0 before the first.
pub record Controls (z : Shape) (words : List ℕ) (w : World) : Type 0 where
  pub unopened : (v : ℕ) → v < z.workers → w.next_number v ≡ 0 → word_at z words (part.Control v) ≡ 0
  pub newest : (d : Ref) → d.worker < z.workers → suc d.number ≡ w.next_number d.worker
      → IsOpened (w.control d) × (word_at z words (part.Control d.worker) ≡ control_word_of d.number (w.control d))
  pub descs : (d : Ref) → IsOpened (w.control d) → IsDesc z d
  -- a descriptor is withdrawn only where no mark of its worker is left (worlds do not know how many there is room for)
  pub withdrawals : (d : Ref) → w.control d ≡ withdrawn → z.rooms.marks ≤ w.marks_used d.worker
  -- who decided that a descriptor failed tells its owner at which entry, until the owner opens the next one
  pub deciders : (d : Ref) (e by : ℕ) → w.control d ≡ failed e by → by < z.workers
  pub reasons : (d : Ref) (e by : ℕ) → w.control d ≡ failed e by → suc d.number ≡ w.next_number d.worker
      → word_at z words (part.Reason by d.worker) ≡ e

-- the entries of an opened descriptor
pub record HasEntries (z : Shape) (w : World) (d : Ref) : Type 0 where
  pub within : (e : ℕ) → e < w.size d → w.target d e < cell_count z
  pub plain_olds : (e : ℕ) → e < w.size d → IsPlain (w.old d e)
  pub plain_news : (e : ℕ) → e < w.size d → IsPlain (w.new d e)
  pub some : 0 < w.size d
  pub fits : w.size d ≤ cell_count z

-- the descriptor row of its worker is of d
abbrev pub HasItsRow : Shape → List ℕ → Ref → Type 0
HasItsRow z words d = word_at z words (part.Serial d.worker) ≡ d.number

-- what a word of the row of d says of d
abbrev pub IsRowSaid : World → Ref → RowWord → Type 0
IsRowSaid w d (length_word u) = u ≡ w.size d
IsRowSaid w d (cell_word e u) = u ≡ w.target d e
IsRowSaid w d (old_word e u) = u ≡ w.old d e
IsRowSaid w d (new_word e u) = u ≡ w.new d e

-- the row of an opened descriptor
pub record DescRow (z : Shape) (words : List ℕ) (w : World) (d : Ref) : Type 0 where
  pub length : word_at z words (part.Length d.worker) ≡ w.size d
  pub targets : (e : ℕ) → e < w.size d → word_at z words (part.EntryCell d.worker e) ≡ w.target d e
  pub olds : (e : ℕ) → e < w.size d → word_at z words (part.EntryOld d.worker e) ≡ w.old d e
  pub news : (e : ℕ) → e < w.size d → word_at z words (part.EntryNew d.worker e) ≡ w.new d e

-- the mark row of its worker is of x
abbrev pub MarkStands : Shape → List ℕ → Ref → Type 0
MarkStands z words x = word_at z words (part.MarkSerial x.worker) ≡ x.number

-- what a word of the row of x says of x
abbrev pub IsSaid : World → Ref → MarkWord → Type 0
IsSaid w x (desc_word u) = u ≡ desc_number (w.mark_desc x)
IsSaid w x (entry_word u) = u ≡ w.mark_entry x

-- the row of a used mark
pub record MarkRow (z : Shape) (words : List ℕ) (w : World) (x : Ref) : Type 0 where
  pub desc : IsSaid w x (desc_word (word_at z words (part.MarkDesc x.worker)))
  pub entry : IsSaid w x (entry_word (word_at z words (part.MarkEntry x.worker)))

-- A descriptor has its worker's row until the number of the next one is written there; of a stale one nothing
-- is said of words. So it is of marks, and the row of a mark does not go on while it stands in a cell.
pub record RowWords (z : Shape) (words : List ℕ) (w : World) : Type 0 where
  pub entries : (d : Ref) → IsOpened (w.control d) → HasEntries z w d
  pub descs : (d : Ref) → IsOpened (w.control d) → HasItsRow z words d → DescRow z words w d
  pub are_marks : (x : Ref) → IsUsed w x → IsMark z x
  pub marks : (x : Ref) → IsUsed w x → MarkStands z words x → MarkRow z words w x
  pub placed : (c : ℕ) (x : Ref) → c < cell_count z → w.cell c ≡ mark x → MarkStands z words x

-- a part of the rows of worker v that v alone writes
abbrev pub IsOwn : Shape → (v : ℕ) → Part → Type 0
IsOwn z v (part.Cell c) = ⊥
IsOwn z v (part.Control worker) = ⊥
IsOwn z v (part.Serial worker) = worker ≡ v
IsOwn z v (part.Length worker) = worker ≡ v
IsOwn z v (part.EntryCell worker entry) = (worker ≡ v) × (entry < cell_count z)
IsOwn z v (part.EntryOld worker entry) = (worker ≡ v) × (entry < cell_count z)
IsOwn z v (part.EntryNew worker entry) = (worker ≡ v) × (entry < cell_count z)
IsOwn z v (part.MarkSerial worker) = worker ≡ v
IsOwn z v (part.MarkDesc worker) = worker ≡ v
IsOwn z v (part.MarkEntry worker) = worker ≡ v
IsOwn z v (part.Reason worker owner) = (worker ≡ v) × (owner < z.workers)
IsOwn z v part.Counter = ⊥

-- a descriptor that is kept as opened has these entries in the world
pub record IsOpenedSo (w : World) (d : Ref) (o : OwnDesc) : Type 0 where
  pub opened : IsOpened (w.control d)
  pub size : w.size d ≡ length o.entries
  pub targets : (e : ℕ) → e < length o.entries → w.target d e ≡ (entry_of o.entries e).cell
  pub olds : (e : ℕ) → e < length o.entries → w.old d e ≡ (entry_of o.entries e).old
  pub news : (e : ℕ) → e < length o.entries → w.new d e ≡ (entry_of o.entries e).new

abbrev pub numbers_of : List OwnDesc → List ℕ
numbers_of opened = map (λ o. o.number) opened

-- A word that was read in the row of a mark says of it what the row says, as long as the row is of it.
pub record IsRaw (z : Shape) (words : List ℕ) (w : World) (r : Raw) : Type 0 where
  pub used : IsUsed w r.mark
  pub said : MarkStands z words r.mark → IsSaid w r.mark r.word

-- so it is of descriptors
pub record IsRawRow (z : Shape) (words : List ℕ) (w : World) (r : RawRow) : Type 0 where
  pub opened : IsOpened (w.control r.desc)
  pub said : HasItsRow z words r.desc → IsRowSaid w r.desc r.word

-- what is kept of worker v
pub record Kept (z : Shape) (words : List ℕ) (w : World) (side : Side) (v : ℕ) (k : View) : Type 0 where
  pub worker : k.worker ≡ v
  pub still : k.wiping ≡ None
  pub side_is : k.side ≡ erased side
  pub opening : (c : ℕ) → c < cell_count z → slice_index k.opening c ≡ w.logical 0 c
  pub next_number : k.next_number ≡ w.next_number v
  pub desc_room : k.next_number ≤ z.rooms.descriptors
  -- the own control word, once its newest descriptor is noted as decided
  pub no_control : k.next_number ≡ 0 → k.control ≡ 0
  pub control : (n : ℕ) (r : Control) → suc n ≡ k.next_number → In (decided (record { worker = v; number = n }) r) k.side.facts
      → k.control ≡ control_word_of n r
  -- its open descriptor has its row
  pub open_row : (n : ℕ) → k.side.current ≡ Some n → HasItsRow z words (record { worker = v; number = n })
  -- each descriptor that it decided as failed is noted so
  pub failures : (d : Ref) (e : ℕ) → w.control d ≡ failed e v → In (decided d (failed 0 v)) k.side.facts
  pub marks_used : k.marks_used ≡ w.marks_used v
  pub mark_room : k.marks_used ≤ z.rooms.marks
  pub written : (p : Part) → IsOwn z v p → word_at z words p ≡ row_word k.written (row_of z p)
  pub raw_rows : (r : RawRow) → In r k.raw_rows → IsRawRow z words w r
  pub raw : (r : Raw) → In r k.raw → IsRaw z words w r
  -- its opened descriptors, each of which is open or noted as decided
  pub opened : (o : OwnDesc) → In o k.opened → IsOpenedSo w (record { worker = v; number = o.number }) o
  pub all : (n : ℕ) → IsOpened (w.control (record { worker = v; number = n })) → In n (numbers_of k.opened)
  pub falling : IsFalling (numbers_of k.opened)
  pub over : (o : OwnDesc) → In o k.opened
      → (k.side.current ≡ Some o.number) ⊎ ((r : Control) × In (decided (record { worker = v; number = o.number }) r) k.side.facts)

-- the words, and what is kept of the workers, represent this world and these Sides
pub record Represents (z : Shape) (words : List ℕ) (keep : ℕ → View) (w : World) (side : ℕ → Side) : Type 0 where
  pub sized : length words ≡ word_count z
  pub workers : w.workers ≡ z.workers
  pub keys : w.keys ≡ z.keys
  pub counter : word_at z words part.Counter ≡ w.counter
  pub cells : Cells z words w
  pub controls : Controls z words w
  pub rows : RowWords z words w
  pub kept : (v : ℕ) → v < z.workers → Kept z words w (side v) v (keep v)
  pub beyond : (v : ℕ) → z.workers ≤ v → side v ≡ new_side
