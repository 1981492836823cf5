-- What the words of a table tell, with what its workers noted: what its cells stand for and what they hold, which descriptors
-- are acts, and that its rows were wiped.
use Rattle.std.specs.Prelude.{ℕ, zero, suc, ◌+◌, ◌≡◌, ◌<◌, ◌≤◌, ◌⊎◌, ◌==◌, ◌||◌, Bool, cond, Some, List, filter, length, map, reverse, slice_index}
use Rattle.rh_world.specs.World.{Cell, In, Ref}
use Rattle.rh_world.specs.World.Cell.{plain, mark, desc}
use Rattle.rh_world.specs.World.Control.{succeeded}
use Rattle.rh_world.specs.Facts.Fact.{desc_is, found}
use Rattle.rh_world.specs.Sides.{Side}
use Rattle.rh_words.specs.declared.shape.Shape.{Shape}
use Rattle.rh_words.specs.declared.shape.Part.TheVariants as part
use Rattle.rh_words.specs.Parts.{cell_count}
use Rattle.rh_words.specs.View.{View, own_ref}
use Rattle.rh_words.specs.Words.{cell_in, control_word_of}
use Rattle.rh_words.specs.Steps.{IsDesc, IsMark}
use Rattle.rh_rule.specs.Represents.{HasItsRow, word_at}
use Rattle.rh_rule.specs.Rest.{is_noted_success}
use Rattle.rh_rule.specs.Wipes.{row_total}
use Rattle.rh_acts.specs.Act.{Act}
use Rattle.rh_order.specs.History.{act_of, cells_of, value_of}
use Rattle.rh_order.specs.Known.{NotesOld}

-- ---- what a cell stands for

-- whether the control word of its worker says that the descriptor succeeded
abbrev pub has_succeeded : Shape → (words : List ℕ) → Ref → Bool
has_succeeded z words d = word_at z words (part.Control d.worker) == control_word_of d.number succeeded

-- of an entry's two values in the row of d the one that counts
abbrev pub value_in : Shape → (words : List ℕ) → Ref → (e : ℕ) → ℕ
value_in z words d e =
    cond (has_succeeded z words d) (word_at z words (part.EntryNew d.worker e)) (word_at z words (part.EntryOld d.worker e))

-- the value of the entry for cell c among the first n entries in the row: 0 where none is for it
abbrev pub entry_for : Shape → (words : List ℕ) → Ref → (c n : ℕ) → ℕ
entry_for z words d c zero = 0
entry_for z words d c (suc n) = cond (word_at z words (part.EntryCell d.worker n) == c) (value_in z words d n) (entry_for z words d c n)

-- the old value of the entry that mark x is for, as its worker noted it
pub record MarkStandsFor (keep : ℕ → View) (c : ℕ) (x : Ref) (word : ℕ) : Type 0 where
  pub desc : Ref
  pub names : In (desc_is x desc) (keep x.worker).side.facts
  pub old : NotesOld (keep x.worker).side desc c word

-- the value of the entry of d for the cell, where d has its row
pub record RowStandsFor (z : Shape) (words : List ℕ) (c : ℕ) (d : Ref) (word : ℕ) : Type 0 where
  pub row : HasItsRow z words d
  pub value : entry_for z words d c (word_at z words (part.Length d.worker)) ≡ word

-- Where it is stale, the old value, as a worker noted it: a descriptor that succeeded stands in no cell then.
pub record StaleStandsFor (z : Shape) (words : List ℕ) (keep : ℕ → View) (c : ℕ) (d : Ref) (word : ℕ) : Type 0 where
  pub gone : HasItsRow z words d → ⊥
  pub worker : ℕ
  pub within : worker < z.workers
  pub old : NotesOld (keep worker).side d c word

-- what a cell with this stands for: a plain word for itself, a mark for the old value of its entry, and a descriptor for the
-- value of its entry for the cell
-- A cell with descriptor 0 of worker 0, whose entry takes it from 0 to 8, stands for 0 before the decision and for 8, key 1,
-- after it.
abbrev pub WordStandsFor : Shape → (words : List ℕ) → (keep : ℕ → View) → (c : ℕ) → Cell → (word : ℕ) → Type 0
WordStandsFor z words keep c (plain u) word = u ≡ word
WordStandsFor z words keep c (mark x) word = MarkStandsFor keep c x word
WordStandsFor z words keep c (desc d) word = RowStandsFor z words c d word ⊎ StaleStandsFor z words keep c d word

-- cell c stands for this word
abbrev pub IsLogicalWord : Shape → (words : List ℕ) → (keep : ℕ → View) → (c word : ℕ) → Type 0
IsLogicalWord z words keep c word = WordStandsFor z words keep c (cell_in (slice_index words c)) word

-- each cell of the table stands for a word, and these are the values of the words
pub record AreNow (z : Shape) (words : List ℕ) (keep : ℕ → View) (cells : List ℕ) : Type 0 where
  pub size : length cells ≡ cell_count z
  pub stands : (c : ℕ) → c < cell_count z → (word : ℕ) × IsLogicalWord z words keep c word
  pub values : (c word : ℕ) → c < cell_count z → IsLogicalWord z words keep c word → slice_index cells c ≡ value_of word

-- ---- where the words lead

-- mark x is unsettled, and whatever was noted of it is of this descriptor and of this cell
pub record MarkIsFor (s : Side) (x d : Ref) (c : ℕ) : Type 0 where
  pub unsettled : s.unsettled ≡ Some x.number
  pub desc : (f : Ref) → In (desc_is x f) s.facts → f ≡ d
  pub cell : (b : ℕ) → In (found x b) s.facts → b ≡ c

-- a worker holds d in cell c: it owes d there, or its unsettled mark is for it
abbrev pub HoldsCell : Side → (who : ℕ) → (d : Ref) → (c : ℕ) → Type 0
HoldsCell s who d c = In (record { desc = d; cell = c }) s.debts ⊎ ((n : ℕ) × MarkIsFor s (record { worker = who; number = n }) d c)

-- a mark is one of the table, and its worker has not settled it
pub record MarkLeads (z : Shape) (keep : ℕ → View) (c : ℕ) (x : Ref) : Type 0 where
  pub is_mark : IsMark z x
  pub desc : Ref
  pub is_for : MarkIsFor (keep x.worker).side x desc c

-- A descriptor is one of the table. Its row, where it has it, says entries that have places; else a worker of the table holds it.
pub record DescLeads (z : Shape) (words : List ℕ) (keep : ℕ → View) (c : ℕ) (d : Ref) : Type 0 where
  pub is_desc : IsDesc z d
  pub entries : HasItsRow z words d → word_at z words (part.Length d.worker) ≤ cell_count z
  pub held : (HasItsRow z words d → ⊥) → (v : ℕ) × (v < z.workers) × HoldsCell (keep v).side v d c

-- What stands in cell c is a plain word, or leads to a row that the table has or to a worker that holds it.
abbrev pub LeadsInside : Shape → (words : List ℕ) → (keep : ℕ → View) → (c : ℕ) → Cell → Type 0
LeadsInside z words keep c (plain u) = Unit {0}
LeadsInside z words keep c (mark x) = MarkLeads z keep c x
LeadsInside z words keep c (desc d) = DescLeads z words keep c d

-- ---- what the cells hold

-- the values of their words
abbrev pub cells_held : Shape → (words : List ℕ) → List ℕ
cells_held z words = cells_of z (slice_index words)

-- ---- a wipe

-- the row words are 0, and the cells and the counter are as they were
pub record IsWiped (z : Shape) (words then : List ℕ) : Type 0 where
  pub size : length then ≡ length words
  pub cells : (c : ℕ) → c < cell_count z → slice_index then c ≡ slice_index words c
  pub rows : (i : ℕ) → i < row_total z → slice_index then (cell_count z + i) ≡ 0
  pub counter : word_at z then part.Counter ≡ word_at z words part.Counter

-- ---- acts

-- of the descriptors that a worker opened in this round those that succeeded, as acts, the oldest first: the control word says
-- so of the newest, and the worker noted it of those before
abbrev pub succeeded_now : Shape → (words : List ℕ) → View → List Act
succeeded_now z words v =
    reverse (map (λ o. act_of o.entries) (filter (λ o. has_succeeded z words (own_ref v o.number) || is_noted_success v.side.facts (own_ref v o.number)) v.opened))
