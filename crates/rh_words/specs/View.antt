-- What is kept of a worker: what it has done and knows, its own rows, and how far a wipe is.
use Rattle.std.specs.Prelude.{ℕ, Option, None, List, []}
use Rattle.rh_world.specs.World.{Ref}
use Rattle.rh_world.specs.Sides.{Side, new_side}
use Rattle.rh_layout.specs.declared.entry.Entry.{Entry}

-- a descriptor that the worker opened: its number and its entries
pub record OwnDesc : Type 0 where
  pub number : ℕ
  pub entries : List Entry

-- a word that the worker wrote into its rows: its number among their words, and the word
pub record Written : Type 0 where
  pub row : ℕ
  pub word : ℕ

-- a word that was read in the row of a descriptor: what it says is so of the descriptor only where the row's serial number,
-- read after it, is still the descriptor's
pub data RowWord : Type 0 where
  length_word : (word : ℕ) → RowWord
  cell_word old_word new_word : (entry word : ℕ) → RowWord

pub record RawRow : Type 0 where
  pub desc : Ref
  pub word : RowWord

-- a word that was read in the row of a mark: what it says is so of the mark only where the row's serial number, read after
-- it, is still the mark's
pub data MarkWord : Type 0 where
  desc_word entry_word : (word : ℕ) → MarkWord

pub record Raw : Type 0 where
  pub mark : Ref
  pub word : MarkWord

-- a wipe that is under way: the words of the cells, and how many row words are cleared
pub record Wiping : Type 0 where
  pub cells : List ℕ
  pub cleared : ℕ

-- of opened, written and what was read the newest stands first
pub record View : Type 0 where
  pub worker : ℕ
  -- the words of the cells when the round began
  pub opening : List ℕ
  -- what it has done and knows. How many acts there were no worker knows, nor what no word tells: in what it keeps these are 0.
  pub side : Side
  -- the serial number of its next descriptor, the own control word as it was last seen, and how many marks it used up
  pub next_number : ℕ
  pub control : ℕ
  pub marks_used : ℕ
  pub opened : List OwnDesc
  pub written : List Written
  pub raw_rows : List RawRow
  pub raw : List Raw
  pub wiping : Option Wiping

-- its descriptor of this number
abbrev pub own_ref : View → (number : ℕ) → Ref
own_ref v number = record { worker = v.worker; number = number }

-- what is kept of a worker when a table is made with these cells, which are given as words
abbrev pub new_view : (cells : List ℕ) → (worker : ℕ) → View
new_view cells worker = record {
  worker = worker;
  opening = cells;
  side = new_side;
  next_number = 0;
  control = 0;
  marks_used = 0;
  opened = [];
  written = [];
  raw_rows = [];
  raw = [];
  wiping = None;
}

-- what is kept of a worker when a round begins with these cells: all is new but the numbers that its Claims found
abbrev pub round_view : (cells : List ℕ) → View → View
round_view cells v = record {
  worker = v.worker;
  opening = cells;
  side = record new_side { claims = v.side.claims };
  next_number = 0;
  control = 0;
  marks_used = 0;
  opened = [];
  written = [];
  raw_rows = [];
  raw = [];
  wiping = None;
}
