-- The acts that put a key in, take it out, or show that it is not there. Each is an act on a front of the table from the
-- key's home on. (own; what becomes of the front is Celis's insertion, and the usual backward shift)
use Rattle.std.specs.Prelude.{ℕ, ◌+◌, ◌^◌, ◌<◌, ◌≤◌, ◌≡◌, ◌⊎◌, List, length, slice_index}
use Rattle.std.specs.List.{Contains}
use Rattle.rh_layout.specs.Round.{cell_ahead}
use Rattle.rh_layout.specs.Key.{IsKey, cell_of}
use Rattle.rh_layout.specs.Order.{home_of}
use Rattle.rh_probe.specs.Look.{Finds}
use Rattle.rh_probe.specs.Segment.{IsFirstFree, IsFirstStop}
use Rattle.rh_probe.specs.declared.answer.Look.TheVariants.{Here, Goes}
use Rattle.rh_edit.specs.News.{inserted_at, shifted_back}
use Rattle.rh_layout.specs.declared.entry.Entry.{Entry}
use Rattle.rh_acts.specs.Act.{entry, Act, IsRising}

-- The entries take the cells from cell h on, in a circle of n, from `olds` to `news`. This is said by membership: where
-- the front goes round the end, the order of its offsets is not that of its cells.
pub record IsFrontAct (n h : ℕ) (act : Act) (olds news : List ℕ) : Type 0 where
  pub rising : IsRising act
  pub room : length olds ≤ n
  pub has : (p : ℕ) → p < length olds → Contains act (entry (cell_ahead n h p) (slice_index olds p) (slice_index news p))
  pub only : (e : Entry) → Contains act e → (p : ℕ) × (p < length olds) × (e ≡ entry (cell_ahead n h p) (slice_index olds p) (slice_index news p))

-- The act puts k in: `seen` is what it finds from the home of k to the first empty cell from where k goes.
-- In the table of 1, of 3 bits, that of 9 has the entries 4: 2 to 2 and 5: 0 to 10.
pub record PutsIn (b k : ℕ) (seen : List ℕ) (act : Act) : Type 0 where
  pub key : IsKey k
  pub offset : ℕ
  pub last : ℕ
  pub goes : Finds b k seen (Goes offset)
  pub free : IsFirstFree seen offset last
  pub ends : last + 1 ≡ length seen
  pub front : IsFrontAct (2 ^ b) (home_of b k) act seen (inserted_at (cell_of k) seen offset)

-- The act takes k out: `seen` is what it finds from the home of k to the first stop after k.
-- In the table of 8, 16, 21 and 5 that of 8 has the entries 0: 17 to 22, 1: 22 to 6, 2: 6 to 0, 3: 0 to 0 and 7: 9 to 17; the
-- front begins at cell 7.
pub record TakesOut (b k : ℕ) (seen : List ℕ) (act : Act) : Type 0 where
  pub offset : ℕ
  pub last : ℕ
  pub here : Finds b k seen (Here offset)
  pub stop : IsFirstStop b (home_of b k) seen offset last
  pub ends : last + 1 ≡ length seen
  pub front : IsFrontAct (2 ^ b) (home_of b k) act seen (shifted_back seen offset)

-- The act changes nothing: `seen` is what it finds from the home of k to the offset that shows that k is not there.
-- In the table of 1, 9 and 17 that of 22 has the cells 4 to 7.
pub record ShowsAbsent (b k : ℕ) (seen : List ℕ) (act : Act) : Type 0 where
  pub offset : ℕ
  pub goes : Finds b k seen (Goes offset)
  pub ends : offset + 1 ≡ length seen
  pub front : IsFrontAct (2 ^ b) (home_of b k) act seen seen

abbrev pub IsInsertAct : (b k : ℕ) (act : Act) → Type 0
IsInsertAct b k act = (seen : List ℕ) × PutsIn b k seen act

abbrev pub IsRemoveAct : (b k : ℕ) (act : Act) → Type 0
IsRemoveAct b k act = (seen : List ℕ) × TakesOut b k seen act

abbrev pub IsAbsenceAct : (b k : ℕ) (act : Act) → Type 0
IsAbsenceAct b k act = (seen : List ℕ) × ShowsAbsent b k seen act

-- the act of a removal: it takes k out, or shows that it is not there
abbrev pub IsRemovalAct : (b k : ℕ) (act : Act) → Type 0
IsRemovalAct b k act = IsRemoveAct b k act ⊎ IsAbsenceAct b k act
