-- How a worker does the keys of its list, by acts of its own and by words that it read, and the answer of each.
use Rattle.std.specs.Prelude.{ℕ, ◌^◌, ◌<◌, ◌≤◌, ◌≡◌, ◌⊎◌, List, [], ◌∷◌, ◌++◌, length, slice_index, Bool, true, false}
use Rattle.std.specs.List.{Contains}
use Rattle.rh_layout.specs.Round.{cell_ahead}
use Rattle.rh_layout.specs.Key.{cell_of}
use Rattle.rh_layout.specs.Order.{home_of}
use Rattle.rh_probe.specs.Look.{Finds}
use Rattle.rh_probe.specs.declared.answer.Look.TheVariants.{Here, Goes}
use Rattle.rh_ledger.specs.declared.tally.Kind.{Kind}
use Rattle.rh_ledger.specs.declared.tally.Kind.TheVariants.{Insert, Remove, Ask}
use Rattle.rh_acts.specs.Act.{Act, WasWord}
use Rattle.rh_acts.specs.KeyActs.{IsInsertAct, IsRemoveAct, IsAbsenceAct}

-- what a cell held when a worker read it
pub record Kept : Type 0 where
  pub cell : ℕ
  pub value : ℕ

abbrev pub kept : (cell value : ℕ) → Kept
kept c v = record { cell = c; value = v }

-- each cell that was read held the value after some first n acts
abbrev pub WereTrue : (opening : List ℕ) (acts : List Act) (reads : List Kept) → Type 0
WereTrue opening acts reads = (r : Kept) → Contains reads r → WasWord opening acts r.cell r.value

-- The look-up of k is decided by what was read from its home on.
pub record IsAsked (b : ℕ) (reads : List Kept) (k : ℕ) (answer : Bool) : Type 0 where
  pub seen : List ℕ
  pub room : length seen ≤ 2 ^ b
  pub read : (p : ℕ) → p < length seen → Contains reads (kept (cell_ahead (2 ^ b) (home_of b k) p) (slice_index seen p))
  pub tells : ((answer ≡ true) × ((i : ℕ) × Finds b k seen (Here i))) ⊎ ((answer ≡ false) × ((i : ℕ) × Finds b k seen (Goes i)))

-- An act does a key, and changes a cell or does not. A key is inserted by the act that puts it in; it is removed by the
-- act that takes it out, or by the one that shows that it is not there. To ask for a key no act is made.
abbrev pub Does : Kind → (b k : ℕ) → (changes : Bool) → Act → Type 0
Does Insert b k true act = IsInsertAct b k act
Does Insert b k false act = ⊥
Does Remove b k true act = IsRemoveAct b k act
Does Remove b k false act = IsAbsenceAct b k act
Does Ask b k changes act = ⊥

-- What was read tells it: the key that is to be inserted is there, or the key that is asked for is there or is not.
abbrev pub IsAsRead : Kind → (b : ℕ) (reads : List Kept) (k : ℕ) (answer : Bool) → Type 0
IsAsRead Insert b reads k answer = (answer ≡ false) × ((c : ℕ) × Contains reads (kept c (cell_of k)))
IsAsRead Remove b reads k answer = ⊥
IsAsRead Ask b reads k answer = IsAsked b reads k answer

-- A key is done by one own act, and its answer is whether this changes a cell.
pub record IsByAct (kind : Kind) (b k : ℕ) (acts : List Act) (answer : Bool) : Type 0 where
  pub act : Act
  pub only : acts ≡ act ∷ []
  pub does : Does kind b k answer act

-- A key is done by no act: what was read tells it.
pub record IsByRead (kind : Kind) (b : ℕ) (reads : List Kept) (k : ℕ) (acts : List Act) (answer : Bool) : Type 0 where
  pub none : acts ≡ []
  pub tells : IsAsRead kind b reads k answer

-- How one key is done, and its answer, which is whether it was added, removed or found.
abbrev pub KeyDone : Kind → (b : ℕ) (reads : List Kept) (k : ℕ) (acts : List Act) (answer : Bool) → Type 0
KeyDone kind b reads k acts answer = IsByAct kind b k acts answer ⊎ IsByRead kind b reads k acts answer

-- each key in turn, by the next own acts, and with the next answer
abbrev pub IsDone : Kind → (b : ℕ) (reads : List Kept) (keys : List ℕ) (acts : List Act) (answers : List Bool) → Type 0
IsDone kind b reads [] acts answers = (acts ≡ []) × (answers ≡ [])
IsDone kind b reads (k ∷ keys) acts answers =
    (first rest : List Act) × (so : Bool) × (later : List Bool) × (acts ≡ first ++ rest) × (answers ≡ so ∷ later)
    × KeyDone kind b reads k first so × IsDone kind b reads keys rest later
