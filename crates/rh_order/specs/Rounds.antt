-- Rounds of a table, one after the other.
use Rattle.std.specs.Prelude.{ℕ, ◌≡◌, ◌<◌, List, [], ◌++◌, length, slice_index}
use Rattle.rh_world.specs.World.{World}
use Rattle.rh_words.specs.declared.shape.Shape.{Shape}
use Rattle.rh_words.specs.Parts.{cell_count}
use Rattle.rh_words.specs.View.{View, new_view, round_view}
use Rattle.rh_acts.specs.Act.{AllMeet, apply_acts}
use Rattle.rh_acts.specs.Done.{Kept, WereTrue}
use Rattle.rh_acts.specs.Workers.{Made, AreOf, acts_of, own}
use Rattle.rh_order.specs.History.{value_of, kept_of, opening_cells, own_acts_of}
use Rattle.rh_order.specs.Histories.{HistorySpec}
use Rattle.rh_order.specs.OwnActs.{Orderly}

-- what is kept of a worker that has done nothing yet
pub record IsFresh (z : Shape) (v : View) : Type 0 where
  pub acts : own_acts_of v ≡ []
  pub reads : kept_of z v ≡ []
  pub orderly : Orderly v

-- so begins a table, and so begins each further round
abbrev pub RoundsBegin : Type 0
RoundsBegin = (z : Shape) (cells : List ℕ) → ((worker : ℕ) → IsFresh z (new_view cells worker)) × ((v : View) → IsFresh z (round_view cells v))

-- The opening cells are those that the round was begun with, so that the acts go on from where those before it ended.
abbrev pub RoundsFollow : Type 0
RoundsFollow = (w : World) (z : Shape) (keep : ℕ → View) (v : ℕ) (cells : List ℕ) → HistorySpec w z keep → v < z.workers → length cells ≡ cell_count z
    → ((c : ℕ) → c < cell_count z → value_of (slice_index (keep v).opening c) ≡ slice_index cells c) → opening_cells w z ≡ cells

-- what was done first and what was done next, as one list
pub record RoundsSpec (opening : List ℕ) (first next : List Made) : Type 0 where
  pub meet : AllMeet (acts_of first) opening → AllMeet (acts_of next) (apply_acts (acts_of first) opening) → AllMeet (acts_of (first ++ next)) opening
  pub cells : apply_acts (acts_of (first ++ next)) opening ≡ apply_acts (acts_of next) (apply_acts (acts_of first) opening)
  pub workers : (count : ℕ) → AreOf count first → AreOf count next → AreOf count (first ++ next)
  pub acts : (worker : ℕ) → own worker (first ++ next) ≡ own worker first ++ own worker next
  pub reads : (earlier later : List Kept) → WereTrue opening (acts_of first) earlier → WereTrue (apply_acts (acts_of first) opening) (acts_of next) later
      → WereTrue opening (acts_of (first ++ next)) (earlier ++ later)

abbrev pub RoundsJoin : Type 0
RoundsJoin = (opening : List ℕ) (first next : List Made) → RoundsSpec opening first next
