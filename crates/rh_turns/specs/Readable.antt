-- That what a cell stands for can be read off the words of a table, and off what its workers hold.
use Rattle.std.specs.Prelude.{◌≡◌, ℕ, ◌<◌, List, [], length, slice_index, slice_index_or, All}
use Rattle.rh_world.specs.World.{Ref}
use Rattle.rh_words.specs.declared.shape.Shape.{Shape}
use Rattle.rh_words.specs.View.{View, new_view}
use Rattle.rh_words.specs.Words.{IsPlain, cell_in}
use Rattle.rh_order.specs.History.{value_of}
use Rattle.rh_order.specs.Known.{NotesOld}
use Rattle.rh_order.specs.Words.{HoldsCell, IsLogicalWord, LeadsInside}
use Rattle.rh_worker.specs.Worker.{IsWorker}
use Rattle.rh_turns.specs.declared.hand.Hand.{Hand}
use Rattle.rh_turns.specs.Hands.{view_of}
use Rattle.rh_turns.specs.Game.{at_hand}

-- what is kept of the worker of each number
abbrev pub views_of : List Hand → (v : ℕ) → View
views_of = at_hand view_of (new_view [] 0)

-- each is a worker of a table, and has its number
pub record AreWorkers (hands : List Hand) : Type 0 where
  pub each : All (λ h. (z : Shape) × IsWorker z h.worker) hands
  pub numbered : (v : ℕ) (other : Hand) → v < length hands → (view_of (slice_index_or hands v other)).worker ≡ v

-- of cell c
pub record IsReadable (z : Shape) (words : List ℕ) (keep : ℕ → View) (c : ℕ) : Type 0 where
  pub reads : LeadsInside z words keep c (cell_in (slice_index words c))
  pub value : (word : ℕ) → IsLogicalWord z words keep c word → IsPlain word

-- the cell stands for this value
pub record IsValueOf (z : Shape) (words : List ℕ) (keep : ℕ → View) (c value : ℕ) : Type 0 where
  pub word : ℕ
  pub stands : IsLogicalWord z words keep c word
  pub is : value ≡ value_of word

-- of n workers one holds d in cell c
abbrev pub HasHolder : (n : ℕ) → (keep : ℕ → View) → (d : Ref) → (c : ℕ) → Type 0
HasHolder n keep d c = (v : ℕ) × (v < n) × HoldsCell (keep v).side v d c

-- and noted the old value of its entry for the cell
abbrev pub HasNoted : (n : ℕ) → (keep : ℕ → View) → (d : Ref) → (c word : ℕ) → Type 0
HasNoted n keep d c word = (v : ℕ) × (v < n) × NotesOld (keep v).side d c word
