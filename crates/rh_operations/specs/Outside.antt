-- What an operation has outside itself at one moment: a shelf, and a runner of phases.
use Rattle.std.specs.Prelude.{ℕ}
use Rattle.rh_shelf.specs.Shelf.{ShelfState}

-- what is known of the shelf, and how often the start of a thread was refused
pub record Outside : Type 0 where
  pub shelf : ShelfState
  pub refused_starts : ℕ

abbrev pub outside : {S N : Type 0} → (state : S → ShelfState) → (refused_starts : N → ℕ) → S → N → Outside
outside state refused_starts shelf runner = record { shelf = state shelf; refused_starts = refused_starts runner }
