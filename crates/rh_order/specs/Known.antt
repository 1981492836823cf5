-- What a worker knows of the cells that it holds: that of its unsettled mark, and those that it owes.
use Rattle.std.specs.Prelude.{ℕ, ◌≡◌, Some}
use Rattle.rh_world.specs.World.{In, Ref}
use Rattle.rh_world.specs.Facts.Fact.{target_is, old_is, desc_is, found}
use Rattle.rh_world.specs.Sides.{Side}
use Rattle.rh_world.specs.Moves.{MayWork}

-- entry e of d is noted, with its cell and its old value
pub record NotesEntry (s : Side) (d : Ref) (e c word : ℕ) : Type 0 where
  pub work : MayWork s d e
  pub cell : In (target_is d e c) s.facts
  pub old : In (old_is d e word) s.facts

-- the old value of the entry of d for cell c is noted
abbrev pub NotesOld : Side → (d : Ref) → (c word : ℕ) → Type 0
NotesOld s d c word = (e : ℕ) × NotesEntry s d e c word

-- mark x is noted as one for d, with the cell where it was found and the old value for that cell
pub record NotesMark (s : Side) (x d : Ref) : Type 0 where
  pub cell : ℕ
  pub word : ℕ
  pub names : In (desc_is x d) s.facts
  pub met : In (found x cell) s.facts
  pub old : NotesOld s d cell word

-- A worker knows of its unsettled mark what it is for, and of each cell that it owes the mark which it found there.
pub record KnowsHeld (s : Side) (who : ℕ) : Type 0 where
  pub unsettled : (n : ℕ) → s.unsettled ≡ Some n → (d : Ref) × NotesMark s (record { worker = who; number = n }) d
  pub debts : (d : Ref) (c : ℕ) → In (record { desc = d; cell = c }) s.debts → (x : Ref) × In (found x c) s.facts × NotesMark s x d
