-- The acts of several workers in one list, and what the workers count.
use Rattle.std.specs.Prelude.{ℕ, ◌^◌, ◌<◌, ◌==◌, zero, suc, List, [], ◌∷◌, ◌++◌, length, map, filter, count_by, Bool}
use Rattle.std.specs.List.{Contains, slice_index_or}
use Rattle.std.specs.FinSet as set
use Rattle.rh_layout.specs.Layout.{Keys}
use Rattle.rh_ledger.specs.declared.tally.Kind.{Kind}
use Rattle.rh_ledger.specs.declared.tally.Kind.TheVariants.{Insert, Remove, Ask}
use Rattle.rh_ledger.specs.declared.tally.Tally.{Tally}
use Rattle.rh_ledger.specs.Tally.{sum_of, none_yet, tally_by}
use Rattle.rh_ledger.specs.Phase.{set_after}
use Rattle.rh_acts.specs.Act.{Act}

-- an act and the worker whose it is
pub record Made : Type 0 where
  pub worker : ℕ
  pub act : Act

abbrev pub acts_of : List Made → List Act
acts_of made = map (λ m. m.act) made

-- the acts of worker w, in their order
abbrev pub own : (w : ℕ) (made : List Made) → List Act
own w made = acts_of (filter (λ m. m.worker == w) made)

-- each act is of one of the workers
abbrev pub AreOf : (workers : ℕ) (made : List Made) → Type 0
AreOf workers made = (m : Made) → Contains made m → m.worker < workers

-- the lists of the workers, one after the other
abbrev pub joined : {X : Type 0} → List (List X) → List X
joined [] = []
joined (piece ∷ pieces) = piece ++ joined pieces

-- the list of worker w
abbrev pub piece : {X : Type 0} → List (List X) → (w : ℕ) → List X
piece pieces w = slice_index_or pieces w []

-- how many keys were added, removed or found
abbrev pub how_many : (answers : List Bool) → ℕ
how_many answers = count_by (λ so. so) answers

-- what a worker counts whose keys have these answers
abbrev pub counted : Kind → (answers : List Bool) → Tally
counted kind answers = tally_by kind (length answers) (how_many answers)

-- the tallies of the first n workers, joined
abbrev pub sum_of_all : (tally : ℕ → Tally) (n : ℕ) → Tally
sum_of_all tally zero = none_yet
sum_of_all tally (suc n) = sum_of (sum_of_all tally n) (tally n)

-- where keys are inserted, a cell is free at the end
-- (that two cells are free before each act follows from it)
abbrev pub LeavesRoom : Kind → (b : ℕ) (S : Keys) (keys : List ℕ) → Type 0
LeavesRoom Insert b S keys = set.len (set_after Insert S keys) < 2 ^ b
LeavesRoom Remove b S keys = Unit {0}
LeavesRoom Ask b S keys = Unit {0}
