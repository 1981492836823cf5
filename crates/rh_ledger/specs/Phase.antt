-- A phase: a list of keys that are all inserted, all removed or all looked up, one after the other.
use Rattle.std.specs.Prelude.{ℕ, Bool, if◌then◌else◌, List, [], ◌∷◌, length, map}
use Rattle.std.specs.FinSet as set
use Rattle.std.specs.FinSet.{contains}
use Rattle.rh_layout.specs.Layout.{Keys}
use Rattle.rh_ledger.specs.declared.tally.Kind.{Kind}
use Rattle.rh_ledger.specs.declared.tally.Kind.TheVariants.{Insert, Remove, Ask}
use Rattle.rh_ledger.specs.declared.tally.Tally.{Tally}
use Rattle.rh_ledger.specs.Tally.{sum_of, none_yet}

-- the set after one key
abbrev pub set_with : Kind → Keys → ℕ → Keys
set_with Insert S k = set.insert S k
set_with Remove S k = set.remove S k
set_with Ask S k = S

-- what one key counts for
abbrev pub count_of : Kind → Keys → ℕ → Tally
count_of Insert S k = record none_yet { read = 1; added = if contains S k then 0 else 1 }
count_of Remove S k = record none_yet { read = 1; removed = if contains S k then 1 else 0 }
count_of Ask S k = record none_yet { read = 1; found = if contains S k then 1 else 0 }

abbrev pub set_after : Kind → Keys → List ℕ → Keys
set_after kind S [] = S
set_after kind S (k ∷ keys) = set_after kind (set_with kind S k) keys

-- Insert of [9, 9] into no key: 2 read, 1 added. Ask for [1, 2, 9] in 1, 9 and 17: 3 read, 2 found.
abbrev pub tally_of : Kind → Keys → List ℕ → Tally
tally_of kind S [] = none_yet
tally_of kind S (k ∷ keys) = sum_of (count_of kind S k) (tally_of kind (set_with kind S k) keys)

-- the look-ups, in list order
-- [1, 2, 9] in 1, 9 and 17: [true, false, true]
abbrev pub looked_up : Keys → List ℕ → List Bool
looked_up S keys = map (contains S) keys

-- how many keys the phase may add at most
abbrev pub most_added : Kind → List ℕ → ℕ
most_added Insert keys = length keys
most_added Remove keys = 0
most_added Ask keys = 0
