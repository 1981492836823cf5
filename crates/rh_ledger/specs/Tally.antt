-- Sums of tallies.
use Rattle.std.specs.Prelude.{ℕ, ◌+◌, ◌^◌, ◌<◌}
use Rattle.rh_ledger.specs.declared.tally.Kind.{Kind}
use Rattle.rh_ledger.specs.declared.tally.Kind.TheVariants.{Insert, Remove, Ask}
use Rattle.rh_ledger.specs.declared.tally.Tally.{Tally}

abbrev pub sum_of : Tally → Tally → Tally
sum_of a b = record { read = a.read + b.read; added = a.added + b.added; removed = a.removed + b.removed; found = a.found + b.found }

abbrev pub none_yet : Tally
none_yet = record { read = 0; added = 0; removed = 0; found = 0 }

-- so many keys read, and so many of them added
abbrev pub added_of : (read added : ℕ) → Tally
added_of read added = record none_yet { read = read; added = added }

-- so many keys read, and so many of them removed
abbrev pub removed_of : (read removed : ℕ) → Tally
removed_of read removed = record none_yet { read = read; removed = removed }

-- what is counted of so many keys, of which so many were added, removed or found
abbrev pub tally_by : Kind → (read changed : ℕ) → Tally
tally_by Insert read changed = added_of read changed
tally_by Remove read changed = removed_of read changed
tally_by Ask read changed = record none_yet { read = read; found = changed }

abbrev Fits : ℕ → Type 0
Fits n = n < 2 ^ 64

-- each count fits its type
abbrev pub FitsTally : Tally → Type 0
FitsTally t = Fits t.read × Fits t.added × Fits t.removed × Fits t.found
