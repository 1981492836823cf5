-- The tables that lists are met by: their room, and their size.
use Rattle.std.specs.Prelude.{ℕ, ◌≡◌, ◌+◌, ◌*◌, ◌^◌, ◌<◌, ◌≤◌, List, length, min}
use Rattle.std.specs.FinSet as set
use Rattle.rh_grow.specs.Growth.{IsCapacity}
use Rattle.rh_layout.specs.Layout.{Keys}
use Rattle.rh_layout.specs.declared.limits.TheConstants.{MIN_BITS}
use Rattle.rh_combine.specs.Combine.{with_list}
use Rattle.rh_combine.specs.declared.how.How.{How}
use Rattle.rh_combine.specs.declared.how.How.TheVariants.{Intersect, Union, Subtract, Xor}

-- a table of this size takes all numbers of the list beside those of the set, and a cell stays free
abbrev pub HasRoom : (bits : ℕ) → Keys → List ℕ → Type 0
HasRoom bits S keys = set.len (with_list Union S keys) + 1 < 2 ^ bits

-- no more than so many different numbers stand in the set and in the list
abbrev pub HasAtMost : (most : ℕ) → Keys → List ℕ → Type 0
HasAtMost most S keys = set.len (with_list Union S keys) ≤ most

-- for how many numbers the table of the first list is made, which has so many: for twice as many, or for all where other lists add to it
abbrev pub first_count : How → (most many : ℕ) → ℕ
first_count Intersect most many = min most (2 * many)
first_count Union most many = most
first_count Subtract most many = min most (2 * many)
first_count Xor most many = most

-- where the other lists add to it, a table of this size takes so many numbers
abbrev pub TakesLater : How → (most bits : ℕ) → Type 0
TakesLater Intersect most bits = Unit {0}
TakesLater Union most bits = most + 1 < 2 ^ bits
TakesLater Subtract most bits = Unit {0}
TakesLater Xor most bits = most + 1 < 2 ^ bits

-- the size of the table after one list more: the least for the lesser of both where both are met, and else as it was
abbrev pub IsSizedAfter : How → (old : ℕ) → Keys → List ℕ → (bits : ℕ) → Type 0
IsSizedAfter Intersect old S keys bits = IsCapacity MIN_BITS (min (set.len S) (length keys)) bits
IsSizedAfter Union old S keys bits = bits ≡ old
IsSizedAfter Subtract old S keys bits = bits ≡ old
IsSizedAfter Xor old S keys bits = bits ≡ old
