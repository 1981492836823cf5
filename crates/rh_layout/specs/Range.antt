-- The keys from one up to before another.
use Rattle.std.specs.Prelude.{ℕ, nat_lt, not, ◌&&◌, Bool, List, filter}

abbrev pub stands : (from to key : ℕ) → Bool
stands from to key = not (nat_lt key from) && nat_lt key to

-- the numbers of a list that are `from` or more and less than `to`, in the list's order
abbrev pub within : (from to : ℕ) → List ℕ → List ℕ
within from to keys = filter (stands from to) keys
