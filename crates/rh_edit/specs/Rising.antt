-- The keys of a set in rising order.
use Rattle.std.specs.Prelude.{ℕ, List, [], ◌∷◌}
use Rattle.std.specs.Ordering.{nat_cmp}
use Rattle.std.specs.BTreeSet.{insert_key}
use Rattle.std.specs.FinSet as set
use Rattle.rh_layout.specs.Layout.{Keys}

-- the numbers of a list, each once and put before the greater ones
abbrev pub inserted_at_order : List ℕ → List ℕ
inserted_at_order [] = []
inserted_at_order (k ∷ ks) = insert_key nat_cmp (inserted_at_order ks) k

-- The keys of a set in rising order. Of the order of a set's `items` the library says nothing.
unfoldable pub rising_keys : Keys → List ℕ
rising_keys S = inserted_at_order (set.items S)
