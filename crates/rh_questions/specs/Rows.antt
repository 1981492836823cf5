-- Numbers, and the lists in which each stands.
use Rattle.std.specs.Prelude.{◌≡◌, ℕ, ◌+◌, ◌-◌, ◌^◌, ◌<◌, ◌≤◌, ◌==◌, cond, Bool, List, [], ◌∷◌, All, length, map, slice_index_or, sum_by}
use Rattle.std.specs.List.Sorted.{IsStrictlyIncreasing}
use Rattle.rh_layout.specs.Key.{IsKey}
use Rattle.rh_combine.specs.Combine.{has}
use Rattle.rh_questions.specs.declared.rows.Row.{Row}

-- the numbers of a list, each once, in rising order
pub record AreNumbersOf (keys numbers : List ℕ) : Type 0 where
  pub order : IsStrictlyIncreasing numbers
  pub same : (k : ℕ) → has numbers k ≡ has keys k
  pub in_range : All IsKey numbers

-- a number that stands in these lists
abbrev pub row_in : (lists number : ℕ) → Row
row_in lists number = record { number = number; lists = lists }

-- the lists that rows have for a number: none where it has no row
abbrev pub lists_of : List Row → ℕ → ℕ
lists_of rows k = sum_by (λ r. cond (r.number == k) r.lists 0) rows

-- a row for each number, in rising order, each with some list
pub record Rise (rows : List Row) : Type 0 where
  pub order : IsStrictlyIncreasing (map (λ r. r.number) rows)
  pub in_range : All (λ r. IsKey r.number) rows
  pub some : All (λ r. 0 < r.lists) rows

-- the rows of numbers of which these are the lists
pub record AreRows (lists : ℕ → ℕ) (rows : List Row) : Type 0 where
  pub rise : Rise rows
  pub each : (k : ℕ) → lists_of rows k ≡ lists k

-- the row at this place; behind the last one a number above all, in no list
pub record IsHead (rows : List Row) (at : ℕ) (row : Row) : Type 0 where
  pub there : at < length rows → (d : Row) → row ≡ slice_index_or rows at d
  pub behind : length rows ≤ at → (row.number ≡ 2 ^ 64 - 1) × (row.lists ≡ 0)

-- a row as a number in binary digits, from this digit on
abbrev pub coded : (digit : ℕ) → List Bool → ℕ
coded digit [] = 0
coded digit (b ∷ row) = cond b (2 ^ digit) 0 + coded (digit + 1) row
