-- What comes of lists of numbers, and of their numbers in a range.
use Rattle.std.specs.Prelude.{ℕ, ◌%◌, ◌<◌, ◌≤◌, nat_lt, not, ◌&&◌, ◌==◌, Bool, false, List, [], ◌∷◌, filter, All, count_by}
use Rattle.std.specs.List.{fold, list_all, list_any}
use Rattle.std.specs.FinSet as set
use Rattle.rh_edit.specs.Rising.{rising_keys}
use Rattle.rh_layout.specs.Layout.{Keys}
use Rattle.rh_combine.specs.declared.how.How.{How}
use Rattle.rh_combine.specs.declared.how.How.TheVariants.{Intersect, Union, Subtract, Xor}

-- the set after one list more
abbrev pub with_list : How → Keys → List ℕ → Keys
with_list Intersect S keys = set.intersection S (set.from_list keys)
with_list Union S keys = set.union S (set.from_list keys)
with_list Subtract S keys = set.difference S (set.from_list keys)
with_list Xor S keys = set.union (set.difference S (set.from_list keys)) (set.difference (set.from_list keys) S)

-- what comes of the lists: the numbers of the first one, and then of one list after the other
-- of [1, 9], [9, 9, 4] and [4, 17] Intersect makes no number, Union 1, 4, 9 and 17, Subtract 1, Xor 1 and 17
abbrev pub meant : How → List (List ℕ) → Keys
meant how [] = set.empty
meant how (first ∷ others) = fold (with_list how) (set.from_list first) others

-- in rising order, each once
abbrev pub answer : How → List (List ℕ) → List ℕ
answer how lists = rising_keys (meant how lists)

-- ---- the same of one number, with no set

-- the list has the number
abbrev pub has : List ℕ → ℕ → Bool
has keys k = list_any (λ y. y == k) keys

-- the number is in each list, and there is one; in one list or more; in the first and in no other one; in an odd number of lists
abbrev pub stands_by : How → List (List ℕ) → ℕ → Bool
stands_by Intersect [] k = false
stands_by Intersect (first ∷ others) k = list_all (λ keys. has keys k) (first ∷ others)
stands_by Union lists k = list_any (λ keys. has keys k) lists
stands_by Subtract [] k = false
stands_by Subtract (first ∷ others) k = has first k && not (list_any (λ keys. has keys k) others)
stands_by Xor lists k = (count_by (λ keys. has keys k) lists % 2) == 1

-- ---- ranges

-- each number of each list is `from` or more, and less than `to`
abbrev pub AllWithin : (from to : ℕ) → List (List ℕ) → Type 0
AllWithin from to lists = All (λ (keys : List ℕ). All (λ k. (from ≤ k) × (k < to)) keys) lists
