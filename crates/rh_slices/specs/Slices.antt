-- What is put into a slice of what comes of lists, and why nothing is.
use Rattle.std.specs.Prelude.{◌≡◌, ℕ, ◌<◌, List, [], length, get_or, take, drop, slice_get, Some, All}
use Rattle.rh_layout.specs.Key.{IsKey}
use Rattle.rh_layout.specs.Range.{within}
use Rattle.rh_layout.specs.declared.limits.TheConstants.{MAX_KEY}
use Rattle.rh_combine.specs.Combine.{answer}
use Rattle.rh_combine.specs.declared.how.How.{How}
use Rattle.rh_slices.specs.declared.refused.Refused.{Refused}
use Rattle.rh_slices.specs.declared.refused.Refused.TheVariants.{NotAKey, NoRoom, Memory}

-- all numbers of the lists are keys
abbrev pub AreKeys : List (List ℕ) → Type 0
AreKeys lists = All (λ (numbers : List ℕ). All IsKey numbers) lists

-- so many numbers come of the lists; they stand at the front, and behind them what stood there
pub record IsPut (how : How) (lists : List (List ℕ)) (old new : List ℕ) (count : ℕ) : Type 0 where
  pub keys : AreKeys lists
  pub count_is : count ≡ length (answer how lists)
  pub front : take count new ≡ answer how lists
  pub rest : drop count new ≡ drop count old

-- the number at this place is no key, and those before it are
pub record IsFirstBad (numbers : List ℕ) (at : ℕ) : Type 0 where
  pub number : ℕ
  pub stands : slice_get numbers at ≡ Some number
  pub bad : MAX_KEY < number
  pub before : All IsKey (take at numbers)

-- the first bad number of the lists stands at this place of this list
pub record IsFirstOf (lists : List (List ℕ)) (list at : ℕ) : Type 0 where
  pub there : list < length lists
  pub first : IsFirstBad (get_or lists list []) at
  pub before : AreKeys (take list lists)

-- Why nothing is put into a slice of this length. Of want of memory nothing is said.
abbrev pub IsWhy : How → List (List ℕ) → (room : ℕ) → Refused → Type 0
IsWhy how lists room (NotAKey list at) = IsFirstOf lists list at
IsWhy how lists room (NoRoom count) = AreKeys lists × (count ≡ length (answer how lists)) × (room < count)
IsWhy how lists room Memory = AreKeys lists

-- so many numbers of the list lie in the range; they stand at the front, and behind them what stood there
pub record IsCut (from to : ℕ) (list old new : List ℕ) (count : ℕ) : Type 0 where
  pub count_is : count ≡ length (within from to list)
  pub front : take count new ≡ within from to list
  pub rest : drop count new ≡ drop count old

-- more numbers of the list lie in the range than a slice of this length takes
pub record AreTooMany (from to : ℕ) (list : List ℕ) (room : ℕ) (why : Refused) : Type 0 where
  pub is : why ≡ NoRoom (length (within from to list))
  pub more : room < length (within from to list)
