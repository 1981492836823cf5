-- A list that the workers share out by its positions, and keys that are done in several rounds.
use Rattle.std.specs.Prelude.{◌≡◌, ◌≢◌, ℕ, ◌<◌, List, ◌++◌, length, slice_index, map}
use Rattle.std.specs.List.{Contains, AllPairs}
use Rattle.rh_acts.specs.Workers.{piece}

-- Each position of a list of this length was claimed by one worker and once, and no other position was.
pub record IsSharedOut (count : ℕ) (claims : List (List ℕ)) : Type 0 where
  pub all : (i : ℕ) → i < count → (w : ℕ) × (w < length claims) × Contains (piece claims w) i
  pub below : (w i : ℕ) → w < length claims → Contains (piece claims w) i → i < count
  pub one_worker : (u w i : ℕ) → u < length claims → w < length claims → Contains (piece claims u) i → Contains (piece claims w) i → u ≡ w
  pub once : (w : ℕ) → w < length claims → AllPairs (λ i j. i ≢ j) (piece claims w)

-- the keys at the positions that each worker claimed
abbrev pub pieces_at : (keys : List ℕ) (claims : List (List ℕ)) → List (List ℕ)
pieces_at keys claims = map (map (slice_index keys)) claims

-- each worker's list is what it did first and then what it did next
pub record AreSplit (pieces first next : List (List ℕ)) : Type 0 where
  pub first_size : length first ≡ length pieces
  pub next_size : length next ≡ length pieces
  pub split : (w : ℕ) → w < length pieces → piece pieces w ≡ piece first w ++ piece next w
