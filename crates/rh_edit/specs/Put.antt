-- A value put into a circle of n cells, where `old` and `new` give what each cell holds.
use Rattle.std.specs.Prelude.{ℕ, ◌+◌, ◌<◌, ◌≤◌, ◌≡◌, List, length, slice_index}
use Rattle.rh_layout.specs.Round.{steps_round, IsNext}

-- `new` is `old` with k put in i steps after h, and with what stood from there up to j steps after h moved on by one cell
pub record IsPutIn (n h i j k : ℕ) (old new : ℕ → ℕ) : Type 0 where
  pub before : (c : ℕ) → c < n → steps_round n h c < i → new c ≡ old c
  pub here : (c : ℕ) → c < n → steps_round n h c ≡ i → new c ≡ k
  pub moved : (p c : ℕ) → IsNext n p c → i < steps_round n h c → steps_round n h c ≤ j → new c ≡ old p
  pub after : (c : ℕ) → c < n → j < steps_round n h c → new c ≡ old c

-- the same on the way, before the cell t steps after h is written, with `carry` still to be put there
pub record IsPartPut (n h i t k carry : ℕ) (old new : ℕ → ℕ) : Type 0 where
  pub begun : i ≤ t
  pub before : (c : ℕ) → c < n → steps_round n h c < i → new c ≡ old c
  pub here : (c : ℕ) → c < n → steps_round n h c ≡ i → i < t → new c ≡ k
  pub moved : (p c : ℕ) → IsNext n p c → i < steps_round n h c → steps_round n h c < t → new c ≡ old p
  pub after : (c : ℕ) → c < n → t ≤ steps_round n h c → new c ≡ old c
  pub full : (c : ℕ) → c < n → i ≤ steps_round n h c → steps_round n h c < t → 0 < old c
  pub first : i ≡ t → carry ≡ k
  pub later : (c : ℕ) → c < n → i < t → steps_round n h c + 1 ≡ t → carry ≡ old c

-- where the first free cell from i steps after h on is j steps after h
pub record IsPushed (n h i j k : ℕ) (old new : ℕ → ℕ) : Type 0 where
  pub in_order : i ≤ j
  pub in_table : j < n
  pub put : IsPutIn n h i j k old new
  pub free : (c : ℕ) → c < n → steps_round n h c ≡ j → old c ≡ 0
  pub full : (c : ℕ) → c < n → i ≤ steps_round n h c → steps_round n h c < j → 0 < old c

-- an empty cell lies i steps after h, or more
abbrev pub HasFreeFrom : (cells : List ℕ) (h i : ℕ) → Type 0
HasFreeFrom cells h i = (c : ℕ) × (c < length cells) × (i ≤ steps_round (length cells) h c) × (slice_index cells c ≡ 0)
