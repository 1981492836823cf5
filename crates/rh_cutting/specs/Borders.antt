-- The borders between parts, and lists that are cut there.
use Rattle.std.specs.Prelude.{◌≡◌, ℕ, ◌+◌, ◌<◌, ◌≤◌, List, [], length, map, All, get_or, slice_index}
use Rattle.std.specs.List.{flat_map}
use Rattle.rh_layout.specs.declared.limits.TheConstants.{MAX_KEY}
use Rattle.rh_layout.specs.Range.{within}

-- a border more than there are parts: the first is 0, the last is above all keys, and none is less than the one before it
pub record AreBorders (borders : List ℕ) : Type 0 where
  pub some : 1 < length borders
  pub first : slice_index borders 0 ≡ 0
  pub last : (p : ℕ) → p + 1 ≡ length borders → slice_index borders p ≡ MAX_KEY + 1
  pub rise : (p : ℕ) → p + 1 < length borders → slice_index borders p ≤ slice_index borders (p + 1)

-- each of the numbers is that of a part
abbrev pub NameParts : (borders numbers : List ℕ) → Type 0
NameParts borders numbers = All (λ p. p + 1 < length borders) numbers

-- the key stands in this part: it is no less than the border before it, and less than the one behind it
pub record StandsIn (borders : List ℕ) (part key : ℕ) : Type 0 where
  pub inside : part + 1 < length borders
  pub above : slice_index borders part ≤ key
  pub below : key < slice_index borders (part + 1)

-- for each key the number of the part in which it stands
pub record AreNumbers (borders keys numbers : List ℕ) : Type 0 where
  pub many : length numbers ≡ length keys
  pub inside : NameParts borders numbers
  pub each : (i : ℕ) → i < length keys → StandsIn borders (slice_index numbers i) (slice_index keys i)

-- the numbers of a list from border p up to before border q, in the list's order
abbrev pub between : (borders : List ℕ) (p q : ℕ) → List ℕ → List ℕ
between borders p q keys = within (slice_index borders p) (slice_index borders q) keys

-- the numbers of a list part by part
pub record AreParts (borders keys : List ℕ) (parts : List (List ℕ)) : Type 0 where
  pub many : length parts + 1 ≡ length borders
  pub each : (p : ℕ) → p < length parts → get_or parts p [] ≡ between borders p (p + 1) keys

-- what the pieces of a list have in part p, one after the other
abbrev pub part_of : List (List (List ℕ)) → ℕ → List ℕ
part_of pieces p = flat_map (λ parts. get_or parts p []) pieces

-- a list in pieces, each piece in parts, has in each part what the list has there
pub record IsCut (borders keys : List ℕ) (pieces : List (List (List ℕ))) : Type 0 where
  pub many : All (λ (parts : List (List ℕ)). length parts + 1 ≡ length borders) pieces
  pub each : (p : ℕ) → p + 1 < length borders → part_of pieces p ≡ between borders p (p + 1) keys

-- the same of several lists
pub record AreCut (borders : List ℕ) (lists : List (List ℕ)) (cut : List (List (List (List ℕ)))) : Type 0 where
  pub many : All (λ (pieces : List (List (List ℕ))). All (λ (parts : List (List ℕ)). length parts + 1 ≡ length borders) pieces) cut
  pub each : (p : ℕ) → p + 1 < length borders → map (λ pieces. part_of pieces p) cut ≡ map (between borders p (p + 1)) lists

-- it is cut of some lists
abbrev pub IsCutOf : (borders : List ℕ) (cut : List (List (List (List ℕ)))) → Type 0
IsCutOf borders cut = (lists : List (List ℕ)) × AreCut borders lists cut
