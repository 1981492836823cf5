-- How many keys each part was given, as a text.
use Rattle.std.specs.Prelude.{◌≡◌, ℕ, ◌+◌, ◌-◌, ◌/◌, ◌%◌, ◌^◌, List, [], ◌∷◌, ◌++◌, codes, decimal}
use Rattle.rh_splitting.specs.declared.part.Part.{Part}
use Rattle.rh_splitting.specs.Number.{parts_for}
use Rattle.rh_splitting.specs.Parts.{limit_of, part_count}

-- the part was given no key, and takes as many as can be counted
abbrev pub IsCounting : {W : Type 0} → Part W → Type 0
IsCounting part = (part_count part ≡ 0) × (limit_of part ≡ 2 ^ 64 - 1)

-- a number below 1000
abbrev pub three_digits : ℕ → List ℕ
three_digits n = (48 + n / 100 % 10) ∷ (48 + n / 10 % 10) ∷ (48 + n % 10) ∷ []

abbrev pub part_line : (part count : ℕ) → List ℕ
part_line part count = three_digits part ++ (codes " " ++ (decimal count ++ codes "\n"))

-- the lines of the parts, of which the first has this number
abbrev pub part_lines : {W : Type 0} → ℕ → List (Part W) → List ℕ
part_lines number [] = []
part_lines number (part ∷ parts) = part_line number (part_count part) ++ part_lines (number + 1) parts

-- how many keys all the parts were given
abbrev pub keys_given : {W : Type 0} → List (Part W) → ℕ
keys_given [] = 0
keys_given (part ∷ parts) = part_count part + keys_given parts

-- the number of all keys, and of how many parts would do
abbrev pub last_line : ℕ → List ℕ
last_line keys = codes "keys " ++ (decimal keys ++ (codes " parts " ++ (decimal (parts_for keys) ++ codes "\n")))

-- of two parts with 4 keys and 1: `000 4`, `001 1`, `keys 5 parts 1`
abbrev pub plan_text : {W : Type 0} → List (Part W) → List ℕ
plan_text parts = part_lines 0 parts ++ last_line (keys_given parts)
