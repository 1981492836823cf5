-- Into how many parts a list is split.
use Rattle.std.specs.Prelude.{ℕ, ◌+◌, ◌-◌, ◌/◌, min}
use Rattle.rh_parts.specs.declared.part.TheConstants.{MAX_PARTS}
use Rattle.rh_splitting.specs.declared.number.TheConstants.{BYTES_A_KEY, BYTES_A_LINE, KEYS_A_PART}
use Rattle.rh_splitting.specs.declared.source.Source.{Source}
use Rattle.rh_splitting.specs.declared.source.Source.TheVariants.{Keys, Text}

-- the least number of parts, of which each has KEYS_A_PART of the keys or fewer, where they are as large as one another
-- parts_for 0 = parts_for 150000 = 1, and parts_for 150001 = 2
abbrev pub parts_for : ℕ → ℕ
parts_for keys = (keys - 1) / KEYS_A_PART + 1

-- how many keys so many bytes may be
abbrev pub most_keys_in : Source → ℕ → ℕ
most_keys_in Text bytes = bytes / BYTES_A_LINE
most_keys_in Keys bytes = bytes / BYTES_A_KEY

-- how many parts are made of an input of so many bytes
abbrev pub parts_chosen : Source → ℕ → ℕ
parts_chosen source bytes = min (parts_for (most_keys_in source bytes)) MAX_PARTS
