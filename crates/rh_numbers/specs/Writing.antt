-- The text that is written of a list of numbers: one a line, in decimal digits without leading zeros.
use Rattle.std.specs.Prelude.{ℕ, List, ◌++◌, codes, decimal}
use Rattle.std.specs.List.{flat_map}

abbrev pub number_line : ℕ → List ℕ
number_line n = decimal n ++ codes "\n"

-- that of 7 and 9 is "7\n9\n"
abbrev pub text_of : List ℕ → List ℕ
text_of numbers = flat_map number_line numbers
