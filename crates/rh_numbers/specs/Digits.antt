-- The digits that a text begins with.
use Rattle.std.specs.Prelude.{◌≡◌, ℕ, ◌≤◌, List, length, take}
use Rattle.std.specs.Str.Parse.{AllDigits, digits_value}
use Rattle.rh_numbers.specs.declared.plain.Digits.{Digits}

-- the text begins with these digits, and they have this number
pub record AreDigits (text : List ℕ) (digits : Digits) : Type 0 where
  pub within : digits.length ≤ length text
  pub are : AllDigits 10 (take digits.length text)
  pub number : digits.number ≡ digits_value 10 (take digits.length text)
