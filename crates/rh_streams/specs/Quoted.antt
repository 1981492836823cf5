-- Bytes as they are shown to a person.
use Rattle.std.specs.Prelude.{ℕ, Bool, ◌+◌, ◌/◌, ◌%◌, ◌++◌, List, [], ◌∷◌, codes, length, take, if◌then◌else◌, nat_eq, nat_le, nat_lt, ◌&&◌, ◌||◌}
use Rattle.std.specs.List.{flat_map}
use Rattle.rh_streams.specs.declared.showing.TheConstants.{MAX_SHOWN}

-- the hexadecimal digit of a number below 16
abbrev pub digit_of : ℕ → ℕ
digit_of value = if nat_lt value 10 then 48 + value else 55 + value

-- a byte: a quote (34) and a backslash (92) behind a backslash, what is printable as it is, and else in hexadecimal digits
unfoldable pub shown : ℕ → List ℕ
shown byte =
    if nat_eq byte 34 || nat_eq byte 92 then 92 ∷ byte ∷ []
    else if nat_le 32 byte && nat_le byte 126 then byte ∷ []
    else codes "\\x" ++ digit_of (byte / 16) ∷ digit_of (byte % 16) ∷ []

-- a quote, behind which two dots stand where there are more bytes
abbrev pub closing : (are_more : Bool) → List ℕ
closing are_more = if are_more then codes "\".." else codes "\""

-- the first bytes between quotes
unfoldable pub quoted : List ℕ → List ℕ
quoted bytes = (34 ∷ flat_map shown (take MAX_SHOWN bytes)) ++ closing (nat_lt MAX_SHOWN (length bytes))
