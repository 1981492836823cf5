-- The tokens of an expression.
use Rattle.std.specs.Prelude.{ℕ, ◌+◌, ◌==◌, Bool, not, ◌&&◌, ◌||◌, if◌then◌else◌, List, [], ◌∷◌, ◌++◌, Option, Some, None}
use Rattle.std.specs.Char.{is_ascii_alphanumeric, is_ascii_whitespace}
use Rattle.std.specs.List.{before_first, position}
use Rattle.std.specs.Str.{bytes_eq}
use Rattle.rh_combine.specs.declared.how.How.TheVariants.{Intersect, Union, Subtract, Xor}
use Rattle.rh_expressions.specs.declared.token.Token.{Token}
use Rattle.rh_expressions.specs.declared.token.TokenKind.{TokenKind}
use Rattle.rh_expressions.specs.declared.token.TokenKind.TheVariants.{List as OfList, Unknown, Operator, Open, Close, Foreign}

-- a letter, a digit or '_'
abbrev pub is_of_name : ℕ → Bool
is_of_name b = is_ascii_alphanumeric b || b == 95

abbrev pub ends_name : ℕ → Bool
ends_name b = not (is_of_name b)

abbrev pub kind_found : Option ℕ → TokenKind
kind_found (Some index) = OfList index
kind_found None = Unknown

-- the list of this name
abbrev pub kind_of_name : (names : List (List ℕ)) → (name : List ℕ) → TokenKind
kind_of_name names name = kind_found (position (λ other. bytes_eq other name) names)

-- what the token is that a byte begins which is of no name
abbrev pub kind_of_sign : ℕ → TokenKind
kind_of_sign b =
    if b == 38 then Operator Intersect
    else if b == 124 then Operator Union
    else if b == 45 then Operator Subtract
    else if b == 94 then Operator Xor
    else if b == 40 then Open
    else if b == 41 then Close
    else Foreign

-- what the token is that begins the text
abbrev pub kind_at : (names : List (List ℕ)) → (text : List ℕ) → TokenKind
kind_at names [] = Foreign
kind_at names (b ∷ text) = if is_of_name b then kind_of_name names (before_first ends_name (b ∷ text)) else kind_of_sign b

-- a token begins where there is no space and no name goes on
abbrev pub begins : (in_name : Bool) → ℕ → Bool
begins in_name b = not (is_ascii_whitespace b) && not (in_name && is_of_name b)

-- the tokens of a text before which so many bytes stand, the last of them perhaps in a name
abbrev pub tokens_of : (names : List (List ℕ)) → (at : ℕ) → (in_name : Bool) → (text : List ℕ) → List Token
tokens_of names at in_name [] = []
tokens_of names at in_name (b ∷ text) =
    (if begins in_name b then record { at = at; kind = kind_at names (b ∷ text) } ∷ [] else []) ++ tokens_of names (at + 1) (is_of_name b) text
