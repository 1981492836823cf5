-- Words that name lists, and what is asked of these.
use Rattle.std.specs.Prelude.{ℕ, zero, suc, ◌+◌, ◌==◌, ◌<◌, Bool, nat_lt, ◌&&◌, if◌then◌else◌, List, [], ◌∷◌, ◌++◌, length, Result, Ok, Err}
use Rattle.std.specs.List.{after_first, before_first, list_all, list_any, position_or_len}
use Rattle.std.specs.Str.{bytes_eq}
use Rattle.rh_expressions.specs.declared.fault.SelectFault.{SelectFault}
use Rattle.rh_expressions.specs.declared.fault.SelectFault.TheVariants.{NoName, Twice, Unused}
use Rattle.rh_expressions.specs.Formulas.{Formula, names_list}
use Rattle.rh_expressions.specs.Grammar.{and_then, formula_in}
use Rattle.rh_expressions.specs.Tokens.{is_of_name}

abbrev pub is_equals : ℕ → Bool
is_equals b = b == 61

-- what stands before the first '=', and after it
abbrev pub name_in : List ℕ → List ℕ
name_in word = before_first is_equals word

abbrev pub path_in : List ℕ → List ℕ
path_in word = after_first is_equals word

-- the word is NAME=FILE: neither is empty, and the name is of letters, digits and '_'
abbrev pub is_named : List ℕ → Bool
is_named word =
    nat_lt (position_or_len is_equals word) (length word) && nat_lt 0 (length (name_in word)) && nat_lt 0 (length (path_in word))
    && list_all is_of_name (name_in word)

abbrev pub is_one_of : (name : List ℕ) → (names : List (List ℕ)) → Bool
is_one_of name names = list_any (λ other. bytes_eq other name) names

-- the names before, with those of the words, or the first fault
abbrev pub names_in : (before : List (List ℕ)) → (words : List (List ℕ)) → Result (List (List ℕ)) SelectFault
names_in before [] = Ok before
names_in before (word ∷ words) =
    if is_named word
    then (if is_one_of (name_in word) before then Err (Twice (length before)) else names_in (before ++ name_in word ∷ []) words)
    else Err (NoName (length before))

-- the formula, if so many lists stand in it, before which stand others, and else the first that does not
abbrev pub all_used : Formula → (before lists : ℕ) → Result Formula SelectFault
all_used f before zero = Ok f
all_used f before (suc lists) = if names_list f before then all_used f (before + 1) lists else Err (Unused before)

-- what is asked of the lists that the words name
abbrev pub selection_in : (text : List ℕ) → (words : List (List ℕ)) → Result Formula SelectFault
selection_in text words =
    and_then (names_in [] words) (λ names. and_then (formula_in names text) (λ f. all_used f 0 (length names)))

-- the fault is of one of so many words, or of the expression
abbrev pub IsWithin : (words : ℕ) → SelectFault → Type 0
IsWithin words (NoName word) = word < words
IsWithin words (Twice word) = word < words
IsWithin words (Unused word) = word < words
IsWithin words fault = Unit {0}
