-- The number of a word, and those of the words of a line.
use Rattle.std.proofs.Common.{◌≡◌, ℕ, ◌≤◌, true, List, [], ◌∷◌, ◌++◌, length, Result, Ok, Err, refl, arith, rules}
use Rattle.std.specs.Char.{is_ascii_digit}
use Rattle.std.specs.List.{list_all}
use Rattle.std.specs.Str.Parse.{ParsesUnsigned, digits_value}
use Rattle.std.proofs.lemmas.Bool.Decides.{nat_tests}
use Rattle.std.proofs.lemmas.Str.Parse.{IsNumeralModel, numerals_by_value, parse_digits}
use Rattle.rh_play_text.specs.declared.limits.TheConstants.{MAX_DIGITS}
use Rattle.rh_play_text.specs.declared.fault.PlayTextKind.{PlayTextKind}
use Rattle.rh_play_text.specs.declared.fault.PlayTextKind.TheVariants.{BadLine}
use Rattle.rh_play_text.specs.Grammar.{number_of, numbers_after}

abbrev AreDigits : List ℕ → Type 0
AreDigits word = list_all is_ascii_digit word ≡ true

model : IsNumeralModel AreDigits (digits_value 10)
model = numerals_by_value AreDigits (search rules)

pub number_read : {E : Type 0} (word : List ℕ) (r : Result ℕ E) (n : ℕ) → ParsesUnsigned 64 10 word r → length word ≤ MAX_DIGITS → list_all is_ascii_digit word ≡ true → r ≡ Ok n → Ok n ≡ number_of word
unfolding number_of
number_read {E} word (Ok m) n h few digits is =
    let q = parse_digits model {E = E} 64 word (Ok m) h digits in
    grind (arith, nat_tests)
number_read word (Err e) n h few digits is = absurd cc

pub number_refused : {E : Type 0} (word : List ℕ) (r : Result ℕ E) (e : E) → ParsesUnsigned 64 10 word r → length word ≤ MAX_DIGITS → list_all is_ascii_digit word ≡ true → r ≡ Err e → Err BadLine ≡ number_of word
unfolding number_of
number_refused {E} word (Err d) e h few digits is =
    let q = parse_digits model {E = E} 64 word (Err d) h digits in
    grind (arith, nat_tests)
number_refused word (Ok m) e h few digits is = absurd cc

-- ---- the loop over the words

pub one_more : (before more : List ℕ) (n : ℕ) (word : List ℕ) (words : List (List ℕ)) → Ok n ≡ number_of word → more ≡ before ++ n ∷ [] → numbers_after before (word ∷ words) ≡ numbers_after more words
unfolding numbers_after
one_more before more n word words is grown = rw (← is, grown) refl

pub one_refused : (before : List ℕ) (kind : PlayTextKind) (word : List ℕ) (words : List (List ℕ)) → Err kind ≡ number_of word → numbers_after before (word ∷ words) ≡ Err kind
unfolding numbers_after
one_refused before kind word words is = rw (← is) refl

pub no_more : (before : List ℕ) → numbers_after before [] ≡ Ok before
unfolding numbers_after
no_more before = refl
