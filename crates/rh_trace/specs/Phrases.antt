-- The text of a phrase.
use Rattle.std.specs.Prelude.{ℕ, List, [], ◌++◌, Option, Some, None, decimal}
use Rattle.rh_trace.specs.declared.phrase.Phrase.{Phrase}

abbrev pub digits_of : Option ℕ → List ℕ
digits_of (Some number) = decimal number
digits_of None = []

abbrev pub phrase_text : Phrase → List ℕ
phrase_text phrase =
    phrase.before.now ++ (digits_of phrase.first ++ (phrase.between.now ++ (digits_of phrase.second ++ phrase.after.now)))
