-- What is answered of a plain word: a value, and that of the word.
use Rattle.std.proofs.Common.{◌≡◌, ℕ, false, true≢false, eq-eqb, Option, Some, None, refl, sym, ◌∙◌, subst}
use Rattle.std.specs.Prelude.{IsSome, MatchOption}
use Rattle.rh_tagword.specs.Word.{IsValue, is_plain, plain_number, tag_of}

pub value_there : (o : Option ℕ) (word : ℕ) → MatchOption o (is_plain word ≡ false) (λ value. IsValue value × (word ≡ plain_number value)) → tag_of word ≡ 0 → IsSome o
value_there None word h plain = absurd (true≢false (sym (eq-eqb (tag_of word) 0 plain) ∙ h))
value_there (Some x) word h plain = refl

pub value_said : (o : Option ℕ) (word value : ℕ) → MatchOption o (is_plain word ≡ false) (λ value. IsValue value × (word ≡ plain_number value)) → o ≡ Some value
    → IsValue value × (word ≡ plain_number value)
value_said o word value h is = subst (λ (p : Option ℕ). MatchOption p (is_plain word ≡ false) (λ v. IsValue v × (word ≡ plain_number v))) is h
