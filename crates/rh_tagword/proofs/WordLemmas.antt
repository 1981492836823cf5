-- Words and their numbers, for the layers above.
use Rattle.std.proofs.Common.{◌≡◌, ℕ, ◌^◌, ◌<◌, Some, ap, sym, ◌∙◌, refl, arith}
use Rattle.std.proofs.lemmas.Grind.{common_steps}
use Rattle.std.proofs.lemmas.Option.{same_Some}
use Rattle.rh_tagword.specs.declared.word.Word.{Word}
use Rattle.rh_tagword.specs.declared.word.Word.TheVariants.{Empty, Key, Mark, Desc}
use Rattle.rh_tagword.specs.Word.{IsWord, word_number, word_in}

pub word_number_fits : (w : Word) → IsWord w → word_number w < 2 ^ 64
word_number_fits Empty h = omega arith
word_number_fits (Key k) h = omega arith
word_number_fits (Mark worker number) h = omega arith
word_number_fits (Desc worker number) h = omega arith

pub word_in-word_number : (w : Word) → IsWord w → word_in (word_number w) ≡ Some w
word_in-word_number Empty h = refl
word_in-word_number (Key k) h = grind (arith, common_steps)
word_in-word_number (Mark worker number) h = grind (arith, common_steps)
word_in-word_number (Desc worker number) h = grind (arith, common_steps)

-- what is read as a word is its number
pub word_in_is : (n : ℕ) (w : Word) → word_in n ≡ Some w → n ≡ word_number w
word_in_is n w e = grind (arith, common_steps)

-- different words have different numbers
pub word_number_one : (v w : Word) → IsWord v → IsWord w → word_number v ≡ word_number w → v ≡ w
word_number_one v w p q e = same_Some v w (sym (word_in-word_number v p) ∙ ap word_in e ∙ word_in-word_number w q)
