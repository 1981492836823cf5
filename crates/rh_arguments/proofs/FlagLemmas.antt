-- A text that is compared with a word.
use Rattle.std.proofs.Common.{◌≡◌, ◌↔◌, Bool, List, ℕ, Option, Some, None, ap, option_map, sym, ◌∙◌}
use Rattle.std.specs.Bool.{IsTrue}
use Rattle.std.specs.Borrow.{Bor}
use Rattle.std.specs.Option.{option_eq}
use Rattle.std.specs.Str.{bytes_eq}
use Rattle.std.proofs.lemmas.Slice.Eq.{bytes_eq-Decides}

same_text : (a b : List ℕ) → Some a ≡ Some b → a ≡ b
same_text a b h = cc

pub is_word : (read : Option (Bor (List ℕ))) (word : Bor (List ℕ)) (found : Option (List ℕ)) (b : Bool) → option_map (λ s. s.now) read ≡ found
    → b ≡ option_eq (λ x y. bytes_eq x.now y.now) read (Some word) → IsTrue b ↔ (found ≡ Some word.now)
is_word None word found b told is = (λ t. let bad = rw is at t in absurd cc, λ same. let bad : None ≡ Some word.now = told ∙ same in absurd cc)
is_word (Some s) word found b told is =
    let D = bytes_eq-Decides s.now word.now in
    (λ t. sym told ∙ ap Some (D.0 (sym is ∙ t)), λ same. is ∙ D.1 (same_text s.now word.now (told ∙ same)))
