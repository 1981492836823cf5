-- One line after the other.
use Rattle.std.proofs.Common.{◌≡◌, ◌∙◌, ap, sym, ℕ, ◌+◌, ◌<◌, List, ◌∷◌, drop, get_or, length, Some, arith}
use Rattle.std.specs.List.{slice_get}
use Rattle.std.proofs.lemmas.List.{drop-drop, get_or-drop, length-drop}
use Rattle.std.proofs.lemmas.Option.{slice_get-get_or}

-- what stands behind so many, and the first of it
pub behind : {X : Type 0} (xs rest : List X) (n : ℕ) (x : X) → drop n xs ≡ x ∷ rest → drop (n + 1) xs ≡ rest
behind xs rest n x is = sym (drop-drop 1 n xs) ∙ ap (drop 1) is

pub first_behind : {X : Type 0} (xs rest : List X) (n : ℕ) (x : X) → drop n xs ≡ x ∷ rest → slice_get xs n ≡ Some x
first_behind xs rest n x is =
    let within : n < length xs = omega (arith, length-drop n xs, ap length is) in
    let here : get_or xs n x ≡ x = ap (λ i. get_or xs i x) (omega arith) ∙ sym (get_or-drop n xs 0 x) ∙ ap (λ l. get_or l 0 x) is in
    slice_get-get_or xs n x within ∙ ap Some here
