-- Of a list, element by element.
use Rattle.std.proofs.Common.{◌≡◌, ℕ, ◌+◌, ◌<◌, ◌≤◌, ⊎_elim, sym, ap, ◌∙◌, subst, arith, List, length, take, get_or}
use Rattle.std.specs.Prelude.{All}
use Rattle.std.proofs.lemmas.Bool.{cases_lt}
use Rattle.std.proofs.lemmas.List.{get_or-take, get_or_default, length-take}

-- one more of them is so
pub all_more : {X : Type 0} (P : X → Type 0) (xs : List X) (i : ℕ) (x d : X) → i < length xs → x ≡ get_or xs i d → All P (take i xs) → P x → All P (take (i + 1) xs)
all_more {X} P xs i x d inside is all now k e less =
    let long : length (take (i + 1) xs) ≡ i + 1 = length-take (i + 1) xs ∙ omega (arith, inside) in
    let size : length (take i xs) ≡ i = length-take i xs ∙ omega (arith, inside) in
    subst P (sym (get_or-take (i + 1) xs k e (omega (arith, less, long)))) (⊎_elim
    (λ (before : k < i). subst P (get_or-take i xs k e before) (all k e (omega (arith, before, size))))
    (λ (here : i ≤ k).
    let now_here : k ≡ i = omega (arith, here, less, long) in
    subst P (is ∙ get_or_default xs i d e inside ∙ ap (λ (n : ℕ). get_or xs n e) (sym now_here)) now) (cases_lt k i))
