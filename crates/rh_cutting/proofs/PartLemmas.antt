-- One part of several, behind the vectors that hold them.
use Rattle.std.proofs.Common.{◌≡◌, ◌≢◌, ◌∙◌, ap, sym, ℕ, ◌<◌, arith, List, [], ◌∷◌, ◌++◌, length, get_or}
use Rattle.std.specs.Prelude.{map, set}
use Rattle.std.proofs.lemmas.List.{get_or-map, get_or-set_other, get_or-set_same, length-map, map-set}

module _ {V : Type 0} (f : V → List ℕ) (xs : List V) (view : List (List ℕ)) (i : ℕ) (new : V) (is : map f xs ≡ view) where
  pub part_there : (old : V) (n : ℕ) → i < length view → old ≡ get_or xs i old → f new ≡ f old ++ n ∷ [] → get_or (map f (set xs i new)) i [] ≡ get_or view i [] ++ n ∷ []
  part_there old n inside there more =
      let many : length (map f xs) ≡ length xs = length-map xs f in
      let within : i < length (map f xs) = omega (arith, inside, ap length is) in
      ap (λ l. get_or l i []) (map-set f xs i new) ∙ get_or-set_same (map f xs) i (f new) [] within ∙ more
      ∙ ap (λ l. l ++ n ∷ []) (ap f there ∙ sym (get_or-map f xs i old [] (omega (arith, within, many))) ∙ ap (λ l. get_or l i []) is)

  pub part_other : (p : ℕ) → p ≢ i → get_or (map f (set xs i new)) p [] ≡ get_or view p []
  part_other p other =
      ap (λ l. get_or l p []) (map-set f xs i new) ∙ get_or-set_other (map f xs) i p (f new) [] other ∙ ap (λ l. get_or l p []) is
