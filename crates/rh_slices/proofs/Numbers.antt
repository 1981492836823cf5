-- Lists whose numbers are tested one list after the other.
use Rattle.std.proofs.Common.{◌≡◌, ap, sym, subst, refl, arith, ℕ, zero, suc, ◌+◌, ◌<◌, ◌≤◌, List, [], ◌∷◌, ◌++◌, length, get_or, map, take, All, Bor}
use Rattle.std.proofs.lemmas.List.{length-map, take_all}
use Rattle.std.proofs.lemmas.List.Elements.{All-more, All-nil}
use Rattle.rh_layout.specs.Key.{IsKey}
use Rattle.rh_slices.specs.Slices.{AreKeys, IsFirstBad, IsFirstOf}

abbrev numbers_of : List (Bor (List ℕ)) → List (List ℕ)
numbers_of lists = map (λ list. list.now) lists

at_place : (lists : List (Bor (List ℕ))) (i : ℕ) (d : Bor (List ℕ)) → i < length lists → (get_or lists i d).now ≡ get_or (numbers_of lists) i []
at_place [] i d inside = absurd (omega (arith, inside))
at_place (list ∷ lists) zero d inside = refl
at_place (list ∷ lists) (suc i) d inside = at_place lists i d (omega (arith, inside))

pub none_tested : (lists : List (Bor (List ℕ))) → AreKeys (take 0 (numbers_of lists))
none_tested lists = All-nil (λ (numbers : List ℕ). All IsKey numbers)

pub first_of : (lists : List (Bor (List ℕ))) (i : ℕ) (d : Bor (List ℕ)) (at : ℕ) → i < length lists → IsFirstBad (get_or lists i d).now at → AreKeys (take i (numbers_of lists)) → IsFirstOf (numbers_of lists) i at
first_of lists i d at inside bad before = record {
  there = omega (arith, length-map lists (λ (list : Bor (List ℕ)). list.now), inside);
  first = subst (λ numbers. IsFirstBad numbers at) (at_place lists i d inside) bad;
  before = before;
}

pub one_more : (lists : List (Bor (List ℕ))) (i : ℕ) (d : Bor (List ℕ)) → i < length lists → All IsKey (get_or lists i d).now → AreKeys (take i (numbers_of lists)) → AreKeys (take (i + 1) (numbers_of lists))
one_more lists i d inside keys before =
    let there : i < length (numbers_of lists) = omega (arith, length-map lists (λ (list : Bor (List ℕ)). list.now), inside) in
    let this : All IsKey (get_or (numbers_of lists) i []) = subst (All IsKey) (at_place lists i d inside) keys in
    All-more (λ (numbers : List ℕ). All IsKey numbers) (numbers_of lists) i [] there before this

pub all_tested : (lists : List (Bor (List ℕ))) (i : ℕ) → length lists ≤ i → AreKeys (take i (numbers_of lists)) → AreKeys (numbers_of lists)
all_tested lists i ended tested =
    subst AreKeys (take_all i (numbers_of lists) (omega (arith, length-map lists (λ (list : Bor (List ℕ)). list.now), ended))) tested

pub of_each : (lists : List (Bor (List ℕ))) → AreKeys (numbers_of lists) → All (λ (list : Bor (List ℕ)). All IsKey list.now) lists
of_each lists keys = λ k d inside.
    let there : k < length (numbers_of lists) = omega (arith, length-map lists (λ (list : Bor (List ℕ)). list.now), inside) in
    subst (All IsKey) (sym (at_place lists k d inside)) (keys k [] there)
