-- The lists that have a name.
use Rattle.std.proofs.Common.{◌≡◌, ◌∙◌, ap, sym, subst, arith, ℕ, suc, ◌+◌, ◌<◌, inl, inr, Bool, List, [], ◌∷◌, ◌++◌, length, get_or, Option, Some, None}
use Rattle.std.specs.Prelude.{nat_lt, unwrap_or}
use Rattle.std.proofs.lemmas.Grind.{flat_map-append}
use Rattle.std.proofs.lemmas.List.{append-nil, length-append}
use Rattle.std.specs.List.{position_or_len}
use Rattle.std.specs.Str.{bytes_eq}
use Rattle.std.proofs.lemmas.Bool.{cases_Bool, ltb-true}
use Rattle.rh_shelf.specs.Shelf.{Files}
use Rattle.rh_script.specs.Instruction.{Instruction}
use Rattle.rh_script.specs.Names.{file_of, given_by}
use Rattle.rh_script.specs.Plan.{position_of}
use Rattle.rh_operations.specs.declared.key_lists.KeyList.{KeyList}
use Rattle.rh_operations.specs.KeyLists.{Stands, path_of, paths_of}
use Rattle.rh_script_run.specs.Meaning.{list_of}
use Rattle.rh_script_run.specs.Steps.{ListsGrow, ListsStand, Named, names_of}

pub one_more_stands : (files : Option Files) (lists : List KeyList) (named : Named) (list : KeyList) (name keys : List ℕ) → ListsStand files lists named → Stands files list keys → ListsStand files (lists ++ list ∷ []) (named ++ (name, keys) ∷ [])
one_more_stands files [] [] list name keys stand new = (new, tt)
one_more_stands files [] (n ∷ named) list name keys stand new = absurd stand
one_more_stands files (l ∷ lists) [] list name keys stand new = absurd stand
one_more_stands files (l ∷ lists) (n ∷ named) list name keys stand new = (stand.0, one_more_stands files lists named list name keys stand.1 new)

-- ---- the list of a name

place_is : (name : List ℕ) (given : List (List ℕ)) (i : ℕ) → position_of name given ≡ Some i → (position_or_len (λ other. bytes_eq other name) given ≡ i) × (position_or_len (λ other. bytes_eq other name) given < length given)
unfolding position_of
place_is name given i is =
    let n : ℕ = position_or_len (λ other. bytes_eq other name) given in
    elim (cases_Bool (nat_lt n (length given))) [
      | inl inside ↦ let found : Some n ≡ Some i = rw inside at is in (ap (λ o. unwrap_or o n) found, ltb-true _ _ inside)
      | inr outside ↦ let found : None ≡ Some i = rw outside at is in absurd cc
    ]

pub place_inside : (name : List ℕ) (given : List (List ℕ)) (i : ℕ) → position_of name given ≡ Some i → i < length given
place_inside name given i is = let at = place_is name given i is in omega (arith, at.0, at.1)

module _ (files : Option Files) (name : List ℕ) (d : KeyList) where
  abbrev is_name : List ℕ → Bool
  is_name other = bytes_eq other name

  one_on : (l : KeyList) (lists : List KeyList) (k : ℕ) → get_or (l ∷ lists) (1 + k) d ≡ get_or lists k d
  one_on l lists k = let next : 1 + k ≡ suc k = omega arith in ap (λ j. get_or (l ∷ lists) j d) next

  stands_from : (lists : List KeyList) (named : Named) → ListsStand files lists named → position_or_len is_name (names_of named) < length (names_of named) → Stands files (get_or lists (position_or_len is_name (names_of named)) d) (list_of name named)
  stands_from [] [] stand inside = absurd (omega (arith, inside))
  stands_from [] (n ∷ named) stand inside = absurd stand
  stands_from (l ∷ lists) [] stand inside = absurd stand
  stands_from (l ∷ lists) (n ∷ named) stand inside =
      elim (cases_Bool (is_name n.0)) [
        | inl here ↦ rw here stand.0
        | inr later ↦
            let next : position_or_len is_name (names_of named) < length (names_of named) = omega (arith, rw later at inside) in
            rw later (subst (λ list. Stands files list (list_of name named)) (sym (one_on l lists (position_or_len is_name (names_of named)))) (stands_from lists named stand.1 next))
      ]

-- the list with a name's number is that of the name
pub stands_at : (files : Option Files) (lists : List KeyList) (named : Named) (name : List ℕ) (i : ℕ) (d : KeyList) → ListsStand files lists named → position_of name (names_of named) ≡ Some i → Stands files (get_or lists i d) (list_of name named)
stands_at files lists named name i d stand is =
    let at = place_is name (names_of named) i is in
    subst (λ j. Stands files (get_or lists j d) (list_of name named)) at.0 (stands_from files name d lists named stand at.1)

-- ---- the paths of lists

pub paths_more : (lists new : List KeyList) (list : KeyList) → new ≡ lists ++ list ∷ [] → paths_of new ≡ paths_of lists ++ path_of list.source
paths_more lists new list is =
    ap paths_of is ∙ flat_map-append (λ (l : KeyList). path_of l.source) lists (list ∷ []) ∙ ap (λ paths. paths_of lists ++ paths) (append-nil (path_of list.source))

-- ---- what a step gives

pub one_longer : (lists new : List KeyList) (list : KeyList) → new ≡ lists ++ list ∷ [] → length new ≡ length lists + 1
one_longer lists new list is = ap length is ∙ length-append lists (list ∷ [])

pub none_given : (said : Instruction) (lists : List KeyList) → given_by said ≡ [] → file_of said ≡ [] → ListsGrow said lists lists
none_given said lists no_name no_file = record {
  more = rw no_name (omega arith);
  paths = rw no_file (sym (append-nil (paths_of lists)));
}
