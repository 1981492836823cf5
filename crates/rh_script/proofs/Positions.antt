-- The places of the names that are given.
use Rattle.std.proofs.Common.{◌≡◌, ◌∙◌, ap, sym, ℕ, ◌+◌, ◌<◌, Bool, true, false, List, [], ◌∷◌, ◌++◌, length, length-append, Option, Some, None, is_ok, is_some, Result, Ok, Err, String, inl, inr, refl, arith}
use Rattle.std.specs.Global.{Global}
use Rattle.std.specs.BTreeMap.{BTreeMap, btree_map_len, get_by_text}
use Rattle.std.specs.List.{list_any, position_or_len}
use Rattle.std.specs.Map.{update}
use Rattle.std.specs.Str.{bytes_eq}
use Rattle.std.proofs.lemmas.Bool.{cases_Bool}
use Rattle.std.proofs.lemmas.Bool.Decides.{nat_tests}
use Rattle.std.proofs.lemmas.Grind.{common_steps}
use Rattle.std.proofs.lemmas.List.Folds.{position_or_len_push}
use Rattle.std.proofs.lemmas.List.Sums.{prefix_len-le-length}
use Rattle.std.proofs.lemmas.Slice.Eq.{bytes_eq-Decides}
use Rattle.rh_lines.specs.Grammar.{◌>>=◌}
use Rattle.rh_script.specs.declared.fault.ScriptFaultKind.{ScriptFaultKind}
use Rattle.rh_script.specs.declared.fault.ScriptFaultKind.TheVariants.{Twice, Unknown}
use Rattle.rh_script.specs.Names.{is_given, known}
use Rattle.rh_script.specs.Plan.{next_place, position_of}
use Rattle.rh_script.specs.Script.{HasPlaces}

none_before : {X : Type 0} (p : X → Bool) (xs : List X) → list_any p xs ≡ false → position_or_len p xs ≡ length xs
none_before p [] h = refl
none_before p (x ∷ xs) h = grind (arith, common_steps, none_before p xs)

some_before : {X : Type 0} (p : X → Bool) (xs : List X) → list_any p xs ≡ true → position_or_len p xs < length xs
some_before p [] h = absurd cc
some_before p (x ∷ xs) h = grind (arith, common_steps, some_before p xs)

there : (name : List ℕ) (given : List (List ℕ)) → is_given name given ≡ true → is_some (position_of name given) ≡ true
unfolding is_given position_of
there name given h =
    let within = some_before (λ other. bytes_eq other name) given h in
    grind (arith, nat_tests)

not_there : (name : List ℕ) (given : List (List ℕ)) → is_given name given ≡ false → is_some (position_of name given) ≡ false
unfolding is_given position_of
not_there name given h =
    let all = none_before (λ other. bytes_eq other name) given h in
    grind (arith, nat_tests)

-- a name has a place where it is given
is_there : (name : List ℕ) (given : List (List ℕ)) → is_given name given ≡ is_some (position_of name given)
is_there name given =
    elim (cases_Bool (is_given name given)) [
      | inl known ↦ known ∙ sym (there name given known)
      | inr new ↦ new ∙ sym (not_there name given new)
    ]

-- ---- the place that is looked up

-- what is told of a name that has this place, or has none
abbrev pub looked_up : Option ℕ → Result (Option ℕ) ScriptFaultKind
looked_up None = Err Unknown
looked_up (Some place) = Ok (Some place)

looked : (b : Bool) (at : Option ℕ) → b ≡ is_some at → (known b >>= (λ _. Ok at)) ≡ looked_up at
looked true None h = absurd cc
looked false None h = refl
looked true (Some place) h = refl
looked false (Some place) h = absurd cc

pub place_looked_up : (lists : BTreeMap (String Global) ℕ) (given : List (List ℕ)) (name : List ℕ) → HasPlaces lists given → (known (is_given name given) >>= (λ _. Ok (position_of name given))) ≡ looked_up (get_by_text lists name)
place_looked_up lists given name has =
    looked (is_given name given) (position_of name given) (is_there name given) ∙ ap looked_up (sym (has.places name))

-- ---- the place of a new name

pub is_new : (lists : BTreeMap (String Global) ℕ) (given : List (List ℕ)) (name : List ℕ) (b : Bool) → HasPlaces lists given → b ≡ is_some (get_by_text lists name) → is_given name given ≡ b
is_new lists given name b has held =
    is_there name given ∙ ap is_some (sym (has.places name)) ∙ sym held

pub missing : (at : Option ℕ) → false ≡ is_some at → at ≡ None
missing None h = refl
missing (Some place) h = absurd cc

pub old_name : (name : List ℕ) (given : List (List ℕ)) → is_given name given ≡ true → next_place name given ≡ Err Twice
old_name name given is = rw is refl

pub new_name : (name : List ℕ) (given : List (List ℕ)) (next : ℕ) → is_given name given ≡ false → next ≡ length given → next_place name given ≡ Ok next
new_name name given next is many = rw (is, many) refl

position_of_last : (name other : List ℕ) (given : List (List ℕ)) → position_of name given ≡ None → bytes_eq other name ≡ true → position_of name (given ++ other ∷ []) ≡ Some (length given)
unfolding position_of
position_of_last name other given none same = grind (arith, nat_tests, position_or_len_push, length-append, prefix_len-le-length)

place_stays : (name other : List ℕ) (given : List (List ℕ)) → bytes_eq other name ≡ false → position_of name (given ++ other ∷ []) ≡ position_of name given
unfolding position_of
place_stays name other given differ = grind (arith, nat_tests, position_or_len_push, length-append)

pub places_kept : (lists new : BTreeMap (String Global) ℕ) (given : List (List ℕ)) (name : List ℕ) (number : ℕ) → get_by_text lists name ≡ None → HasPlaces lists given → number ≡ btree_map_len lists → btree_map_len new ≡ btree_map_len lists + 1 → ((other : List ℕ) → get_by_text new other ≡ update bytes_eq (get_by_text lists) name (Some number) other) → HasPlaces new (given ++ name ∷ [])
places_kept lists new given name number fresh has next more updated = record {
  many = omega (arith, length-append given (name ∷ []), has.many);
  places = λ other.
      elim (cases_Bool (bytes_eq name other)) [
        | inl same ↦
            let is : other ≡ name = sym ((bytes_eq-Decides name other).0 same) in
            let none : position_of other given ≡ None = sym (has.places other) ∙ ap (get_by_text lists) is ∙ fresh in
            let here : get_by_text new other ≡ Some number = rw same at (updated other) in
            here ∙ ap Some (next ∙ has.many) ∙ sym (position_of_last other name given none same)
        | inr differ ↦
            let kept : get_by_text new other ≡ get_by_text lists other = rw differ at (updated other) in
            kept ∙ has.places other ∙ sym (place_stays other name given differ)
      ];
}

-- ---- a name that may be used

pub has_place : (name : List ℕ) (given : List (List ℕ)) → is_ok (known (is_given name given)) ≡ true → position_of name given ≡ None → ⊥
has_place name given ok none =
    let unknown : is_given name given ≡ false = is_there name given ∙ ap is_some none in
    let no : is_ok (known false) ≡ true = rw unknown at ok in
    absurd cc
