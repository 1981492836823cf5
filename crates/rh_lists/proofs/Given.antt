-- Lists that are read, one after the other.
use Rattle.std.proofs.Common.{◌≡◌, ◌∙◌, ℕ, ◌+◌, ◌<◌, arith, get_or, length, map, option_map, slice_get, take, Bool, true, false, List, [], ◌∷◌, ◌++◌, Option, Some, None, Result, Ok, Err, ap, refl, subst, sym}
use Rattle.std.proofs.lemmas.List.{get_or-map, length-map, take_more}
use Rattle.std.proofs.lemmas.Option.{slice_get-map, slice_get_read}
use Rattle.rh_shelf.specs.Shelf.{Files, Finds}
use Rattle.rh_cutting.specs.Pieces.{keys_in}
use Rattle.rh_lists.specs.Lists.{ReadsKeyList, list_said}
use Rattle.rh_lists.specs.declared.fault.ListFault.{ListFault}
use Rattle.rh_cutting.specs.declared.list.KeyList.{KeyList}
use Rattle.rh_lists.specs.Blanks.{skipping}
use Rattle.rh_lists.specs.Files.{AreNumbers, GiveEach, GivesNumbers, GivesBy, is_input, without_heads}

-- what a file says of which so many lines are passed by
pub skips_found : (skip : ℕ) (files : Option Files) (path : List ℕ) (bytes : Option (List ℕ)) → Finds files path bytes → Finds (option_map (without_heads skip) files) path (option_map (skipping skip) bytes)
skips_found skip None path bytes found = tt
skips_found skip (Some files) path bytes (there, is, same) = (skipping skip there, ap (option_map (skipping skip)) is, ap (option_map (skipping skip)) same)

pub numbers_read : (old new : Option (List ℕ)) (list : KeyList) → ReadsKeyList old new (Ok list) → AreNumbers old new (keys_in list)
numbers_read None new list read = tt
numbers_read (Some bytes) None list read = read
numbers_read (Some bytes) (Some rest) list read = read

-- the path at the next place
pub next_path : {X : Type 0} (f : X → List ℕ) (xs : List X) (i : ℕ) (x : X) → i < length xs → x ≡ get_or xs i x → take (i + 1) (map f xs) ≡ take i (map f xs) ++ (f x ∷ [])
next_path f xs i x inside is =
    let within : i < length (map f xs) = omega (arith, inside, length-map xs f) in
    take_more (map f xs) i (f x) within ∙ ap (λ y. take i (map f xs) ++ (y ∷ [])) (get_or-map f xs i x (f x) inside ∙ ap f (sym is))

pub path_at : {X : Type 0} (f : X → List ℕ) (xs : List X) (i : ℕ) (x : X) → i < length xs → x ≡ get_or xs i x → slice_get (map f xs) i ≡ Some (f x)
path_at f xs i x inside is = slice_get-map f xs i ∙ ap (option_map f) (slice_get_read xs (length xs) i x refl inside is)

pub inside_too : {X : Type 0} (f : X → List ℕ) (xs : List X) (i : ℕ) → i < length xs → i < length (map f xs)
inside_too f xs i inside = omega (arith, inside, length-map xs f)

-- one path more
pub one_more : (files : Option Files) (paths : List (List ℕ)) (path : List ℕ) (a b c : Option (List ℕ)) (lists : List (List ℕ)) (numbers : List ℕ) → GiveEach files paths a b lists → GivesNumbers files path b c numbers
    → GiveEach files (paths ++ path ∷ []) a c (lists ++ numbers ∷ [])
one_more files [] path a b c [] numbers is gives = (c, subst (λ d. GivesNumbers files path d c numbers) is gives, refl)
one_more files (p ∷ paths) path a b c (l ∷ lists) numbers each gives = (each.0, each.1, one_more files paths path each.0 b c lists numbers each.2 gives)
one_more files [] path a b c (l ∷ lists) numbers each gives = absurd each
one_more files (p ∷ paths) path a b c [] numbers each gives = absurd each

-- ---- two readings of the same

one_list : (bytes numbers others : List ℕ) (left rest : List ℕ) → list_said bytes ≡ Ok (numbers, left) → list_said bytes ≡ Ok (others, rest) → (numbers ≡ others) × (left ≡ rest)
one_list bytes numbers others left rest is other = same (sym is ∙ other)
  where
    told : List ℕ → List ℕ → Result (List ℕ × List ℕ) ListFault
    told a b = Ok (a, b)

    same : told numbers left ≡ told others rest → (numbers ≡ others) × (left ≡ rest)
    same h = (ap (λ r. elim r [ Ok p ↦ p.0 | Err e ↦ [] ]) h, ap (λ r. elim r [ Ok p ↦ p.1 | Err e ↦ [] ]) h)

abbrev Same : (numbers others : List ℕ) (new now : Option (List ℕ)) → Type 0
Same numbers others new now = (numbers ≡ others) × (new ≡ now) × (rest : List ℕ) × (new ≡ Some rest)

one_found : (files : Files) (path : List ℕ) (a b : Option (List ℕ)) → Finds (Some files) path a → Finds (Some files) path b → (bytes : List ℕ) × (a ≡ Some bytes) × (b ≡ Some bytes)
one_found files path a b (x, x_is, a_is) (y, y_is, b_is) = (x, a_is, b_is ∙ sym x_is_y)
  where
    x_is_y : Some x ≡ Some y
    x_is_y = sym x_is ∙ y_is

same_numbers : (a b left rest : Option (List ℕ)) (bytes numbers others : List ℕ) → a ≡ Some bytes → b ≡ Some bytes → AreNumbers a left numbers → AreNumbers b rest others → numbers ≡ others
same_numbers a b left rest bytes numbers others a_is b_is are them = by_bytes left rest (subst (λ o. AreNumbers o left numbers) a_is are) (subst (λ o. AreNumbers o rest others) b_is them)
  where
    by_bytes : (left rest : Option (List ℕ)) → AreNumbers (Some bytes) left numbers → AreNumbers (Some bytes) rest others → numbers ≡ others
    by_bytes None rest are them = absurd are
    by_bytes (Some l) None are them = absurd them
    by_bytes (Some l) (Some r) are them = (one_list bytes numbers others l r are them).0

module _ (files : Files) where
  one_gives : (input : Bool) (path bytes numbers others : List ℕ) (new now : Option (List ℕ)) → GivesBy input (Some files) path (Some bytes) new numbers → GivesBy input (Some files) path (Some bytes) now others → Same numbers others new now
  one_gives true path bytes numbers others None now gives other = absurd gives
  one_gives true path bytes numbers others (Some l) None gives other = absurd other
  one_gives true path bytes numbers others (Some l) (Some r) gives other =
      let both = one_list bytes numbers others l r gives other in
      (both.0, ap Some both.1, l, refl)
  one_gives false path bytes numbers others new now ((a, left, finds, are), same) ((b, rest, finds', are'), same') =
      let found = one_found files path a b finds finds' in
      (same_numbers a b left rest found.0 numbers others found.1 found.2 are are', same ∙ sym same', bytes, same)

  -- two readings of the same files and the same input gave the same lists
  pub one_each : (paths : List (List ℕ)) (bytes : List ℕ) (new now : Option (List ℕ)) (lists others : List (List ℕ)) → GiveEach (Some files) paths (Some bytes) new lists → GiveEach (Some files) paths (Some bytes) now others → lists ≡ others
  one_each [] bytes new now [] [] each other = refl
  one_each (p ∷ paths) bytes new now (l ∷ lists) (m ∷ others) (mid, gives, each) (mid', gives', each') =
      let same = one_gives (is_input p) p bytes l m mid mid' gives gives' in
      let later : GiveEach (Some files) paths (Some same.2) new lists = subst (λ o. GiveEach (Some files) paths o new lists) same.3 each in
      let later' : GiveEach (Some files) paths (Some same.2) now others = subst (λ o. GiveEach (Some files) paths o now others) (sym same.1 ∙ same.3) each' in
      (λ i. same.0 i ∷ one_each paths same.2 new now lists others later later' i)
  one_each [] bytes new now (l ∷ lists) others each other = absurd each
  one_each [] bytes new now [] (m ∷ others) each other = absurd other
  one_each (p ∷ paths) bytes new now [] others each other = absurd each
  one_each (p ∷ paths) bytes new now (l ∷ lists) [] each other = absurd other
