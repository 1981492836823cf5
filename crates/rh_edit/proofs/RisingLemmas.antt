-- The keys of a set in rising order, and how they come of the cells of a layout.
use Rattle.std.proofs.Common.{◌≡◌, ◌∙◌, ap, sym, refl, subst, ℕ, ◌+◌, ◌≤◌, ◌<◌, ◌^◌, arith, Bool, true, false, cond, List, [], ◌∷◌, length, take, Option, Some, None, eqb}
use Rattle.std.specs.Prelude.{T, map, filter, is_some, ◌&&◌, ◌||◌, IsTrue}
use Rattle.std.specs.List.{list_any, AllByRecursion, IsDistinct, All}
use Rattle.std.specs.List.Sorted.{IsStrictlyIncreasing, IsStrictlySortedBy, IsPermutation, IsSorted}
use Rattle.std.specs.Ordering.{nat_cmp, eq_by_cmp, is_lt, match_ordering}
use Rattle.std.specs.declared.cmp.Ordering.TheVariants.{Less, Equal, Greater}
use Rattle.std.specs.Cmp.{nat_cmp_total, eq_by_cmp_equiv, unsigned_tied}
use Rattle.std.specs.BTreeSet.{insert_key}
use Rattle.std.specs.FinSet as set
use Rattle.std.specs.FinSet.{contains, contains-items, contains-from_list, nat_cmp-IsAntisymmetric}
use Rattle.std.specs.FinMap as maps
use Rattle.std.specs.FinMap.Entries.{put, by_order, find, below_all, is_sorted, is_some-find}
use Rattle.std.proofs.lemmas.Bool.{eqb-true}
use Rattle.std.proofs.lemmas.List.{nil_from_length, length-map, take_all}
use Rattle.std.proofs.lemmas.List.Sums.{length-filter}
use Rattle.std.proofs.lemmas.List.Sorted.{IsNonDecreasingBy-from_sort, IsPermutation-sym, Contains-permutation, length_permutation}
use Rattle.std.proofs.lemmas.Map.Keys.{sorted_from_strictly_increasing, IsStrictlyIncreasing-from_distinct}
use Rattle.std.proofs.lemmas.Map.Views.{Contains-from_any, list_any-from_Contains, All-from_any}
use Rattle.std.proofs.Math.Pow.{pow_mono}
use Rattle.rh_layout.specs.declared.limits.TheConstants.{MAX_BITS}
use Rattle.rh_layout.specs.Key.{IsKey, key_in, is_full}
use Rattle.rh_layout.specs.Layout.{Keys, IsLayout, keys_of}
use Rattle.rh_layout.proofs.SetLemmas.{same_keys}
use Rattle.rh_layout.proofs.CountLemmas.{full_count, count_of_layout}
use Rattle.rh_edit.specs.Held.{Held}
use Rattle.rh_edit.specs.Rising.{inserted_at_order, rising_keys}
use Rattle.rh_edit.proofs.SetLemmas.{len-from_list}

-- ---- a list that rises is the rising list of its set: a map has its keys in order, and it is the map of them

abbrev units : List ℕ → List (ℕ × Unit {0})
units ks = map {B = ℕ × Unit {0}} (λ k. (k, tt)) ks

abbrev firsts : List (ℕ × Unit {0}) → List ℕ
firsts es = map (λ (e : ℕ × Unit {0}). e.0) es

firsts-units : (ks : List ℕ) → firsts (units ks) ≡ ks
firsts-units [] = refl
firsts-units (k ∷ ks) = ap (λ l. k ∷ l) (firsts-units ks)

firsts-put : (k : ℕ) (es : List (ℕ × Unit {0})) → firsts (put nat_cmp k tt es) ≡ insert_key nat_cmp (firsts es) k
firsts-put k [] = refl
firsts-put k (e ∷ es) =
    elim (nat_cmp k e.0) as (λ r. firsts (by_order r ((k, tt) ∷ e ∷ es) ((e.0, tt) ∷ es) (e ∷ put nat_cmp k tt es)) ≡ match_ordering r (k ∷ e.0 ∷ firsts es) (e.0 ∷ firsts es) (e.0 ∷ insert_key nat_cmp (firsts es) k)) [
      | Less ↦ refl
      | Equal ↦ refl
      | Greater ↦ ap (λ l. e.0 ∷ l) (firsts-put k es)
    ]

-- a set of these numbers, as a map
abbrev map_of : List ℕ → Keys
map_of ks = maps.from_entries {R = nat_cmp} (units ks)

put_is_keys : (ks : List ℕ) → inserted_at_order ks ≡ maps.keys (map_of ks)
put_is_keys [] = sym (ap firsts (nil_from_length _ (sym (maps.len-entries (map_of [])) ∙ maps.len-empty nat_cmp (Unit {0}))))
put_is_keys (k ∷ ks) = ap (λ l. insert_key nat_cmp l k) (put_is_keys ks) ∙ sym (firsts-put k (maps.entries (map_of ks))) ∙ sym (ap firsts (maps.entries-insert nat_cmp_total (map_of ks) k tt))

one_unit : (x y : Option (Unit {0})) → is_some x ≡ is_some y → x ≡ y
one_unit None None e = refl
one_unit None (Some u) e = (cc)
one_unit (Some u) None e = (cc)
one_unit (Some u) (Some v) e = refl

is_some-find_units : (ks : List ℕ) (q : ℕ) → is_some (find nat_cmp q (units ks)) ≡ list_any (eq_by_cmp nat_cmp q) ks
is_some-find_units ks q = is_some-find nat_cmp q (units ks) ∙ ap (list_any (eq_by_cmp nat_cmp q)) (firsts-units ks)

below : (x : ℕ) (ks : List ℕ) → AllByRecursion (λ y. nat_cmp x y ≡ Less) ks → below_all nat_cmp x (units ks) ≡ true
below x [] h = refl
below x (y ∷ ks) h = ap (λ r. is_lt r && below_all nat_cmp x (units ks)) h.0 ∙ below x ks h.1

units_rise : (ks : List ℕ) → IsStrictlySortedBy nat_cmp ks → is_sorted nat_cmp (units ks) ≡ true
unfolding IsStrictlySortedBy
units_rise [] h = refl
units_rise (k ∷ ks) h = ap (λ b. b && is_sorted nat_cmp (units ks)) (below k ks h.0) ∙ units_rise ks h.1

module _ (S : Keys) (ys : List ℕ) (rises : IsStrictlyIncreasing ys) (is : set.from_list ys ≡ S) where
  in_order : T (is_sorted nat_cmp (units ys))
  in_order = subst T (sym (units_rise ys (sorted_from_strictly_increasing ys rises))) tt

  same_members : (q : ℕ) → list_any (eq_by_cmp nat_cmp q) ys ≡ list_any (eq_by_cmp nat_cmp q) (set.items S)
  same_members q = sym (contains-from_list nat_cmp_total ys q) ∙ ap (λ (U : Keys). contains U q) is ∙ contains-items S q

  same_map : maps.from_sorted {R = nat_cmp} (units ys) ≡ map_of (set.items S)
  same_map =
      maps.same_map nat_cmp_total nat_cmp-IsAntisymmetric (maps.from_sorted {R = nat_cmp} (units ys)) (map_of (set.items S))
      (λ q. maps.get-from_sorted nat_cmp (units ys) q in_order
      ∙ one_unit (find nat_cmp q (units ys)) (find nat_cmp q (units (set.items S))) (is_some-find_units ys q ∙ same_members q ∙ sym (is_some-find_units (set.items S) q))
      ∙ sym (maps.get-from_entries nat_cmp_total (units (set.items S)) q))

  pub rising_is : ys ≡ rising_keys S
  unfolding rising_keys
  rising_is =
      sym (ap firsts (maps.entries-from_sorted nat_cmp (units ys) in_order) ∙ firsts-units ys)
      ∙ ap (λ (m : Keys). maps.keys m) same_map ∙ sym (put_is_keys (set.items S))

-- ---- a list of as many numbers as its set has

neither : (a b : Bool) → (a || b) ≡ false → (a ≡ false) × (b ≡ false)
neither true b h = (cc)
neither false b h = (refl, h)

none_is : (k : ℕ) (ks : List ℕ) → list_any (eq_by_cmp nat_cmp k) ks ≡ false → AllByRecursion (λ y. eqb k y ≡ false) ks
none_is k [] h = tt
none_is k (y ∷ ks) h = let two = neither (eq_by_cmp nat_cmp k y) (list_any (eq_by_cmp nat_cmp k) ks) h in (sym (unsigned_tied k y) ∙ two.0, none_is k ks two.1)

module _ (k : ℕ) (ks : List ℕ) where
  abbrev of_ks : Keys
  of_ks = set.from_list ks

  new_one : (has : Bool) → contains of_ks k ≡ has → set.len (set.insert of_ks k) ≡ cond has (set.len of_ks) (set.len of_ks + 1) → set.len of_ks ≤ length ks → set.len (set.insert of_ks k) ≡ length ks + 1
      → (contains of_ks k ≡ false) × (set.len of_ks ≡ length ks)
  new_one true is after few many = absurd (omega arith)
  new_one false is after few many = (is, omega arith)

apart : (ks : List ℕ) → set.len (set.from_list {R = nat_cmp} ks) ≡ length ks → IsDistinct eqb ks
unfolding IsDistinct
apart [] many = tt
apart (k ∷ ks) many =
    let got = new_one k ks (contains (of_ks k ks) k) refl (set.len-insert nat_cmp_total (of_ks k ks) k) (len-from_list ks) (omega (arith, many)) in
    (none_is k ks (sym (contains-from_list nat_cmp_total ks k) ∙ got.0), apart ks got.1)

-- ---- the same numbers in another order

exact : (x y : ℕ) → eq_by_cmp nat_cmp x y ≡ true → x ≡ y
exact x y e = eqb-true x y (sym (unsigned_tied x y) ∙ e)

held_in : (xs ys : List ℕ) (q : ℕ) → IsPermutation xs ys → IsTrue (contains (set.from_list {R = nat_cmp} xs) q) → IsTrue (contains (set.from_list {R = nat_cmp} ys) q)
held_in xs ys q moved has =
    let there = Contains-from_any {eq = eq_by_cmp nat_cmp} exact q xs (sym (contains-from_list nat_cmp_total xs q) ∙ has) in
    contains-from_list nat_cmp_total ys q ∙ list_any-from_Contains (eq_by_cmp_equiv nat_cmp_total) q ys (Contains-permutation xs ys q moved there)

same_set_moved : (xs ys : List ℕ) → IsPermutation xs ys → set.from_list {R = nat_cmp} ys ≡ set.from_list {R = nat_cmp} xs
same_set_moved xs ys moved =
    same_keys (set.from_list ys) (set.from_list xs) (λ q. held_in ys xs q (IsPermutation-sym xs ys moved)) (λ q. held_in xs ys q moved)

-- ---- the keys in the cells of a layout

abbrev pub keys_in : List ℕ → List ℕ
keys_in cells = map key_in (filter is_full cells)

set_of_keys_in : (cells : List ℕ) → set.from_list (keys_in cells) ≡ keys_of cells
unfolding keys_of
set_of_keys_in cells = refl

length-keys_in : (cells : List ℕ) → length (keys_in cells) ≡ full_count cells
length-keys_in cells = length-map (filter is_full cells) key_in ∙ length-filter is_full cells

pub sorted_all : (cells now xs ys : List ℕ) (i : ℕ) → now ≡ cells → length now ≤ i → xs ≡ keys_in (take i now) → IsPermutation xs ys → IsPermutation (keys_in cells) ys
sorted_all cells now xs ys i same all is moved =
    subst (λ (l : List ℕ). IsPermutation l ys) (is ∙ ap keys_in (take_all i now all) ∙ ap keys_in same) moved

-- these are the keys that are held, in rising order
pub record AreKeysOf (held : Held) (ys : List ℕ) : Type 0 where
  pub items : ys ≡ rising_keys held.keys
  pub rising : IsStrictlyIncreasing ys
  pub same : set.from_list ys ≡ held.keys
  pub many : length ys ≡ set.len held.keys
  pub keys : All IsKey ys
  pub few : length ys < 2 ^ MAX_BITS

-- what the keys in the cells are once they are sorted
module _ (cells : List ℕ) (b : ℕ) (layout : IsLayout b cells) (ys : List ℕ) (moved : IsPermutation (keys_in cells) ys) where
  set_of_moved : set.from_list ys ≡ keys_of cells
  set_of_moved = same_set_moved (keys_in cells) ys moved ∙ set_of_keys_in cells

  many_moved : length ys ≡ set.len (keys_of cells)
  many_moved = length_permutation (keys_in cells) ys moved ∙ length-keys_in cells ∙ count_of_layout cells b (keys_of cells) layout

  keys_moved : All IsKey ys
  keys_moved = All-from_any (eq_by_cmp_equiv nat_cmp_total) IsKey ys (λ q has. layout.keys q (ap (λ (U : Keys). contains U q) (sym set_of_moved) ∙ contains-from_list nat_cmp_total ys q ∙ has))

  rises : IsSorted nat_cmp ys → IsStrictlyIncreasing ys
  rises sorted = IsStrictlyIncreasing-from_distinct ys (IsNonDecreasingBy-from_sort (λ x. x) ys sorted) (apart ys (ap set.len set_of_moved ∙ sym many_moved))

  pub sorted_facts : (n : ℕ) (held : Held) → record { bits = b; keys = keys_of cells } ≡ held → n ≡ set.len (keys_of cells) → n < 2 ^ b → IsSorted nat_cmp ys → AreKeysOf held ys
  sorted_facts n held view len room sorted =
      subst (λ (h : Held). AreKeysOf h ys) view (record {
        items = rising_is (keys_of cells) ys (rises sorted) set_of_moved;
        rising = rises sorted;
        same = set_of_moved;
        many = many_moved;
        keys = keys_moved;
        few = omega (arith, many_moved, len, room, pow_mono {j = MAX_BITS} layout.bits.1);
      })
