-- Numbers of a file, and the cells and keys that they stand for.
use Rattle.std.proofs.Common.{◌≡◌, ℕ, zero, suc, ◌+◌, ◌^◌, ◌<◌, ◌≤◌, true, false, List, [], ◌∷◌, length, get_or, map, count_by, refl, sym, ap, ◌∙◌, subst, arith, inl, inr, cond}
use Rattle.std.specs.Prelude.{not}
use Rattle.std.specs.List.{filter}
use Rattle.std.specs.FinSet as set
use Rattle.std.proofs.lemmas.Bool.{cases_lt, ne_eqb, eqb-true, ltb-true, and_parts, and_right}
use Rattle.std.proofs.lemmas.List.{get_or-map, length-map}
use Rattle.std.proofs.lemmas.List.Sums.{sum_by-cons}
use Rattle.rh_layout.specs.declared.limits.TheConstants.{MAX_KEY}
use Rattle.rh_layout.specs.Key.{cell_of, is_full, key_in}
use Rattle.rh_layout.specs.Layout.{Holds, IsLayout, keys_of}
use Rattle.rh_layout.specs.Test.{layout_test}
use Rattle.rh_layout.proofs.CountLemmas.{count_of_layout}
use Rattle.rh_layout.proofs.LayoutLemmas.{key_in-cell_of}
use Rattle.rh_layout.proofs.TestLemmas.{layout_decided, not_tested}
use Rattle.rh_snapshot.specs.declared.version.Version.{Version}
use Rattle.rh_snapshot.specs.declared.version.Version.TheVariants.{First, Second}
use Rattle.rh_snapshot.specs.declared.header.Header.{Header}
use Rattle.rh_snapshot.specs.Snapshot.{IsLaidOut, Table, cell_of_first, cells_as, keys_written, table_with}
use Rattle.rh_snapshot.specs.Reading.{is_table}

-- ---- values above the range

too_large : (b : ℕ) (cells : List ℕ) (c : ℕ) → c < length cells → cell_of MAX_KEY < get_or cells c 0 → IsLayout b cells → ⊥
too_large b cells c inside large layout =
    let k = key_in (get_or cells c 0) in
    let holds : Holds cells c k = (inside, omega (arith, large)) in
    omega (arith, large, layout.keys k (layout.no_other c k holds))

cell_of_key : (n : ℕ) → 0 < n → cell_of_first n ≡ cell_of n
cell_of_key n some = rw (ne_eqb n 0 (λ none. omega (arith, none, some))) refl

no_key : (b : ℕ) (numbers : List ℕ) (c : ℕ) → c < length numbers → MAX_KEY < get_or numbers c 0 → IsLayout b (map cell_of_first numbers) → ⊥
no_key b numbers c inside large layout =
    let cell : get_or (map cell_of_first numbers) c 0 ≡ cell_of (get_or numbers c 0) = get_or-map cell_of_first numbers c 0 0 inside ∙ cell_of_key (get_or numbers c 0) (omega (arith, large)) in
    too_large b (map cell_of_first numbers) c (rw length-map inside) (omega (arith, cell, large)) layout

-- numbers of a first version, of which one stands for no key
pub no_table : (header : Header) (numbers : List ℕ) (c : ℕ) → header.version ≡ First → c < length numbers → MAX_KEY < get_or numbers c 0 → is_table header numbers ≡ false
no_table header numbers c first inside large =
    let test : layout_test header.bits (cells_as header.version numbers) ≡ false =
    ap (λ v. layout_test header.bits (cells_as v numbers)) first ∙ sym (not_tested header.bits (map cell_of_first numbers) (no_key header.bits numbers c inside large)) in
    and_right _ _ test

pub numbers_fit : (version : Version) (b : ℕ) (numbers : List ℕ) (c : ℕ) → IsLayout b (cells_as version numbers) → c < length numbers → get_or numbers c 0 ≤ cell_of MAX_KEY
numbers_fit First b numbers c layout inside =
    elim (cases_lt MAX_KEY (get_or numbers c 0)) [
      | inl large ↦ absurd (no_key b numbers c inside large layout)
      | inr small ↦ omega (arith, small)
    ]
numbers_fit Second b numbers c layout inside =
    elim (cases_lt (cell_of MAX_KEY) (get_or numbers c 0)) [
      | inl large ↦ absurd (too_large b numbers c inside large layout)
      | inr small ↦ small
    ]

-- ---- the keys

full : (value : ℕ) → 0 < value → is_full value ≡ true
full value some = ap not (ne_eqb value 0 (λ none. omega (arith, none, some)))

full_kept : (n : ℕ) → is_full (cell_of_first n) ≡ is_full n
full_kept zero = refl
full_kept (suc n) = ap is_full (cell_of_key (suc n) (omega arith)) ∙ full (cell_of (suc n)) (omega arith) ∙ sym (full (suc n) (omega arith))

full_first : (value : ℕ) (cells : List ℕ) → 0 < value → filter is_full (value ∷ cells) ≡ value ∷ filter is_full cells
full_first value cells some = ap (λ t. cond t (value ∷ filter is_full cells) (filter is_full cells)) (full value some)

keys_kept : (numbers : List ℕ) → map key_in (filter is_full (map cell_of_first numbers)) ≡ filter is_full numbers
keys_kept [] = refl
keys_kept (zero ∷ numbers) = keys_kept numbers
keys_kept (suc n ∷ numbers) =
    let cells = map cell_of_first numbers in
    ap (λ v. map key_in (filter is_full (v ∷ cells))) (cell_of_key (suc n) (omega arith))
    ∙ ap (map key_in) (full_first (cell_of (suc n)) cells (omega arith))
    ∙ ap (λ k. k ∷ map key_in (filter is_full cells)) (key_in-cell_of (suc n))
    ∙ ap (λ l. suc n ∷ l) (keys_kept numbers) ∙ sym (full_first (suc n) numbers (omega arith))

pub same_keys : (version : Version) (numbers : List ℕ) → keys_of (cells_as version numbers) ≡ keys_written version numbers
unfolding keys_of
same_keys First numbers = ap set.from_list (keys_kept numbers)
same_keys Second numbers = refl

first_count : (numbers : List ℕ) → count_by is_full (map cell_of_first numbers) ≡ count_by is_full numbers
first_count [] = refl
first_count (n ∷ numbers) =
    sum_by-cons (λ v. cond (is_full v) 1 0) (cell_of_first n) (map cell_of_first numbers)
    ∙ ap (λ t. cond t 1 0 + count_by is_full (map cell_of_first numbers)) (full_kept n)
    ∙ ap (λ m. cond (is_full n) 1 0 + m) (first_count numbers)
    ∙ sym (sum_by-cons (λ v. cond (is_full v) 1 0) n numbers)

pub same_count : (version : Version) (numbers : List ℕ) → count_by is_full (cells_as version numbers) ≡ count_by is_full numbers
same_count First numbers = first_count numbers
same_count Second numbers = refl

-- ---- a table that was tested

pub record Tested (header : Header) (numbers : List ℕ) : Type 0 where
  pub count : count_by is_full numbers ≡ header.count
  pub free : header.count < 2 ^ header.bits
  pub layout : IsLayout header.bits (cells_as header.version numbers)

pub tested : (header : Header) (numbers : List ℕ) → is_table header numbers ≡ true → Tested header numbers
tested header numbers is =
    let parts = and_parts _ _ is in
    let counts = and_parts _ _ parts.0 in
    record {
      count = eqb-true _ _ counts.0;
      free = ltb-true _ _ counts.1;
      layout = (layout_decided header.bits (cells_as header.version numbers)).0 parts.1;
    }

pub laid_out : (header : Header) (numbers seal : List ℕ) (table : Table) → table ≡ table_with header numbers seal → is_table header numbers ≡ true → IsLaidOut table
laid_out header numbers seal table is test =
    let t = tested header numbers test in
    let cells = cells_as header.version numbers in
    let count : header.count ≡ set.len (keys_of cells) = sym t.count ∙ sym (same_count header.version numbers) ∙ count_of_layout cells header.bits (keys_of cells) t.layout in
    subst IsLaidOut (sym is) (record { layout = t.layout; count = count; free = subst (λ n. n < 2 ^ header.bits) count t.free })
