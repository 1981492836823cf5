-- How many keys a layout holds, and how many of its cells are free.
use Rattle.std.proofs.Common.{◌≡◌, ℕ, zero, suc, ◌+◌, ◌^◌, ◌<◌, inl, inr, sym, ap, ◌∙◌, arith, List, [], ◌∷◌, length, get_or, count_by, cond, false}
use Rattle.std.specs.Prelude.{not}
use Rattle.std.specs.Ordering.{nat_cmp}
use Rattle.std.specs.Cmp.{nat_cmp_total}
use Rattle.std.specs.FinSet as set
use Rattle.std.specs.FinSet.{contains, len-insert, len-empty}
use Rattle.std.proofs.lemmas.Bool.{cases_eq, ne_eqb}
use Rattle.std.proofs.lemmas.List.Sums.{sum_by-cons, count_by-le-length}
use Rattle.rh_layout.specs.Key.{key_in, is_full}
use Rattle.rh_layout.specs.Layout.{Keys, Holds, Layout, HasFree, HasTwoFree, keys_of}
use Rattle.rh_layout.proofs.SetLemmas.{not_true}
use Rattle.rh_layout.proofs.KeySetLemmas.{keys_of-empty, keys_of-full, holds_from_contains}
use Rattle.rh_layout.proofs.LayoutLemmas.{layout_keys}

abbrev pub full_count : List ℕ → ℕ
full_count cells = count_by is_full cells

count-empty : (value : ℕ) (cells : List ℕ) → value ≡ 0 → full_count (value ∷ cells) ≡ full_count cells
count-empty value cells none = ap (λ v. full_count (v ∷ cells)) none

pub count-full : (value : ℕ) (cells : List ℕ) → 0 < value → full_count (value ∷ cells) ≡ full_count cells + 1
count-full value cells some = sum_by-cons (λ v. cond (is_full v) 1 0) value cells ∙ ap (λ t. cond (not t) 1 0 + full_count cells) (ne_eqb value 0 (λ e. omega arith)) ∙ omega arith

-- No key stands in two cells of the list.
abbrev pub IsOnceIn : List ℕ → Type 0
IsOnceIn cells = (c d k : ℕ) → Holds cells c k → Holds cells d k → c ≡ d

once_tail : (value : ℕ) (cells : List ℕ) → IsOnceIn (value ∷ cells) → IsOnceIn cells
once_tail value cells once c d k p q = let e : suc c ≡ suc d = once (suc c) (suc d) k (omega (arith, p.0), p.1) (omega (arith, q.0), q.1) in omega arith

pub len-keys_of : (cells : List ℕ) → IsOnceIn cells → set.len (keys_of cells) ≡ full_count cells
unfolding keys_of
len-keys_of [] once = len-empty nat_cmp
len-keys_of (value ∷ cells) once =
    let later = len-keys_of cells (once_tail value cells once) in
    elim (cases_eq value 0) [
      | inl none ↦ rw (ap (λ v. keys_of (v ∷ cells)) none ∙ keys_of-empty cells, count-empty value cells none) later
      | inr some ↦
          let key = key_in value in
          let new : contains (keys_of cells) key ≡ false = not_true (contains (keys_of cells) key) (λ has.
          let there = holds_from_contains cells key has in
          let e : 0 ≡ suc there.0 = once 0 (suc there.0) key (omega arith, omega arith) (omega (arith, there.1.0), there.1.1) in omega arith) in
          rw (keys_of-full value cells (omega arith), count-full value cells (omega arith))
          (len-insert nat_cmp_total (keys_of cells) key ∙ ap (λ t. cond t (set.len (keys_of cells)) (set.len (keys_of cells) + 1)) new ∙ ap (λ m. m + 1) later)
    ]

-- A layout has as many full cells as its set has keys.
pub count_of_layout : (cells : List ℕ) (b : ℕ) (S : Keys) → Layout cells b S → full_count cells ≡ set.len S
count_of_layout cells b S layout = sym (len-keys_of cells layout.once) ∙ ap set.len (sym (layout_keys cells b S layout))

pub free_from_count : (cells : List ℕ) → full_count cells < length cells → HasFree cells
free_from_count [] less = absurd (omega arith)
free_from_count (value ∷ cells) less =
    elim (cases_eq value 0) [
      | inl none ↦ (0, omega arith, none)
      | inr some ↦ let got = free_from_count cells (omega (arith, count-full value cells (omega arith))) in (suc got.0, omega (arith, got.1), got.2)
    ]

two_from_count : (cells : List ℕ) → full_count cells + 1 < length cells → HasTwoFree cells
two_from_count [] less = absurd (omega arith)
two_from_count (value ∷ cells) less =
    elim (cases_eq value 0) [
      | inl none ↦ let got = free_from_count cells (omega (arith, count-empty value cells none)) in (0, suc got.0, omega arith, omega (arith, got.1), none, got.2)
      | inr some ↦ let got = two_from_count cells (omega (arith, count-full value cells (omega arith))) in (suc got.0, suc got.1, omega (arith, got.2), omega (arith, got.3), got.4, got.5)
    ]

pub count_from_free : (cells : List ℕ) (c : ℕ) → c < length cells → get_or cells c 0 ≡ 0 → full_count cells < length cells
count_from_free [] c c_in none = absurd (omega arith)
count_from_free (value ∷ cells) zero c_in none = omega (arith, count-empty value cells none, count_by-le-length is_full cells)
count_from_free (value ∷ cells) (suc c) c_in none =
    let later = count_from_free cells c (omega arith) none in
    elim (cases_eq value 0) [
      | inl empty ↦ omega (arith, count-empty value cells empty)
      | inr some ↦ omega (arith, count-full value cells (omega arith))
    ]

pub free_from_len : (cells : List ℕ) (b : ℕ) (S : Keys) → Layout cells b S → set.len S < 2 ^ b → HasFree cells
free_from_len cells b S layout less = free_from_count cells (omega (arith, count_of_layout cells b S layout, layout.size))

pub two_from_len : (cells : List ℕ) (b : ℕ) (S : Keys) → Layout cells b S → set.len S + 1 < 2 ^ b → HasTwoFree cells
two_from_len cells b S layout less = two_from_count cells (omega (arith, count_of_layout cells b S layout, layout.size))
