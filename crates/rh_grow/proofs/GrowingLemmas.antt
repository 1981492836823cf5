-- The keys of a table, cell by cell.
use Rattle.std.proofs.Common.{◌≡◌, ℕ, ◌+◌, ◌^◌, ◌<◌, ◌≤◌, refl, sym, ap, ◌∙◌, arith, List, [], ◌∷◌, ◌++◌, length, take, get_or-take, append-nil, cond, true, nat_eq}
use Rattle.std.specs.Prelude.{map, filter, not}
use Rattle.std.specs.Cmp.{nat_cmp_total}
use Rattle.std.specs.FinSet as set
use Rattle.std.specs.FinSet.{nat_cmp-IsAntisymmetric}
use Rattle.std.proofs.Math.Nat.{pow-le-pow_right}
use Rattle.std.proofs.lemmas.Bool.{ne_eqb}
use Rattle.std.proofs.lemmas.List.{length-take, map-append}
use Rattle.std.proofs.lemmas.List.Sums.{sum_by-take-le, count_by_more_yes}
use Rattle.std.proofs.lemmas.List.Elements.{filter_more}
use Rattle.rh_layout.specs.Key.{key_in, is_full}
use Rattle.rh_layout.specs.Layout.{Keys, IsLayout, keys_of}
use Rattle.rh_layout.proofs.LayoutLemmas.{at}
use Rattle.rh_layout.proofs.CountLemmas.{IsOnceIn, len-keys_of, count_of_layout}

pub keys_of_none : keys_of [] ≡ set.empty
unfolding keys_of
keys_of_none = refl

module _ (cells : List ℕ) (i : ℕ) (inside : i < length cells) where
  -- the values of the full cells before cell i
  abbrev before : List ℕ
  before = filter is_full (take i cells)

  pub keys_of_more_empty : (S : Keys) → at cells i ≡ 0 → S ≡ keys_of (take i cells) → S ≡ keys_of (take (i + 1) cells)
  unfolding keys_of
  keys_of_more_empty S none is =
      is
      ∙ sym (ap (λ l. set.from_list (map key_in l)) (filter_more is_full cells i 0 inside ∙ ap (λ v. before ++ cond (is_full v) (v ∷ []) []) none ∙ append-nil before))

  pub keys_of_more_full : (S : Keys) (k : ℕ) → at cells i ≡ k + 1 → S ≡ keys_of (take i cells) → set.insert S k ≡ keys_of (take (i + 1) cells)
  unfolding keys_of
  keys_of_more_full S k full is =
      let some : not (nat_eq (at cells i) 0) ≡ true = ap not (ne_eqb (at cells i) 0 (λ e. omega arith)) in
      let key : key_in (at cells i) ≡ k = omega arith in
      ap (λ (T : Keys). set.insert T k) is
      ∙ sym
      (ap (λ l. set.from_list (map key_in l)) (filter_more is_full cells i 0 inside ∙ ap (λ t. before ++ cond t (at cells i ∷ []) []) some)
      ∙ ap set.from_list (map-append key_in before (at cells i ∷ []))
      ∙ set.from_list_push nat_cmp_total nat_cmp-IsAntisymmetric (map key_in before) (key_in (at cells i))
      ∙ ap (λ q. set.insert (set.from_list (map key_in before)) q) key)

  once_before : IsOnceIn cells → IsOnceIn (take i cells)
  once_before once c d k p q =
      let c_in : c < i = omega (arith, p.0, length-take i cells) in
      let d_in : d < i = omega (arith, q.0, length-take i cells) in
      once c d k (omega arith, sym (get_or-take i cells c 0 c_in) ∙ p.1) (omega arith, sym (get_or-take i cells d 0 d_in) ∙ q.1)

  -- Before a full cell there is room for its key.
  pub room_for_more : (b new_bits size : ℕ) (S : Keys) → IsLayout b cells → set.len (keys_of cells) < 2 ^ b → b ≤ new_bits → size ≡ new_bits → 0 < at cells i → S ≡ keys_of (take i cells) → set.len S + 1 < 2 ^ size
  room_for_more b new_bits size S layout room larger same some is =
      let full : is_full (at cells i) ≡ true = ap not (ne_eqb (at cells i) 0 (λ e. omega arith)) in
      rw (is, same)
      (omega (arith, len-keys_of (take i cells) (once_before layout.once), count_by_more_yes is_full cells i 0 inside full, sum_by-take-le (λ v. cond (is_full v) 1 0) cells (i + 1), count_of_layout cells b (keys_of cells) layout, pow-le-pow_right {n = 2} (omega arith) larger))
