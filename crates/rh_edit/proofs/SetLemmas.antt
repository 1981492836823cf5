-- What the calls of a `SeqSet` leave.
use Rattle.std.proofs.Common.{◌≡◌, ℕ, ◌^◌, ◌<◌, inl, inr, refl, sym, ap, ◌∙◌, arith, List, length, take, drop, ◌++◌, get_or, replicate, Bool, true, false, cond, [], ◌∷◌, ◌+◌, ◌≤◌, ◌⊎◌}
use Rattle.std.specs.Ordering.{nat_cmp}
use Rattle.std.specs.Cmp.{nat_cmp_total}
use Rattle.std.specs.FinSet as set
use Rattle.std.specs.FinSet.{members, contains, contains-empty, empty_of_len, nat_cmp-IsAntisymmetric}
use Rattle.std.proofs.lemmas.Bool.{cases_lt, cases_eq}
use Rattle.std.proofs.lemmas.Nat.{pow_pos}
use Rattle.std.proofs.lemmas.List.{take_at, take_more, length-take, length-replicate, get_or-replicate, get_or_past}
use Rattle.rh_layout.specs.Key.{IsBits}
use Rattle.rh_layout.specs.Layout.{Keys, IsLayout, keys_of}
use Rattle.rh_layout.proofs.SetLemmas.{same_keys}
use Rattle.rh_layout.proofs.KeySetLemmas.{holds_from_contains}
use Rattle.rh_layout.proofs.LayoutLemmas.{at, layout_from_ordered}

-- the list behind a vector's slice, after a call wrote through it
pub wrote_back : (n : ℕ) (new items : List ℕ) → length new ≡ n → take n (new ++ drop (length new) items) ≡ new
wrote_back n new items e = take_at new (drop (length new) items) n e

pub ruleset set_members = (members, wrote_back)

zero_all : (n c : ℕ) (cells : List ℕ) → cells ≡ replicate n 0 → at cells c ≡ 0
zero_all n c cells e =
    let zero : ℕ = 0 in
    let at_replicate : get_or (replicate n zero) c zero ≡ zero = elim (cases_lt c n) [ inl l ↦ get_or-replicate n c zero zero l | inr g ↦ get_or_past (replicate n zero) c zero (omega (arith, length-replicate n zero)) ] in
    ap (λ (ys : List ℕ). get_or ys c zero) e ∙ at_replicate

-- ---- a table of empty cells
module _ (n : ℕ) (cells : List ℕ) (made : cells ≡ replicate n 0) where
  none : (c : ℕ) → at cells c ≡ 0
  none c = zero_all n c cells made

  pub keys_of_empty : keys_of cells ≡ set.empty
  keys_of_empty =
      same_keys (keys_of cells) set.empty
      (λ q has. let there = holds_from_contains cells q has in absurd (omega (arith, there.1.1, none there.0)))
      (λ q has. let e = contains-empty nat_cmp q in (cc))

  -- what a `SeqSet` keeps
  pub keeps_empty : (b : ℕ) → IsBits b → n ≡ 2 ^ b → IsLayout b cells × (0 ≡ set.len (keys_of cells)) × (0 < 2 ^ b)
  keeps_empty b fits size = (
    layout_from_ordered b cells fits (ap length made ∙ length-replicate n 0 ∙ size)
        (λ c k holds. absurd (omega (arith, holds.1, none c)))
        (λ c _ some. absurd (omega (arith, none c))),
    sym (ap set.len keys_of_empty ∙ set.len-empty nat_cmp),
    pow_pos b,
  )

-- a set that has a key has at least one
pub pos_of_contains : (S : Keys) (k : ℕ) → contains S k ≡ true → 0 < set.len S
pos_of_contains S k has =
    elim (cases_eq (set.len S) 0) [
      | inr pos ↦ omega arith
      | inl none ↦ let e : contains S k ≡ false = ap (λ (T : Keys). contains T k) (empty_of_len S none) ∙ contains-empty nat_cmp k in (cc)
    ]

pub ruleset removed_members = (set_members, pos_of_contains)

-- ---- the set of a list

pub len-from_list : (keys : List ℕ) → set.len (set.from_list {R = nat_cmp} keys) ≤ length keys
len-from_list [] = omega (arith, set.len-empty nat_cmp)
len-from_list (k ∷ keys) =
    let before = len-from_list keys in
    let after = set.len-insert nat_cmp_total (set.from_list {R = nat_cmp} keys) k in
    elim (cases_bool (contains (set.from_list {R = nat_cmp} keys) k)) [
      | inl has ↦ omega (arith, after ∙ ap (λ t. cond t (set.len (set.from_list {R = nat_cmp} keys)) (set.len (set.from_list {R = nat_cmp} keys) + 1)) has)
      | inr new ↦ omega (arith, after ∙ ap (λ t. cond t (set.len (set.from_list {R = nat_cmp} keys)) (set.len (set.from_list {R = nat_cmp} keys) + 1)) new)
    ]
  where
    cases_bool : (t : Bool) → (t ≡ true) ⊎ (t ≡ false)
    cases_bool true = inl refl
    cases_bool false = inr refl

-- what the loop over a list needs of the set so far: room for a key more, and the set that it makes
module _ (keys : List ℕ) (i : ℕ) where
  pub room_for_more : (bits b : ℕ) (S : Keys) → i < length keys → length keys < 2 ^ bits → b ≡ bits → S ≡ set.from_list (take i keys) → set.len S + 1 < 2 ^ b
  room_for_more bits b S inside room same is =
      rw (is, same) (omega (arith, len-from_list (take i keys), length-take i keys))

  pub from_list_more : (S : Keys) → i < length keys → S ≡ set.from_list (take i keys) → set.insert S (at keys i) ≡ set.from_list (take (i + 1) keys)
  from_list_more S inside is =
      ap (λ (T : Keys). set.insert T (at keys i)) is
      ∙ sym (ap (λ (l : List ℕ). set.from_list {R = nat_cmp} l) (take_more keys i 0 inside) ∙ set.from_list_push nat_cmp_total nat_cmp-IsAntisymmetric (take i keys) (at keys i))
