-- A phase in parts.
use Rattle.std.proofs.Common.{◌≡◌, ℕ, ◌+◌, ◌<◌, ◌≤◌, ◌⊎◌, inl, inr, refl, ap, ◌∙◌, sym, arith, Bool, true, false, cond, List, [], ◌∷◌, ◌++◌, length, take, get_or}
use Rattle.std.specs.Cmp.{nat_cmp_total}
use Rattle.std.specs.FinSet as set
use Rattle.std.specs.FinSet.{contains}
use Rattle.std.proofs.lemmas.List.{take_more}
use Rattle.rh_layout.specs.Layout.{Keys}
use Rattle.rh_ledger.specs.declared.tally.Kind.{Kind}
use Rattle.rh_ledger.specs.declared.tally.Kind.TheVariants.{Insert}
use Rattle.rh_ledger.specs.declared.tally.Tally.{Tally}
use Rattle.rh_ledger.specs.Tally.{sum_of, none_yet}
use Rattle.rh_ledger.specs.Phase.{set_with, count_of, set_after, tally_of}

pub set_after-append : (kind : Kind) (S : Keys) (xs ys : List ℕ) → set_after kind S (xs ++ ys) ≡ set_after kind (set_after kind S xs) ys
set_after-append kind S [] ys = refl
set_after-append kind S (k ∷ xs) ys = set_after-append kind (set_with kind S k) xs ys

same_tally : (a b : Tally) → a.read ≡ b.read → a.added ≡ b.added → a.removed ≡ b.removed → a.found ≡ b.found → a ≡ b
same_tally a b p q r s = λ i. record { read = p i; added = q i; removed = r i; found = s i }

pub sum-none : (t : Tally) → sum_of none_yet t ≡ t
sum-none t = same_tally (sum_of none_yet t) t (omega arith) (omega arith) (omega arith) (omega arith)

sum-none_right : (t : Tally) → sum_of t none_yet ≡ t
sum-none_right t = same_tally (sum_of t none_yet) t (omega arith) (omega arith) (omega arith) (omega arith)

cond_cases : (b : Bool) (m n : ℕ) → (cond b m n ≡ m) ⊎ (cond b m n ≡ n)
cond_cases true m n = inl refl
cond_cases false m n = inr refl

pub sum-assoc : (a b c : Tally) → sum_of a (sum_of b c) ≡ sum_of (sum_of a b) c
sum-assoc a b c = same_tally (sum_of a (sum_of b c)) (sum_of (sum_of a b) c) (omega arith) (omega arith) (omega arith) (omega arith)

pub tally_of-append : (kind : Kind) (S : Keys) (xs ys : List ℕ) → tally_of kind S (xs ++ ys) ≡ sum_of (tally_of kind S xs) (tally_of kind (set_after kind S xs) ys)
tally_of-append kind S [] ys = sym (sum-none (tally_of kind S ys))
tally_of-append kind S (k ∷ xs) ys =
    ap (sum_of (count_of kind S k)) (tally_of-append kind (set_with kind S k) xs ys)
    ∙ sum-assoc (count_of kind S k) (tally_of kind (set_with kind S k) xs) (tally_of kind (set_after kind (set_with kind S k) xs) ys)

-- ---- one more key of the list

module _ (kind : Kind) (S : Keys) (keys : List ℕ) (i : ℕ) (inside : i < length keys) where
  abbrev so_far : Keys
  so_far = set_after kind S (take i keys)

  pub set_after_more : set_after kind S (take (i + 1) keys) ≡ set_with kind (set_after kind S (take i keys)) (get_or keys i 0)
  set_after_more = ap (set_after kind S) (take_more keys i 0 inside) ∙ set_after-append kind S (take i keys) (get_or keys i 0 ∷ [])

  pub tally_of_more : tally_of kind S (take (i + 1) keys) ≡ sum_of (tally_of kind S (take i keys)) (count_of kind (set_after kind S (take i keys)) (get_or keys i 0))
  tally_of_more =
      ap (tally_of kind S) (take_more keys i 0 inside)
      ∙ tally_of-append kind S (take i keys) (get_or keys i 0 ∷ [])
      ∙ ap (sum_of (tally_of kind S (take i keys))) (sum-none_right (count_of kind so_far (get_or keys i 0)))

-- ---- how many keys there can be

len-insert-le : (S : Keys) (k : ℕ) → set.len (set.insert S k) ≤ set.len S + 1
len-insert-le S k =
    let e = set.len-insert nat_cmp_total S k in
    elim (cond_cases (contains S k) (set.len S) (set.len S + 1)) [ inl same ↦ omega (arith, e, same) | inr more ↦ omega (arith, e, more) ]

pub len-insert_all : (S : Keys) (keys : List ℕ) → set.len (set_after Insert S keys) ≤ set.len S + length keys
len-insert_all S [] = omega arith
len-insert_all S (k ∷ keys) = omega (arith, len-insert_all (set.insert S k) keys, len-insert-le S k)
