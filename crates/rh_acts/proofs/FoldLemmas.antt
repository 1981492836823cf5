-- Phases over lists: their sets by members, and their tallies by sizes.
use Rattle.std.proofs.Common.{◌≡◌, ℕ, ◌+◌, ◌-◌, ◌<◌, ◌≤◌, ◌⊎◌, inl, inr, refl, sym, ap, ◌∙◌, arith, List, [], ◌∷◌, length, get_or, Bool, true, false, cond}
use Rattle.std.specs.Prelude.{IsTrue}
use Rattle.std.specs.List.{Contains, count_by}
use Rattle.std.specs.Ordering.{nat_cmp, eq_by_cmp}
use Rattle.std.specs.Cmp.{nat_cmp_total, unsigned_tied}
use Rattle.std.specs.FinSet as set
use Rattle.std.specs.FinSet.{contains, contains-empty, contains-items, empty_of_len, len-insert, len-remove}
use Rattle.std.proofs.lemmas.Bool.{cases_eq, eqb-true, eq-eqb}
use Rattle.std.proofs.lemmas.List.Folds.{Any-from_list_any, list_any_at}
use Rattle.std.proofs.lemmas.List.Sums.{sum_by-cons}
use Rattle.rh_layout.specs.Layout.{Keys}
use Rattle.rh_layout.proofs.SetLemmas.{same_keys, put_cases, put_it, put_kept, out_cases, out_kept}
use Rattle.rh_ledger.specs.declared.tally.Kind.TheVariants.{Insert, Remove, Ask}
use Rattle.rh_ledger.specs.declared.tally.Tally.{Tally}
use Rattle.rh_ledger.specs.Tally.{none_yet, added_of, removed_of}
use Rattle.rh_ledger.specs.Phase.{set_after, tally_of, looked_up}
use Rattle.rh_acts.proofs.ActLemmas.{contains_head, contains_tail, contains_cases, contains_none}

pub true_or_false : (t : Bool) → (t ≡ true) ⊎ (t ≡ false)
true_or_false true = inl refl
true_or_false false = inr refl

pub then_is : (t : Bool) (m n : ℕ) → t ≡ true → cond t m n ≡ m
then_is t m n e = ap (λ s. cond s m n) e

pub else_is : (t : Bool) (m n : ℕ) → t ≡ false → cond t m n ≡ n
else_is t m n e = ap (λ s. cond s m n) e

pub same_tally : (a b : Tally) → a.read ≡ b.read → a.added ≡ b.added → a.removed ≡ b.removed → a.found ≡ b.found → a ≡ b
same_tally a b p q r s = λ i. record { read = p i; added = q i; removed = r i; found = s i }

-- ---- sizes of sets

pub len_new : (S : Keys) (k : ℕ) → contains S k ≡ false → set.len (set.insert S k) ≡ set.len S + 1
len_new S k e = len-insert nat_cmp_total S k ∙ ap (λ t. cond t (set.len S) (set.len S + 1)) e

len_old : (S : Keys) (k : ℕ) → contains S k ≡ true → set.len (set.insert S k) ≡ set.len S
len_old S k e = len-insert nat_cmp_total S k ∙ ap (λ t. cond t (set.len S) (set.len S + 1)) e

-- a set that has a key has at least one
some_of_contains : (S : Keys) (k : ℕ) → contains S k ≡ true → 0 < set.len S
some_of_contains S k has =
    elim (cases_eq (set.len S) 0) [
      | inr pos ↦ omega arith
      | inl none ↦ let e : contains S k ≡ false = ap (λ (T : Keys). contains T k) (empty_of_len S none) ∙ contains-empty nat_cmp k in (cc)
    ]

pub len_out : (S : Keys) (k : ℕ) → contains S k ≡ true → set.len (set.remove S k) + 1 ≡ set.len S
len_out S k e = let got = len-remove nat_cmp_total S k ∙ ap (λ t. cond t (set.len S - 1) (set.len S)) e in omega (arith, got, some_of_contains S k e)

len_kept : (S : Keys) (k : ℕ) → contains S k ≡ false → set.len (set.remove S k) ≡ set.len S
len_kept S k e = len-remove nat_cmp_total S k ∙ ap (λ t. cond t (set.len S - 1) (set.len S)) e

-- ---- insertions

pub all_kept : (S : Keys) (ks : List ℕ) (q : ℕ) → IsTrue (contains S q) → IsTrue (contains (set_after Insert S ks) q)
all_kept S [] q h = h
all_kept S (k ∷ ks) q h = all_kept (set.insert S k) ks q (put_kept S k q h)

pub all_there : (S : Keys) (ks : List ℕ) (q : ℕ) → Contains ks q → IsTrue (contains (set_after Insert S ks) q)
all_there S [] q h = absurd (contains_none q h)
all_there S (k ∷ ks) q h =
    elim (contains_cases k q ks h) [
      | inl is ↦ all_kept (set.insert S k) ks q (rw (← is) (put_it S k))
      | inr later ↦ all_there (set.insert S k) ks q later
    ]

pub there_cases : (S : Keys) (ks : List ℕ) (q : ℕ) → IsTrue (contains (set_after Insert S ks) q) → IsTrue (contains S q) ⊎ Contains ks q
there_cases S [] q h = inl h
there_cases S (k ∷ ks) q h =
    elim (there_cases (set.insert S k) ks q h) [
      | inl h' ↦ elim (put_cases S k q h') [ inl is ↦ inr (rw is (contains_head k ks)) | inr old ↦ inl old ]
      | inr later ↦ inr (contains_tail k q ks later)
    ]

pub added_len : (S : Keys) (ks : List ℕ) → (tally_of Insert S ks).added + set.len S ≡ set.len (set_after Insert S ks)
added_len S [] = omega arith
added_len S (k ∷ ks) =
    elim (true_or_false (contains S k)) [
      | inl has ↦ omega (arith, then_is (contains S k) 0 1 has, len_old S k has, added_len (set.insert S k) ks)
      | inr new ↦ omega (arith, else_is (contains S k) 0 1 new, len_new S k new, added_len (set.insert S k) ks)
    ]

-- An insert phase counts its keys, and by how many keys the set grew.
pub tally_of_insert : (S : Keys) (ks : List ℕ) (n : ℕ) → set.len (set_after Insert S ks) ≡ set.len S + n → added_of (length ks) n ≡ tally_of Insert S ks
tally_of_insert S ks n grew = same_tally (added_of (length ks) n) (tally_of Insert S ks) (sym (reads S ks)) (omega (arith, added_len S ks)) (sym (others S ks).0) (sym (others S ks).1)
  where
    reads : (S : Keys) (ks : List ℕ) → (tally_of Insert S ks).read ≡ length ks
    reads S [] = refl
    reads S (k ∷ ks) = omega (arith, reads (set.insert S k) ks)

    others : (S : Keys) (ks : List ℕ) → ((tally_of Insert S ks).removed ≡ 0) × ((tally_of Insert S ks).found ≡ 0)
    others S [] = (refl, refl)
    others S (k ∷ ks) = let later = others (set.insert S k) ks in (omega (arith, later.0), omega (arith, later.1))

-- ---- a part is no larger

item_of : (T : Keys) (q : ℕ) → IsTrue (contains T q) → Contains (set.items T) q
item_of T q h =
    let some = Any-from_list_any (eq_by_cmp nat_cmp q) (set.items T) (sym (contains-items T q) ∙ h) in
    let is : q ≡ some.1 = eqb-true q some.1 (sym (unsigned_tied q some.1) ∙ some.4) in
    rw is (some.0, some.2, some.3)

of_item : (T : Keys) (q : ℕ) → Contains (set.items T) q → IsTrue (contains T q)
of_item T q h =
    let same : q ≡ get_or (set.items T) h.0 q = sym h.2 in
    contains-items T q ∙ list_any_at (eq_by_cmp nat_cmp q) (set.items T) h.0 q h.1 (unsigned_tied q (get_or (set.items T) h.0 q) ∙ eq-eqb q (get_or (set.items T) h.0 q) same)

pub len_part : (S T : Keys) → ((q : ℕ) → IsTrue (contains S q) → IsTrue (contains T q)) → set.len S ≤ set.len T
len_part S T part =
    let whole : set_after Insert S (set.items T) ≡ T = same_keys (set_after Insert S (set.items T)) T
    (λ q h. elim (there_cases S (set.items T) q h) [ inl old ↦ part q old | inr in' ↦ of_item T q in' ])
    (λ q h. all_there S (set.items T) q (item_of T q h)) in
    omega (arith, added_len S (set.items T), ap set.len whole)

-- ---- removals

pub left_part : (S : Keys) (ks : List ℕ) (q : ℕ) → IsTrue (contains (set_after Remove S ks) q) → IsTrue (contains S q)
left_part S [] q h = h
left_part S (k ∷ ks) q h = (out_cases S k q (left_part (set.remove S k) ks q h)).1

pub left_out : (S : Keys) (ks : List ℕ) (q : ℕ) → Contains ks q → IsTrue (contains (set_after Remove S ks) q) → ⊥
left_out S [] q h has = contains_none q h
left_out S (k ∷ ks) q h has =
    elim (contains_cases k q ks h) [
      | inl is ↦ (out_cases S k q (left_part (set.remove S k) ks q has)).0 (sym is)
      | inr later ↦ left_out (set.remove S k) ks q later has
    ]

pub left_kept : (S : Keys) (ks : List ℕ) (q : ℕ) → IsTrue (contains S q) → (Contains ks q → ⊥) → IsTrue (contains (set_after Remove S ks) q)
left_kept S [] q h other = h
left_kept S (k ∷ ks) q h other = left_kept (set.remove S k) ks q (out_kept S k q (λ e. other (rw e (contains_head k ks))) h) (λ later. other (contains_tail k q ks later))

pub removed_len : (S : Keys) (ks : List ℕ) → (tally_of Remove S ks).removed + set.len (set_after Remove S ks) ≡ set.len S
removed_len S [] = omega arith
removed_len S (k ∷ ks) =
    elim (true_or_false (contains S k)) [
      | inl has ↦ omega (arith, then_is (contains S k) 1 0 has, len_out S k has, removed_len (set.remove S k) ks)
      | inr new ↦ omega (arith, else_is (contains S k) 1 0 new, len_kept S k new, removed_len (set.remove S k) ks)
    ]

-- A remove phase counts its keys, and by how many keys the set shrank.
pub tally_of_remove : (S : Keys) (ks : List ℕ) (n : ℕ) → set.len (set_after Remove S ks) + n ≡ set.len S → removed_of (length ks) n ≡ tally_of Remove S ks
tally_of_remove S ks n shrank = same_tally (removed_of (length ks) n) (tally_of Remove S ks) (sym (reads S ks)) (sym (others S ks).0) (omega (arith, removed_len S ks)) (sym (others S ks).1)
  where
    reads : (S : Keys) (ks : List ℕ) → (tally_of Remove S ks).read ≡ length ks
    reads S [] = refl
    reads S (k ∷ ks) = omega (arith, reads (set.remove S k) ks)

    others : (S : Keys) (ks : List ℕ) → ((tally_of Remove S ks).added ≡ 0) × ((tally_of Remove S ks).found ≡ 0)
    others S [] = (refl, refl)
    others S (k ∷ ks) = let later = others (set.remove S k) ks in (omega (arith, later.0), omega (arith, later.1))

-- ---- look-ups

pub set_of_ask : (S : Keys) (ks : List ℕ) → set_after Ask S ks ≡ S
set_of_ask S [] = refl
set_of_ask S (k ∷ ks) = set_of_ask S ks

-- An ask phase counts its keys, and the look-ups that found theirs.
pub tally_of_ask : (S : Keys) (ks : List ℕ) → record none_yet { read = length ks; found = count_by (λ t. t) (looked_up S ks) } ≡ tally_of Ask S ks
tally_of_ask S ks = same_tally (record none_yet { read = length ks; found = count_by (λ t. t) (looked_up S ks) }) (tally_of Ask S ks) (sym (reads S ks)) (sym (others S ks).0) (sym (others S ks).1) (finds S ks)
  where
    reads : (S : Keys) (ks : List ℕ) → (tally_of Ask S ks).read ≡ length ks
    reads S [] = refl
    reads S (k ∷ ks) = omega (arith, reads S ks)

    others : (S : Keys) (ks : List ℕ) → ((tally_of Ask S ks).added ≡ 0) × ((tally_of Ask S ks).removed ≡ 0)
    others S [] = (refl, refl)
    others S (k ∷ ks) = let later = others S ks in (omega (arith, later.0), omega (arith, later.1))

    finds : (S : Keys) (ks : List ℕ) → count_by (λ t. t) (looked_up S ks) ≡ (tally_of Ask S ks).found
    finds S [] = refl
    finds S (k ∷ ks) = sum_by-cons (λ t. cond t 1 0) (contains S k) (looked_up S ks) ∙ ap (λ n. cond (contains S k) 1 0 + n) (finds S ks)
