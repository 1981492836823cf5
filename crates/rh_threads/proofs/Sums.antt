-- What all hands have counted, and what they have marked.
use Rattle.std.proofs.Common.{◌≡◌, ℕ, zero, suc, ◌+◌, ◌<◌, ◌≤◌, ⊎_elim, Bool, true, false, true≢false, List, [], ◌∷◌, length, get_or, map, refl, sym, ap, ◌∙◌, subst, arith}
use Rattle.std.specs.Prelude.{◌||◌, slice_index_or}
use Rattle.std.specs.List.{Contains}
use mathlib.Core.Option.{some, some-injective, some-ne-none}
use lib.ListN.{get_elem?}
use Rattle.std.proofs.lemmas.List.{get_or-map}
use Rattle.rh_layout.specs.Layout.{Keys}
use Rattle.rh_ledger.specs.declared.tally.Kind.{Kind}
use Rattle.rh_ledger.specs.declared.tally.Kind.TheVariants.{Insert, Remove, Ask}
use Rattle.rh_ledger.specs.declared.tally.Tally.{Tally}
use Rattle.rh_ledger.specs.Phase.{tally_of}
use Rattle.rh_world.proofs.Updated.{same_nat}
use Rattle.rh_acts.specs.Workers.{counted, how_many, sum_of_all}
use Rattle.rh_ledger.specs.Tally.{tally_by}
use Rattle.rh_acts.proofs.ActLemmas.{contains_cases, contains_head, contains_none, contains_tail}
use Rattle.rh_acts.proofs.FoldLemmas.{added_len, removed_len, tally_of_ask, tally_of_insert, tally_of_remove}
use Rattle.rh_threads.specs.Rounds.{all_changed, is_marked}
use Rattle.rh_threads.specs.declared.hand.Hand.{Hand}

-- ---- sums over the workers

abbrev pub sum_below : (ℕ → ℕ) → ℕ → ℕ
sum_below f zero = 0
sum_below f (suc n) = sum_below f n + f n

sum_shift : (f : ℕ → ℕ) (n : ℕ) → sum_below f (suc n) ≡ f 0 + sum_below (λ v. f (suc v)) n
sum_shift f zero = let h : 0 + f 0 ≡ f 0 + 0 = omega arith in h
sum_shift f (suc n) =
    let h : sum_below f n + f n ≡ f 0 + sum_below (λ v. f (suc v)) n = sum_shift f n in
    let g : (sum_below f n + f n) + f (suc n) ≡ f 0 + (sum_below (λ v. f (suc v)) n + f (suc n)) = omega (arith, h) in g

pub one_of_sum : (f : ℕ → ℕ) (n v : ℕ) → v < n → f v ≤ sum_below f n
one_of_sum f zero v less = absurd (omega (arith, less))
one_of_sum f (suc n) v less = ⊎_elim
    (λ (e : v ≡ n). subst (λ (u : ℕ). f u ≤ sum_below f n + f n) (sym e) (let g : f n ≤ sum_below f n + f n = omega arith in g))
    (λ ne. let h : f v ≤ sum_below f n = one_of_sum f n v (omega (arith, less, ne)) in let g : f v ≤ sum_below f n + f n = omega (arith, h) in g)
    (same_nat v n)

pub all_changed_is : (hs : List Hand) (f : ℕ → ℕ) → ((v : ℕ) (h : Hand) → get_elem? hs v ≡ some h → h.changed ≡ f v) → all_changed hs ≡ sum_below f (length hs)
all_changed_is [] f each = refl
all_changed_is (h ∷ hs) f each =
    let first : h.changed ≡ f 0 = each 0 h refl in
    let rest : all_changed hs ≡ sum_below (λ v. f (suc v)) (length hs) = all_changed_is hs (λ v. f (suc v)) (λ v g at. each (suc v) g at) in
    let sum : h.changed + all_changed hs ≡ f 0 + sum_below (λ v. f (suc v)) (length hs) = omega (arith, first, rest) in
    sum ∙ sym (sum_shift f (length hs))

-- ---- of a tally the count that its kind names

abbrev pub count_in : Kind → Tally → ℕ
count_in Insert t = t.added
count_in Remove t = t.removed
count_in Ask t = t.found

pub count_sum : (kind : Kind) (answers : ℕ → List Bool) (n : ℕ) → count_in kind (sum_of_all (λ v. counted kind (answers v)) n) ≡ sum_below (λ v. how_many (answers v)) n
count_sum Insert answers zero = refl
count_sum Insert answers (suc n) = ap (λ (m : ℕ). m + how_many (answers n)) (count_sum Insert answers n)
count_sum Remove answers zero = refl
count_sum Remove answers (suc n) = ap (λ (m : ℕ). m + how_many (answers n)) (count_sum Remove answers n)
count_sum Ask answers zero = refl
count_sum Ask answers (suc n) = ap (λ (m : ℕ). m + how_many (answers n)) (count_sum Ask answers n)

pub tally_is : (kind : Kind) (S : Keys) (keys : List ℕ) → tally_by kind (length keys) (count_in kind (tally_of kind S keys)) ≡ tally_of kind S keys
tally_is Insert S keys = tally_of_insert S keys (tally_of Insert S keys).added (let a = added_len S keys in omega (arith, a))
tally_is Remove S keys = tally_of_remove S keys (tally_of Remove S keys).removed (let a = removed_len S keys in omega (arith, a))
tally_is Ask S keys = ap (λ (n : ℕ). tally_by Ask (length keys) n) (sym (ap (λ (t : Tally). t.found) (tally_of_ask S keys))) ∙ tally_of_ask S keys

-- ---- the marks

abbrev MarkedBy : List Hand → (p : ℕ) → Type 0
MarkedBy hs p = (v : ℕ) × (h : Hand) × (get_elem? hs v ≡ some h) × (slice_index_or h.found.items p false ≡ true)

pub marked_by : (hs : List Hand) (p : ℕ) → is_marked hs p ≡ true → MarkedBy hs p
marked_by [] p is = absurd (true≢false (sym is))
marked_by (h ∷ hs) p is = go (slice_index_or h.found.items p false) refl (λ e. marked_by hs p e) is
  where
    go : (b : Bool) → slice_index_or h.found.items p false ≡ b → (is_marked hs p ≡ true → MarkedBy hs p) → (b || is_marked hs p) ≡ true → MarkedBy (h ∷ hs) p
    go true here later e = (0, h, refl, here)
    go false here later e = let l = later e in (suc l.0, l.1, l.2, l.3)

pub by_one : (hs : List Hand) (p v : ℕ) (h : Hand) → get_elem? hs v ≡ some h → slice_index_or h.found.items p false ≡ true → is_marked hs p ≡ true
by_one [] p v h at is = absurd (some-ne-none h (sym at))
by_one (g ∷ hs) p zero h at is = ap (λ (b : Bool). b || is_marked hs p) (ap (λ (x : Hand). slice_index_or x.found.items p false) (some-injective g h at) ∙ is)
by_one (g ∷ hs) p (suc v) h at is = go (slice_index_or g.found.items p false) (by_one hs p v h at is)
  where
    go : (b : Bool) → is_marked hs p ≡ true → (b || is_marked hs p) ≡ true
    go true later = refl
    go false later = later

pub same_truth : (a b : Bool) → (a ≡ true → b ≡ true) → (b ≡ true → a ≡ true) → a ≡ b
same_truth true b to back = sym (to refl)
same_truth false true to back = back refl
same_truth false false to back = refl

-- ---- lists that are made alike

pub alike_at : {A : Type 0} (f g : A → Bool) (l : List A) (a : A) → map f l ≡ map g l → Contains l a → f a ≡ g a
alike_at f g l a same h =
    sym (get_or-map f l h.0 a (f a) h.1 ∙ ap f h.2) ∙ ap (λ (m : List Bool). get_or m h.0 (f a)) same ∙ get_or-map g l h.0 a (f a) h.1 ∙ ap g h.2

pub of_mapped : {A : Type 0} (f : A → ℕ) (l : List A) (n : ℕ) → Contains (map f l) n → (a : A) × Contains l a × (f a ≡ n)
of_mapped f [] n h = absurd (contains_none n h)
of_mapped f (x ∷ xs) n h = ⊎_elim
    (λ (e : f x ≡ n). (x, contains_head x xs, e))
    (λ later. let r = of_mapped f xs n later in (r.0, contains_tail x r.0 xs r.1, r.2))
    (contains_cases (f x) n (map f xs) h)
