-- Texts written one after another.
use Rattle.std.proofs.Common.{◌≡◌, ℕ, zero, suc, ◌+◌, ◌<◌, min, List, [], ◌∷◌, ◌++◌, length, take, drop, Option, Result, Ok, Err, sym, refl, ap, ◌∙◌, subst, arith, append_assoc, inl, inr, get_or, flat_map}
use Rattle.std.proofs.lemmas.List.{take-append-le, take_all}
use Rattle.std.specs.Io.KnownBytes.{Appends}
use Rattle.std.proofs.KnownBytes.{Appends-nil, Appends-trans}
use Rattle.std.proofs.Math.Seq.{take-append-add, take-append_seam}
use Rattle.std.proofs.lemmas.Bool.{cases_lt}
use Rattle.std.specs.Borrow.{Bor}
use Rattle.rh_bytes.specs.Counting.{AppendsFront, Emitted, EmittedFront, Emits, Writes, inner_of, joined}
use Rattle.rh_bytes.specs.declared.counted.Counted.{Counted}

take_past : (xs ys : List ℕ) (n : ℕ) → take (length xs + n) (xs ++ ys) ≡ xs ++ take n ys
take_past xs ys n = take-append-add xs ys n

take_within : (xs ys : List ℕ) (n : ℕ) → take (min n (length xs)) (xs ++ ys) ≡ take n xs
take_within xs ys n =
    elim (cases_lt n (length xs)) [
      | inl lt ↦
          let m : min n (length xs) ≡ n = omega arith in
          ap (λ k. take k (xs ++ ys)) m ∙ take-append-le n xs ys (omega arith)
      | inr le ↦
          let m : min n (length xs) ≡ length xs = omega arith in
          ap (λ k. take k (xs ++ ys)) m ∙ take-append_seam xs ys ∙ sym (take_all n xs le)
    ]

-- a front of a text is one of any that begins with it
pub front_longer : (a b : Option (List ℕ)) (t u : List ℕ) → AppendsFront a b t → AppendsFront a b (t ++ u)
front_longer a b t u h = (min h.0 (length t), subst (Appends a b) (sym (take_within t u h.0)) h.1)

pub front_after : (a b c : Option (List ℕ)) (t u : List ℕ) → Appends a b t → AppendsFront b c u → AppendsFront a c (t ++ u)
front_after a b c t u p q = (length t + q.0, subst (Appends a c) (sym (take_past t u q.0)) (Appends-trans a b c t (take q.0 u) p q.1))

-- the next text, whatever came of it
pub Writes-then : {X E : Type 0} (a b c : Option (List ℕ)) (t u : List ℕ) (r : Result X E) → Appends a b t → Writes b c u r → Writes a c (t ++ u) r
Writes-then a b c t u (Ok x) p q = Appends-trans a b c t u p q
Writes-then a b c t u (Err e) p q = front_after a b c t u p q

-- ---- what is emitted

module _ {W : Type 0} {contents : W → Option (List ℕ)} where
  pub emitted_none : (a : Counted W) → Emitted contents a a []
  emitted_none a = record { appended = Appends-nil _; fine = refl }

  pub emitted_both : (a b c : Counted W) (t u : List ℕ) → Emitted contents a b t → Emitted contents b c u → Emitted contents a c (t ++ u)
  emitted_both a b c t u p q = record { appended = Appends-trans _ _ _ t u p.appended q.appended; fine = q.fine ∙ p.fine }

  pub emitted_after : (a b c : Counted W) (t u : List ℕ) → Emitted contents a b t → EmittedFront contents b c u → EmittedFront contents a c (t ++ u)
  emitted_after a b c t u p q = record { front = front_after _ _ _ t u p.appended q.front; failed = rw (sym p.fine) q.failed }

  -- a front of one text is one of any that begins with it
  pub emitted_longer : (a b : Counted W) (t u : List ℕ) → EmittedFront contents a b t → EmittedFront contents a b (t ++ u)
  emitted_longer a b t u p = record { front = front_longer _ _ t u p.front; failed = p.failed }

  -- in the middle of a text
  pub emitting_stops : (a b c : Counted W) (done t rest all : List ℕ) → all ≡ (done ++ t) ++ rest → Emitted contents a b done → EmittedFront contents b c t → EmittedFront contents a c all
  emitting_stops a b c done t rest all is p q = rw is (emitted_longer a c (done ++ t) rest (emitted_after a b c done t p q))

  -- the next text, whatever came of it
  pub emitted_then : {X E : Type 0} (a b c : Counted W) (t u : List ℕ) (r : Result X E) → Emitted contents a b t → Emits contents b c u r → Emits contents a c (t ++ u) r
  emitted_then a b c t u (Ok x) p q = emitted_both a b c t u p q
  emitted_then a b c t u (Err e) p q = emitted_after a b c t u p q

-- what is known of the contents alone
pub emitted_text : {W X E : Type 0} (contents : W → Option (List ℕ)) (a b : Counted W) (t : List ℕ) (r : Result X E) → Emits contents a b t r → Writes (contents (inner_of a)) (contents (inner_of b)) t r
emitted_text contents a b t (Ok x) p = p.appended
emitted_text contents a b t (Err e) p = p.front

-- ---- texts in a list

pub split_at_place : {X : Type 0} (text : X → List ℕ) (xs : List X) (i : ℕ) (d : X) → i < length xs → flat_map text xs ≡ (flat_map text (take i xs) ++ text (get_or xs i d)) ++ flat_map text (drop (suc i) xs)
split_at_place text [] i d lt = absurd (omega (arith, lt))
split_at_place text (x ∷ xs) zero d lt = refl
split_at_place text (x ∷ xs) (suc i) d lt =
    ap (λ l. text x ++ l) (split_at_place text xs i d (omega (arith, lt)))
    ∙ sym (ap (λ l. l ++ flat_map text (drop (suc i) xs)) (append_assoc (text x) (flat_map text (take i xs)) (text (get_or xs i d))) ∙ append_assoc (text x) (flat_map text (take i xs) ++ text (get_or xs i d)) (flat_map text (drop (suc i) xs)))

pub joined-split : (texts : List (Bor (List ℕ))) (i : ℕ) (d : Bor (List ℕ)) → i < length texts → joined texts ≡ (joined (take i texts) ++ (get_or texts i d).now) ++ joined (drop (suc i) texts)
joined-split texts i d lt = split_at_place (λ text. text.now) texts i d lt
