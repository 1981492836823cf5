-- What a filter keeps, where membership is by recursion.
use Rattle.std.proofs.Common.{◌≡◌, ◌⊎◌, inl, inr, refl, sym, ap, ◌∙◌, subst, Bool, true, false, true≢false, cond, List, [], ◌∷◌, map, filter}
use Rattle.std.specs.List.{Contains}
use Rattle.rh_world.specs.World.{In}
use Rattle.rh_acts.proofs.ActLemmas.{contains_head, contains_tail, contains_cases, contains_none}

module _ {A B : Type 0} (test : A → Bool) (f : A → B) where
  -- what is made of an element that passes the test
  pub from_filtered : (xs : List A) (y : B) → Contains (map f (filter test xs)) y → (x : A) × In x xs × (test x ≡ true) × (f x ≡ y)
  from_filtered [] y h = absurd (contains_none y h)
  from_filtered (x ∷ xs) y h = go (test x) refl h (from_filtered xs y)
    where
      go : (b : Bool) → test x ≡ b → Contains (map f (cond b (x ∷ filter test xs) (filter test xs))) y
          → (Contains (map f (filter test xs)) y → (a : A) × In a xs × (test a ≡ true) × (f a ≡ y))
          → (a : A) × In a (x ∷ xs) × (test a ≡ true) × (f a ≡ y)
      go true is k later = elim (contains_cases (f x) y (map f (filter test xs)) k) [ inl e ↦ (x, inl refl, is, e) | inr rest ↦ let got = later rest in (got.0, inr got.1, got.2, got.3) ]
      go false is k later = let got = later k in (got.0, inr got.1, got.2, got.3)

  pub in_filtered : (xs : List A) (x : A) → In x xs → test x ≡ true → Contains (map f (filter test xs)) (f x)
  in_filtered [] x i is = absurd i
  in_filtered (a ∷ xs) x i is = go (test a) refl i (λ j. in_filtered xs x j is)
    where
      go : (b : Bool) → test a ≡ b → (x ≡ a) ⊎ In x xs → (In x xs → Contains (map f (filter test xs)) (f x))
          → Contains (map f (cond b (a ∷ filter test xs) (filter test xs))) (f x)
      go true was (inl e) later = subst (λ (y : A). Contains (f a ∷ map f (filter test xs)) (f y)) (sym e) (contains_head (f a) (map f (filter test xs)))
      go true was (inr j) later = contains_tail (f a) (f x) (map f (filter test xs)) (later j)
      go false was (inl e) later = absurd (true≢false (sym is ∙ ap test e ∙ was))
      go false was (inr j) later = later j
