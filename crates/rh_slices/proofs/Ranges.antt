-- The numbers of a list that pass a test, put one after the other into another list.
use Rattle.std.proofs.Common.{◌≡◌, ◌∙◌, ℕ, ◌+◌, ◌<◌, ◌≤◌, List, [], ◌∷◌, ◌++◌, length, take, drop, get_or, set, Bool, true, false, cond, refl, sym, ap, arith, append-nil}
use Rattle.std.specs.Prelude.{filter}
use Rattle.std.proofs.lemmas.List.{drop_more, drop-set-lt, length-append, length-set, take-append-drop, take_all, take_more_set}
use Rattle.std.proofs.lemmas.List.Elements.{filter-append, filter_more}

module _ (p : ℕ → Bool) (xs : List ℕ) where
  -- Of the first i numbers those that pass, which are k, stand at the front, and behind them what stood there.
  pub record PutSoFar (old new : List ℕ) (k i : ℕ) : Type 0 where
    pub count : k ≡ length (filter p (take i xs))
    pub front : take k new ≡ filter p (take i xs)
    pub rest : drop k new ≡ drop k old
    pub long : length new ≡ length old

  pub none_put : (old : List ℕ) → PutSoFar old old 0 0
  none_put old = record { count = refl; front = refl; rest = refl; long = refl }

  pub no_more : (i : ℕ) → length (filter p (take i xs)) ≤ length (filter p xs)
  no_more i =
      let parts = sym (filter-append p (take i xs) (drop i xs)) ∙ ap (filter p) (take-append-drop i xs) in
      omega (arith, sym (length-append (filter p (take i xs)) (filter p (drop i xs))) ∙ ap length parts)

  -- the next number
  module _ (i : ℕ) (inside : i < length xs) where
    with_next : (b : Bool) → p (get_or xs i 0) ≡ b → filter p (take (i + 1) xs) ≡ filter p (take i xs) ++ cond b (get_or xs i 0 ∷ []) []
    with_next b passes = filter_more p xs i 0 inside ∙ ap (λ c. filter p (take i xs) ++ cond c (get_or xs i 0 ∷ []) []) passes

    module _ (old new : List ℕ) (k : ℕ) (so_far : PutSoFar old new k i) where
      pub not_put : p (get_or xs i 0) ≡ false → PutSoFar old new k (i + 1)
      not_put passes =
          let same : filter p (take i xs) ≡ filter p (take (i + 1) xs) = sym (with_next false passes ∙ append-nil (filter p (take i xs))) in
          record { count = so_far.count ∙ ap length same; front = so_far.front ∙ same; rest = so_far.rest; long = so_far.long }

      -- there is room for it, where all are to have room
      pub has_room : p (get_or xs i 0) ≡ true → length (filter p xs) ≤ length new → k < length new
      has_room passes room =
          let more = ap length (with_next true passes) ∙ length-append (filter p (take i xs)) (get_or xs i 0 ∷ []) in
          omega (arith, so_far.count, more, no_more (i + 1), room)

      pub put : p (get_or xs i 0) ≡ true → k < length new → PutSoFar old (set new k (get_or xs i 0)) (k + 1) (i + 1)
      put passes room =
          let next = with_next true passes in
          record {
            count = omega (arith, so_far.count, ap length next ∙ length-append (filter p (take i xs)) (get_or xs i 0 ∷ []));
            front = take_more_set new k (get_or xs i 0) room ∙ ap (λ front. front ++ get_or xs i 0 ∷ []) so_far.front ∙ sym next;
            rest =
                drop-set-lt (k + 1) new k (get_or xs i 0) (omega arith)
                ∙ ap (drop 1) (sym (drop_more new k 0 room) ∙ so_far.rest ∙ drop_more old k 0 (omega (arith, so_far.long, room)));
            long = length-set new k (get_or xs i 0) ∙ so_far.long;
          }

  pub all_put : (i : ℕ) → length xs ≤ i → filter p (take i xs) ≡ filter p xs
  all_put i end = ap (filter p) (take_all i xs end)
