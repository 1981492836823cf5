-- Numbers one after the other, each by a step.
use Rattle.std.proofs.Common.{◌≡◌, ℕ, zero, suc, ◌+◌, ◌-◌, ◌≤◌, List, [], ◌∷◌, ◌++◌, Bool, Option, Some, None, Result, Ok, Err, refl, sym, ap, ◌∙◌, subst, arith, length, flat_map, append_assoc}
use Rattle.std.specs.Prelude.{All}
use Rattle.std.proofs.lemmas.List.Elements.{All-cons, All-head, All-nil, All-tail}
use Rattle.rh_bytes.specs.Input.{◌>>=◌, Reads, always, eight_bytes, many_at, with_head}
use Rattle.rh_bytes.proofs.Parsed.{same_rest, same_value, then_ok}
use Rattle.rh_bytes.proofs.Reading.{Fails-then, Reads-fails, Reads-ok, Reads-then, nothing_before, with_front}

head_last : {E : Type 0} (x : ℕ) (front : List ℕ) (r : Result (List ℕ × List ℕ) E) → ((r >>= with_front front) >>= with_head x) ≡ (r >>= with_front (x ∷ front))
head_last x front (Ok y) = refl
head_last x front (Err e) = refl

-- numbers of which each is so were spelled at the front
pub record Spells (P : ℕ → Type 0) (n : ℕ) (bytes : List ℕ) (p : List ℕ × List ℕ) : Type 0 where
  pub whole : bytes ≡ flat_map eight_bytes p.0 ++ p.1
  pub many : length p.0 ≡ n
  pub fit : All P p.0

module _ {E : Type 0} (step : ℕ → List ℕ → Result (ℕ × List ℕ) E) where
  -- the numbers that were read, and then n more
  abbrev pub and_next : (index n : ℕ) → List ℕ × List ℕ → Result (List ℕ × List ℕ) E
  and_next index n p = many_at step index n p.1 >>= with_front p.0

  regroup : (x : ℕ) (r : Result (List ℕ × List ℕ) E) (index n : ℕ) → ((r >>= and_next index n) >>= with_head x) ≡ ((r >>= with_head x) >>= and_next index n)
  regroup x (Ok p) index n = head_last x p.0 (many_at step index n p.1)
  regroup x (Err e) index n = refl

  after_first : (index m n : ℕ) → ((bytes : List ℕ) → many_at step (index + 1) (m + n) bytes ≡ (many_at step (index + 1) m bytes >>= and_next (index + 1 + m) n)) → (r : Result (ℕ × List ℕ) E)
      → (r >>= (λ first. many_at step (index + 1) (m + n) first.1 >>= with_head first.0)) ≡ ((r >>= (λ first. many_at step (index + 1) m first.1 >>= with_head first.0)) >>= and_next (index + suc m) n)
  after_first index m n ih (Ok x) =
      let k : index + 1 + m ≡ index + suc m = omega arith in
      ap (λ (r : Result (List ℕ × List ℕ) E). r >>= with_head x.0) (ih x.1) ∙ regroup x.0 (many_at step (index + 1) m x.1) (index + 1 + m) n ∙ ap (λ i. (many_at step (index + 1) m x.1 >>= with_head x.0) >>= and_next i n) k
  after_first index m n ih (Err e) = refl

  -- some numbers and then others are the numbers of both
  pub many_at-add : (index m n : ℕ) (bytes : List ℕ) → many_at step index (m + n) bytes ≡ (many_at step index m bytes >>= and_next (index + m) n)
  unfolding many_at
  many_at-add index zero n bytes =
      let i : index + 0 ≡ index = omega arith in
      let k : 0 + n ≡ n = omega arith in
      ap (λ j. many_at step index j bytes) k ∙ sym (ap (λ j. many_at step j n bytes >>= with_front []) i ∙ nothing_before (many_at step index n bytes))
  many_at-add index (suc m) n bytes =
      let k : suc m + n ≡ suc (m + n) = omega arith in
      ap (λ j. many_at step index j bytes) k ∙ after_first index m n (many_at-add (index + 1) m n) (step index bytes)

  module _ (P : ℕ → Type 0) where
    pub many_read : ((index : ℕ) (bytes : List ℕ) (p : ℕ × List ℕ) → step index bytes ≡ Ok p → (bytes ≡ eight_bytes p.0 ++ p.1) × P p.0) → (index n : ℕ) (bytes : List ℕ) (p : List ℕ × List ℕ) → many_at step index n bytes ≡ Ok p → Spells P n bytes p
    unfolding many_at
    many_read one index zero bytes p h =
        let none : [] ≡ p.0 = same_value ([], bytes) p h in
        record {
          whole = same_rest ([], bytes) p h ∙ ap (λ ks. flat_map eight_bytes ks ++ p.1) none;
          many = ap length (sym none);
          fit = subst (All P) none (All-nil P);
        }
    many_read one index (suc n) bytes p h =
        let s = then_ok (step index bytes) (λ first. many_at step (index + 1) n first.1 >>= with_head first.0) p h in
        let t = then_ok (many_at step (index + 1) n s.0.1) (with_head s.0.0) p s.2 in
        let first = one index bytes s.0 s.1 in
        let others = many_read one (index + 1) n s.0.1 t.0 t.1 in
        let all : s.0.0 ∷ t.0.0 ≡ p.0 = same_value (s.0.0 ∷ t.0.0, t.0.1) p t.2 in
        record {
          whole = first.0 ∙ ap (λ l. eight_bytes s.0.0 ++ l) others.whole ∙ sym (append_assoc (eight_bytes s.0.0) (flat_map eight_bytes t.0.0) t.0.1) ∙ ap (λ ks. flat_map eight_bytes ks ++ t.0.1) all ∙ ap (λ l. flat_map eight_bytes p.0 ++ l) (same_rest (s.0.0 ∷ t.0.0, t.0.1) p t.2);
          many = ap length (sym all) ∙ ap suc others.many;
          fit = subst (All P) all (All-cons P s.0.0 t.0.0 first.1 others.fit);
        }

    pub many_given : ((index n : ℕ) (rest : List ℕ) → P n → step index (eight_bytes n ++ rest) ≡ Ok (n, rest)) → (index : ℕ) (ns rest : List ℕ) → All P ns → many_at step index (length ns) (flat_map eight_bytes ns ++ rest) ≡ Ok (ns, rest)
    unfolding many_at
    many_given one index [] rest fit = refl
    many_given one index (n ∷ ns) rest fit =
        let first = one index n (flat_map eight_bytes ns ++ rest) (All-head P n ns fit) in
        let others = many_given one (index + 1) ns rest (All-tail P n ns fit) in
        let apart : flat_map eight_bytes (n ∷ ns) ++ rest ≡ eight_bytes n ++ (flat_map eight_bytes ns ++ rest) = append_assoc (eight_bytes n) (flat_map eight_bytes ns) rest in
        ap (many_at step index (suc (length ns))) apart ∙ ap (λ r. r >>= (λ first. many_at step (index + 1) (length ns) first.1 >>= with_head first.0)) first ∙ ap (λ r. r >>= with_head n) others

  -- ---- from a reader

  module _ (silent : E → Bool) where
    abbrev Got : (a b : Option (List ℕ)) → (index n : ℕ) → List ℕ → Type 0
    Got a b index n numbers = Reads silent a b (many_at step index n) (always {X = Unit {0}} numbers) (Ok tt)

    pub none_yet : (index : ℕ) (a : Option (List ℕ)) → Got a a index 0 []
    unfolding many_at
    none_yet index a = Reads-ok silent a (λ bytes. Ok ([], bytes)) (always {X = Unit {0}} []) tt (λ bytes. refl)

    pub one_got : (index n : ℕ) (a b : Option (List ℕ)) → Reads silent a b (step index) (λ (n : ℕ). n) (Ok n) → Got a b index 1 (n ∷ [])
    unfolding many_at
    one_got index n a b p =
        Reads-then silent a b b (step index) (λ first. many_at step (index + 1) 0 first.1 >>= with_head first.0) (λ (n : ℕ). n) (always {X = Unit {0}} (n ∷ [])) n (Ok tt) p
        (Reads-ok silent b (λ bytes. Ok (n ∷ [], bytes)) (always {X = Unit {0}} (n ∷ [])) tt (λ bytes. refl))

    pub one_fails : {X : Type 0} (index : ℕ) (a b : Option (List ℕ)) (w : X → List ℕ) (e : E) → Reads silent a b (step index) (λ (n : ℕ). n) (Err e) → Reads silent a b (many_at step index 1) w (Err e)
    unfolding many_at
    one_fails index a b w e p = Reads-fails silent a b b (step index) (λ first. many_at step (index + 1) 0 first.1 >>= with_head first.0) (λ (n : ℕ). n) w e p

    both_got : (index m n : ℕ) (a b c : Option (List ℕ)) (front back : List ℕ) → Got a b index m front → Got b c (index + m) n back → Got a c index (m + n) (front ++ back)
    both_got index m n None b c front back p q = tt
    both_got index m n (Some x) None c front back p q = absurd p
    both_got index m n (Some x) (Some y) None front back p q = absurd q
    both_got index m n (Some x) (Some y) (Some z) front back p q = rw (many_at-add index m n x, p, q) refl

    later_fails : {X Y : Type 0} (index m n : ℕ) (a b c : Option (List ℕ)) (front : List ℕ) (v : X → List ℕ) (w : Y → List ℕ) (e : E) → Got a b index m front → Reads silent b c (many_at step (index + m) n) v (Err e)
        → Reads silent a c (many_at step index (m + n)) w (Err e)
    later_fails index m n None b c front v w e p q = tt
    later_fails index m n (Some x) None c front v w e p q = absurd p
    later_fails index m n (Some x) (Some y) c front v w e p q = rw (many_at-add index m n x, p) (Fails-then silent e (many_at step (index + m) n y) (with_front front) q)

    -- a fault in some numbers is one of these and others
    fails_with_more : {X Y : Type 0} (index m n : ℕ) (a b : Option (List ℕ)) (v : X → List ℕ) (w : Y → List ℕ) (e : E) → Reads silent a b (many_at step index m) v (Err e) → Reads silent a b (many_at step index (m + n)) w (Err e)
    fails_with_more index m n None b v w e h = tt
    fails_with_more index m n (Some x) b v w e h = rw (many_at-add index m n x) (Fails-then silent e (many_at step index m x) (and_next (index + m) n) h)

    -- as a loop goes on
    pub more_got : (index done at many now : ℕ) (a b c : Option (List ℕ)) (front back both : List ℕ) → at ≡ index + done → now ≡ done + many → both ≡ front ++ back → Got a b index done front → Got b c at many back → Got a c index now both
    more_got index done at many now a b c front back both place later joined p q =
        let h = subst (λ j. Got b c j many back) place q in
        rw (later, joined) (both_got index done many a b c front back p h)

    pub more_fails : {X Y : Type 0} (index done at many all : ℕ) (a b c : Option (List ℕ)) (front : List ℕ) (v : X → List ℕ) (w : Y → List ℕ) (e : E) → at ≡ index + done → done + many ≤ all → Got a b index done front → Reads silent b c (many_at step at many) v (Err e) → Reads silent a c (many_at step index all) w (Err e)
    more_fails index done at many all a b c front v w e place within p q =
        let h = subst (λ j. Reads silent b c (many_at step j many) v (Err e)) place q in
        let whole : done + many + (all - (done + many)) ≡ all = omega arith in
        subst (λ n. Reads silent a c (many_at step index n) w (Err e)) whole (fails_with_more index (done + many) (all - (done + many)) a c w w e (later_fails index done many a b c front v w e p h))
