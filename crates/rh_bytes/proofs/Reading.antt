-- Reading from a reader, one step after another.
use Rattle.std.proofs.Common.{◌≡◌, ℕ, zero, suc, Bool, ◌≤◌, ◌<◌, List, [], ◌∷◌, ◌++◌, length, take, get_or, Option, Some, None, Result, Ok, Err, inl, inr, refl, ap, ◌∙◌, arith, append-nil}
use Rattle.std.proofs.lemmas.Bool.{cases_Bool}
use Rattle.std.proofs.lemmas.List.{take_at, drop_at, length-take, take_all}
use Rattle.std.specs.Io.KnownBytes.{Consumes, IsAtEnd}
use Rattle.rh_bytes.specs.Input.{◌>>=◌, AreAll, BeginsWith, Fails, Reads, always, bytes_at, end_at}
use Rattle.rh_bytes.proofs.Spelled.{are_bytes, begins, begins_not}

-- ---- lists of numbers

abbrev pub with_front : {E : Type 0} → List ℕ → List ℕ × List ℕ → Result (List ℕ × List ℕ) E
with_front front others = Ok (front ++ others.0, others.1)

pub nothing_before : {E : Type 0} (r : Result (List ℕ × List ℕ) E) → (r >>= with_front []) ≡ r
nothing_before (Ok p) = refl
nothing_before (Err e) = refl

-- ---- steps

module _ {E : Type 0} (silent : E → Bool) where
  -- a fault of the first step is one of the whole
  pub Fails-then : {A B : Type 0} (e : E) (r : Result A E) (f : A → Result B E) → Fails silent e r → Fails silent e (r >>= f)
  Fails-then e r f h = elim (cases_Bool (silent e)) [ inl quiet ↦ rw quiet tt | inr says ↦ let is : r ≡ Err e = rw says at h in rw (says, is) refl ]

  pub Fails-so : {X : Type 0} (e : E) (r : Result X E) → r ≡ Err e → Fails silent e r
  Fails-so e r is = elim (cases_Bool (silent e)) [ inl quiet ↦ rw quiet tt | inr says ↦ rw says is ]

  pub Reads-fails : {X Y A B : Type 0} (a b c : Option (List ℕ)) (f : List ℕ → Result (A × List ℕ) E) (g : A × List ℕ → Result (B × List ℕ) E) (v : X → A) (w : Y → B) (e : E)
      → Reads silent a b f v (Err e) → Reads silent a c (λ bytes. f bytes >>= g) w (Err e)
  Reads-fails None b c f g v w e h = tt
  Reads-fails (Some bytes) b c f g v w e h = Fails-then e (f bytes) g h

  pub Reads-then : {X Y A B : Type 0} (a b c : Option (List ℕ)) (f : List ℕ → Result (A × List ℕ) E) (g : A × List ℕ → Result (B × List ℕ) E) (v : X → A) (w : Y → B) (x : X) (r : Result Y E)
      → Reads silent a b f v (Ok x) → Reads silent b c (λ bytes. g (v x, bytes)) w r → Reads silent a c (λ bytes. f bytes >>= g) w r
  Reads-then None b c f g v w x r p q = tt
  Reads-then (Some bytes) None c f g v w x r p q = absurd p
  Reads-then (Some bytes) (Some rest) None f g v w x (Ok y) p q = absurd q
  Reads-then (Some bytes) (Some rest) (Some last) f g v w x (Ok y) p q = rw p q
  Reads-then (Some bytes) (Some rest) c f g v w x (Err e) p q = rw p q

  -- a step that only looks at what was read
  pub Reads-ok : {X Y : Type 0} (a : Option (List ℕ)) (f : List ℕ → Result (Y × List ℕ) E) (v : X → Y) (x : X) → ((bytes : List ℕ) → f bytes ≡ Ok (v x, bytes)) → Reads silent a a f v (Ok x)
  Reads-ok None f v x h = tt
  Reads-ok (Some bytes) f v x h = h bytes

  pub Reads-err : {X Y : Type 0} (a b : Option (List ℕ)) (f : List ℕ → Result (Y × List ℕ) E) (v : X → Y) (e : E) → ((bytes : List ℕ) → f bytes ≡ Err e) → Reads silent a b f v (Err e)
  Reads-err None b f v e h = tt
  Reads-err (Some bytes) b f v e h = Fails-so e (f bytes) (h bytes)

  -- what known bytes were read to, where all of them were
  pub read_from : {X Y : Type 0} (Spells : List ℕ → Y → Type 0) (a b : Option (List ℕ)) (f : List ℕ → Result (Y × List ℕ) E) (v : X → Y) (x : X)
      → ((bytes : List ℕ) (p : Y × List ℕ) → f bytes ≡ Ok p → Spells bytes p.0 × (p.1 ≡ [])) → Reads silent a b f v (Ok x) → AreAll Spells a b (v x)
  read_from Spells None b f v x spelled h = tt
  read_from Spells (Some bytes) None f v x spelled h = absurd h
  read_from Spells (Some bytes) (Some rest) f v x spelled h = spelled bytes (v x, rest) h

  -- the same value, which another view sees
  pub Reads-seen : {W X Y : Type 0} (a b : Option (List ℕ)) (f : List ℕ → Result (Y × List ℕ) E) (v : W → Y) (w : X → Y) (x : W) (y : X) → v x ≡ w y → Reads silent a b f v (Ok x) → Reads silent a b f w (Ok y)
  Reads-seen None b f v w x y same h = tt
  Reads-seen (Some bytes) None f v w x y same h = absurd h
  Reads-seen (Some bytes) (Some rest) f v w x y same h = h ∙ ap (λ z. Ok (z, rest)) same

  pub Reads-begins : {X Y : Type 0} (a b : Option (List ℕ)) (f : List ℕ → Result (Y × List ℕ) E) (v : X → Y) (x : X) → Reads silent a b f v (Ok x) → BeginsWith f a
  Reads-begins None b f v x h = tt
  Reads-begins (Some bytes) None f v x h = absurd h
  Reads-begins (Some bytes) (Some rest) f v x h = ((v x, rest), h)

  -- ---- bytes

  module _ (short : E) where
    -- the buffer is full
    pub Reads-full : (a b : Option (List ℕ)) (buf : List ℕ) (n : ℕ) → length buf ≤ n → ((i : ℕ) → get_or buf i 0 < 256) → Consumes a b (take n buf) → Reads silent a b (bytes_at short (length buf)) (always {X = Unit {0}} buf) (Ok tt)
    unfolding bytes_at
    Reads-full None b buf n full small h = tt
    Reads-full (Some xs) None buf n full small h = absurd h
    Reads-full (Some xs) (Some ys) buf n full small h =
        let whole : xs ≡ buf ++ ys = h ∙ ap (λ l. l ++ ys) (take_all n buf full) in
        rw (whole, begins buf ys (are_bytes buf small), take_at buf ys (length buf) refl, drop_at buf ys (length buf) refl) refl

    -- the end came first
    pub Reads-short : {X : Type 0} (a b : Option (List ℕ)) (buf : List ℕ) (n : ℕ) (v : X → List ℕ) → n < length buf → Consumes a b (take n buf) → IsAtEnd b → Reads silent a b (bytes_at short (length buf)) v (Err short)
    unfolding bytes_at
    Reads-short None b buf n v lt h end = tt
    Reads-short (Some xs) None buf n v lt h end = absurd h
    Reads-short (Some xs) (Some ys) buf n v lt h end =
        let whole : xs ≡ take n buf = h ∙ ap (λ l. take n buf ++ l) end ∙ append-nil (take n buf) in
        let few : length xs < length buf = rw whole (omega (arith, length-take n buf)) in
        Fails-so short (bytes_at short (length buf) xs) (rw (begins_not (length buf) xs few) refl)

  -- ---- the end

  module _ (long : E) where
    long_end : (n : ℕ) (buf ys : List ℕ) → 0 < n → 0 < length buf → end_at long (take n buf ++ ys) ≡ Err long
    unfolding end_at
    long_end zero buf ys h k = absurd (omega (arith, h))
    long_end (suc n) [] ys h k = absurd (omega (arith, k))
    long_end (suc n) (b ∷ buf) ys h k = refl

    pub end_long : {X : Type 0} (a b : Option (List ℕ)) (buf : List ℕ) (n : ℕ) (v : X → List ℕ) → 0 < n → 0 < length buf → Consumes a b (take n buf) → Reads silent a b (end_at long) v (Err long)
    end_long None b buf n v h k e = tt
    end_long (Some xs) None buf n v h k e = absurd e
    end_long (Some xs) (Some ys) buf n v h k e = Fails-so long (end_at long xs) (rw e (long_end n buf ys h k))

    pub end_ok : (a b : Option (List ℕ)) (buf : List ℕ) (n : ℕ) → n ≤ 0 → Consumes a b (take n buf) → IsAtEnd b → Reads silent a b (end_at long) (λ (x : Unit {0}). []) (Ok tt)
    unfolding end_at
    end_ok None b buf n le h end = tt
    end_ok (Some xs) None buf n le h end = absurd h
    end_ok (Some xs) (Some ys) buf zero le h end = rw (h, end) refl
    end_ok (Some xs) (Some ys) buf (suc n) le h end = absurd (omega (arith, le))
