-- Bytes that spell what is read of them, and the other way round.
use Rattle.std.proofs.Common.{◌≡◌, ℕ, ◌<◌, ◌^◌, Bool, true, false, cond, List, [], ◌∷◌, ◌++◌, length, take, drop, Option, Some, None, Result, Ok, Err, inl, inr, refl, sym, ap, ◌∙◌, length-take-le, take-append-drop, leb}
use Rattle.std.proofs.lemmas.Bool.{cases_Bool, and_parts, leb-true}
use Rattle.std.proofs.lemmas.List.{take_at, drop_at}
use Rattle.std.proofs.lemmas.Nat.{be_bytes_8, from_be_bytes-to_be_bytes_8}
use Rattle.std.specs.List.{list_all}
use Rattle.std.specs.Str.{bytes_eq}
use Rattle.std.proofs.lemmas.Slice.Eq.{bytes_eq-Decides}
use Rattle.std.specs.Int.{w64, from_be_bytes}
use Rattle.rh_bytes.specs.Input.{eight_bytes}
use Rattle.rh_bytes.specs.Input.{◌>>=◌, BeginsWith, Reads, begins_with_bytes, bytes_at, end_at, is_byte, number_at, number_in}
use Rattle.rh_bytes.proofs.Spelled.{begins, bytes_below, spelled_bytes}

module _ {E : Type 0} where
  pub then_ok : {A B : Type 0} (r : Result A E) (f : A → Result B E) (y : B) → (r >>= f) ≡ Ok y → (x : A) × (r ≡ Ok x) × (f x ≡ Ok y)
  then_ok (Ok x) f y h = (x, refl, h)
  then_ok (Err e) f y h = absurd cc

  abbrev pub ok : {A : Type 0} → A → Result A E
  ok x = Ok x

  -- what stands in a result, where two are the same
  abbrev in_ok : {A : Type 0} → A → Result A E → A
  in_ok d (Ok x) = x
  in_ok d (Err e) = d

  pub same : {A : Type 0} (x y : A) → ok x ≡ Ok y → x ≡ y
  same x y h = ap (in_ok x) h

  pub same_value : {A : Type 0} (p q : A × List ℕ) → ok p ≡ Ok q → p.0 ≡ q.0
  same_value p q h = ap (λ r. r.0) (same p q h)

  pub same_rest : {A : Type 0} (p q : A × List ℕ) → ok p ≡ Ok q → p.1 ≡ q.1
  same_rest p q h = ap (λ r. r.1) (same p q h)

  -- what a test let pass
  pub if_then : {A : Type 0} (b : Bool) (r : Result A E) (e : E) (y : A) → cond b r (Err e) ≡ Ok y → (b ≡ true) × (r ≡ Ok y)
  if_then true r e y h = (refl, h)
  if_then false r e y h = absurd cc

  pub if_ok : {A : Type 0} (b : Bool) (x : A) (e : E) (y : A) → cond b (ok x) (Err e) ≡ Ok y → (b ≡ true) × (x ≡ y)
  if_ok b x e y h = let t = if_then b (ok x) e y h in (t.0, same x y t.1)

  -- what was read of the first step
  pub begins_with : {X A B : Type 0} (silent : E → Bool) (a b : Option (List ℕ)) (f : List ℕ → Result (A × List ℕ) E) (g : A × List ℕ → Result (B × List ℕ) E) (v : X → B) (x : X) → Reads silent a b (λ bytes. f bytes >>= g) v (Ok x) → BeginsWith f a
  begins_with silent None b f g v x h = tt
  begins_with silent (Some bytes) None f g v x h = absurd h
  begins_with silent (Some bytes) (Some rest) f g v x h = let s = then_ok (f bytes) g (v x, rest) h in (s.0, s.1)

-- ---- what is read is spelled so

pub record Given (n : ℕ) (bytes : List ℕ) (p : List ℕ × List ℕ) : Type 0 where
  pub whole : bytes ≡ p.0 ++ p.1
  pub many : length p.0 ≡ n
  pub all : list_all is_byte p.0 ≡ true

module _ {E : Type 0} (short : E) where
  pub bytes_read : (n : ℕ) (bytes : List ℕ) (p : List ℕ × List ℕ) → bytes_at short n bytes ≡ Ok p → Given n bytes p
  unfolding bytes_at
  bytes_read n bytes p h =
      elim (cases_Bool (begins_with_bytes n bytes)) [
        | inl there ↦
            let parts = and_parts (leb n (length bytes)) (list_all is_byte (take n bytes)) there in
            let got : ok {E = E} (take n bytes, drop n bytes) ≡ Ok p = rw there at h in
            let front : take n bytes ≡ p.0 = same_value (take n bytes, drop n bytes) p got in
            let back : drop n bytes ≡ p.1 = same_rest (take n bytes, drop n bytes) p got in
            record {
              whole = sym (take-append-drop n bytes) ∙ ap (λ l. l ++ drop n bytes) front ∙ ap (λ l. p.0 ++ l) back;
              many = ap length (sym front) ∙ length-take-le n bytes (leb-true n (length bytes) parts.0);
              all = ap (list_all is_byte) (sym front) ∙ parts.1;
            }
        | inr other ↦ let got : Err short ≡ Ok p = rw other at h in absurd cc
      ]

  pub number_read : (bytes : List ℕ) (p : ℕ × List ℕ) → number_at short bytes ≡ Ok p → bytes ≡ eight_bytes p.0 ++ p.1
  unfolding number_at
  number_read bytes p h =
      let s = then_ok (bytes_at short 8 bytes) number_in p h in
      let g = bytes_read 8 bytes s.0 s.1 in
      let n : p.0 ≡ from_be_bytes w64 s.0.0 = sym (same_value (from_be_bytes w64 s.0.0, s.0.1) p s.2) in
      let spelled : eight_bytes p.0 ≡ s.0.0 = be_bytes_8 s.0.0 p.0 g.many (bytes_below s.0.0 g.all) n in
      g.whole ∙ ap (λ l. l ++ s.0.1) (sym spelled) ∙ ap (λ l. eight_bytes p.0 ++ l) (same_rest (from_be_bytes w64 s.0.0, s.0.1) p s.2)

  pub end_read : (bytes : List ℕ) (p : List ℕ × List ℕ) → end_at short bytes ≡ Ok p → (bytes ≡ []) × (p.1 ≡ [])
  unfolding end_at
  end_read [] p h = (refl, sym (same_rest ([], []) p h))
  end_read (b ∷ bytes) p h = absurd cc

  -- ---- what is spelled is read

  pub bytes_given : (front rest : List ℕ) (n : ℕ) → length front ≡ n → list_all is_byte front ≡ true → bytes_at short n (front ++ rest) ≡ Ok (front, rest)
  unfolding bytes_at
  bytes_given front rest n is all = rw (sym is, begins front rest all, take_at front rest (length front) refl, drop_at front rest (length front) refl) refl

  pub number_given : (n : ℕ) (rest : List ℕ) → n < 2 ^ 64 → number_at short (eight_bytes n ++ rest) ≡ Ok (n, rest)
  unfolding number_at
  number_given n rest fits = ap (λ r. r >>= number_in) (bytes_given (eight_bytes n) rest 8 refl (spelled_bytes n)) ∙ ap (λ m. Ok (m, rest)) (from_be_bytes-to_be_bytes_8 n fits)

-- ---- the version that four bytes name

module _ {V E : Type 0} (magic : V → List ℕ) (first second : V) (neither short : E) where
  abbrev pub by_magic : List ℕ × List ℕ → Result (V × List ℕ) E
  by_magic four = cond (bytes_eq four.0 (magic first)) (Ok (first, four.1)) (cond (bytes_eq four.0 (magic second)) (Ok (second, four.1)) (Err neither))

  one_of : (version : V) (four : List ℕ × List ℕ) (p : V × List ℕ) → bytes_eq four.0 (magic version) ≡ true → (version, four.1) ≡ p → four.0 ++ four.1 ≡ magic p.0 ++ p.1
  one_of version four p is same = ap (λ l. l ++ four.1) ((bytes_eq-Decides four.0 (magic version)).0 is) ∙ ap (λ (q : V × List ℕ). magic q.0 ++ q.1) same

  pub magic_read : (bytes : List ℕ) (p : V × List ℕ) → (bytes_at short 4 bytes >>= by_magic) ≡ Ok p → bytes ≡ magic p.0 ++ p.1
  magic_read bytes p h =
      let s = then_ok (bytes_at short 4 bytes) by_magic p h in
      (bytes_read short 4 bytes s.0 s.1).whole ∙ named s.0 (bytes_eq s.0.0 (magic first)) refl s.2
    where
      named : (four : List ℕ × List ℕ) (b : Bool) → bytes_eq four.0 (magic first) ≡ b
          → cond b (Ok (first, four.1)) (cond (bytes_eq four.0 (magic second)) (Ok (second, four.1)) (Err neither)) ≡ Ok p → four.0 ++ four.1 ≡ magic p.0 ++ p.1
      named four true is h = one_of first four p is (same (first, four.1) p h)
      named four false is h = let t = if_ok (bytes_eq four.0 (magic second)) (second, four.1) neither p h in one_of second four p t.0 t.1
