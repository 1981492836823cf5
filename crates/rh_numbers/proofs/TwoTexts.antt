-- Two texts one after the other, of which the first is whole lines.
use Rattle.std.proofs.Common.{◌≡◌, ℕ, ◌+◌, List, [], ◌∷◌, ◌++◌, Some, None, inl, inr, refl, sym, ap, ◌∙◌, arith, append-nil}
use Rattle.std.specs.Prelude.{nat_eq, nat_lt}
use Rattle.std.proofs.lemmas.Bool.{cases_Bool}
use Rattle.rh_layout.specs.declared.limits.TheConstants.{MAX_KEY}
use Rattle.rh_numbers.specs.declared.line_so_far.LineSoFar.{LineSoFar}
use Rattle.rh_numbers.specs.declared.line_so_far.LineSoFar.TheVariants.{Head, Start, Number, After, Return}
use Rattle.rh_numbers.specs.Chunks.{feeds, moved, then_said}
use Rattle.rh_numbers.specs.Reading.{◌>>=◌, Said, lines_said, next, said_from, text_said, with_key, with_line}
use Rattle.rh_numbers.proofs.Fronts.{behind, said_behind}

-- ---- a chunk that ends with a line feed, and what comes then

same_then : (said : Said) (f g : List ℕ → Said) → ((keys : List ℕ) → f keys ≡ g keys) → (said >>= f) ≡ (said >>= g)
same_then (keys, None) f g h = h keys
same_then (keys, Some e) f g h = refl

nothing_then : (said : Said) (f : List ℕ → Said) → (said >>= f) ≡ ((said >>= (λ more. (more, None))) >>= f)
nothing_then (keys, None) f = refl
nothing_then (keys, Some e) f = refl

first_then : (said : Said) (f f' g g' : List ℕ → Said) → ((keys : List ℕ) → f keys ≡ (f' keys >>= g)) → ((keys : List ℕ) → g keys ≡ g' keys) → (said >>= f) ≡ ((said >>= f') >>= g')
first_then (keys, None) f f' g g' h same = h keys ∙ same_then (f' keys) g g' same
first_then (keys, Some e) f f' g g' h same = refl

split : (keys : List ℕ) (line : ℕ) (so_far : LineSoFar) (front rest : List ℕ)
    → said_from keys line so_far (front ++ 10 ∷ rest) ≡ (said_from keys line so_far (front ++ 10 ∷ []) >>= (λ more. said_from more (line + (feeds front + 1)) Start rest))
unfolding said_from
split keys line so_far [] rest =
    let one : 0 + 1 ≡ 1 = omega arith in
    same_then (with_line keys line so_far) (λ more. said_from more (line + 1) Start rest) (λ more. said_from more (line + (0 + 1)) Start rest) (λ more. ap (λ n. said_from more (line + n) Start rest) (sym one))
    ∙ nothing_then (with_line keys line so_far) (λ more. said_from more (line + (0 + 1)) Start rest)
split keys line so_far (b ∷ front) rest =
    elim (cases_Bool (nat_eq b 10)) [
      | inl t ↦ rw t (first_then (with_line keys line so_far)
          (λ more. said_from more (line + 1) Start (front ++ 10 ∷ rest)) (λ more. said_from more (line + 1) Start (front ++ 10 ∷ []))
          (λ more. said_from more ((line + 1) + (feeds front + 1)) Start rest) (λ more. said_from more (line + ((feeds front + 1) + 1)) Start rest)
          (λ more. split more (line + 1) Start front rest)
          (λ more. ap (λ n. said_from more n Start rest) (one_more line (feeds front))))
      | inr f ↦ rw f (split keys line (next so_far b) front rest)
    ]
  where
    one_more : (line n : ℕ) → (line + 1) + (n + 1) ≡ line + ((n + 1) + 1)
    one_more line n = omega arith

-- ---- the same text, some lines later

key_moved : (d : ℕ) (keys : List ℕ) (line n : ℕ) → with_key keys (line + d) n ≡ moved d (with_key keys line n)
key_moved d keys line n =
    elim (cases_Bool (nat_lt MAX_KEY n)) [
      | inl t ↦ rw t refl
      | inr f ↦ rw f refl
    ]

line_moved : (d : ℕ) (keys : List ℕ) (line : ℕ) (so_far : LineSoFar) → with_line keys (line + d) so_far ≡ moved d (with_line keys line so_far)
line_moved d keys line (Number n) = key_moved d keys line n
line_moved d keys line (After n) = key_moved d keys line n
line_moved d keys line (Return (Some n)) = key_moved d keys line n
line_moved d keys line _ = refl

then_moved : (d : ℕ) (said : Said) (f g : List ℕ → Said) → ((keys : List ℕ) → f keys ≡ moved d (g keys)) → (moved d said >>= f) ≡ moved d (said >>= g)
then_moved d (keys, None) f g h = h keys
then_moved d (keys, Some e) f g h = refl

said_moved : (d : ℕ) (keys : List ℕ) (line : ℕ) (so_far : LineSoFar) (bytes : List ℕ) → said_from keys (line + d) so_far bytes ≡ moved d (said_from keys line so_far bytes)
unfolding said_from
said_moved d keys line so_far [] = line_moved d keys line so_far
said_moved d keys line so_far (b ∷ bytes) =
    elim (cases_Bool (nat_eq b 10)) [
      | inl t ↦ rw t (ap (λ said. said >>= (λ more. said_from more ((line + d) + 1) Start bytes)) (line_moved d keys line so_far)
          ∙ then_moved d (with_line keys line so_far) (λ more. said_from more ((line + d) + 1) Start bytes) (λ more. said_from more (line + 1) Start bytes)
          (λ more. ap (λ n. said_from more n Start bytes) (one_more line) ∙ said_moved d more (line + 1) Start bytes))
      | inr f ↦ rw f (said_moved d keys line (next so_far b) bytes)
    ]
  where
    one_more : (line : ℕ) → (line + d) + 1 ≡ (line + 1) + d
    one_more line = omega arith

-- ---- both

both : (d : ℕ) (first second : Said) → (first >>= (λ more. behind more (moved d second))) ≡ then_said d first second
both d (keys, None) (more, None) = refl
both d (keys, None) (more, Some e) = refl
both d (keys, Some e) second = refl

pub in_chunks : (front rest : List ℕ) → text_said (front ++ 10 ∷ rest) ≡ then_said (feeds front + 1) (text_said (front ++ 10 ∷ [])) (lines_said rest)
in_chunks front rest =
    split [] 1 Head front rest
    ∙ same_then (text_said (front ++ 10 ∷ [])) (λ more. said_from more (1 + (feeds front + 1)) Start rest) (λ more. behind more (moved (feeds front + 1) (lines_said rest)))
    (λ more.
    ap (λ keys. said_from keys (1 + (feeds front + 1)) Start rest) (sym (append-nil more))
    ∙ said_behind more [] (1 + (feeds front + 1)) Start rest
    ∙ ap (behind more) (said_moved (feeds front + 1) [] 1 Start rest))
    ∙ both (feeds front + 1) (text_said (front ++ 10 ∷ [])) (lines_said rest)
