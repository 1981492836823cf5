-- The line of a text that is shown.
use Rattle.std.proofs.Common.{◌≡◌, ◌≢◌, ℕ, zero, suc, ◌≤◌, min, List, [], ◌∷◌, ◌++◌, length, take, inl, inr, Some, None, refl, ap, sym, ◌∙◌, arith, append_assoc, append-nil}
use Rattle.std.specs.List.{flat_map}
use Rattle.std.specs.Prelude.{if◌then◌else◌, nat_lt}
use Rattle.std.proofs.lemmas.Bool.{cases_lt, le-ltb, lt-ltb, ne_eqb}
use Rattle.std.proofs.lemmas.List.{length-take, take_all, take-append-le, take-take}
use Rattle.rh_numbers.specs.declared.excerpt.TheConstants.{HELD_BYTES}
use Rattle.rh_numbers.specs.Excerpt.{first_line, shown, shown_byte, without_return}
use Rattle.rh_numbers.specs.Search.{found_in}

-- ---- the carriage return at the end

pub return_dropped : (line : List ℕ) → without_return (line ++ 13 ∷ []) ≡ line
return_dropped [] = refl
return_dropped (a ∷ []) = refl
return_dropped (a ∷ b ∷ line) = ap (λ l. a ∷ l) (return_dropped (b ∷ line))

pub none_dropped : (line : List ℕ) (last : ℕ) → last ≢ 13 → without_return (line ++ last ∷ []) ≡ line ++ last ∷ []
none_dropped [] last not = rw (ne_eqb last 13 not) refl
none_dropped (a ∷ []) last not = rw (ne_eqb last 13 not) refl
none_dropped (a ∷ b ∷ line) last not = ap (λ l. a ∷ l) (none_dropped (b ∷ line) last not)

-- of a line that goes on far enough the first bytes say what it begins with
pub first_bytes : (n : ℕ) (line : List ℕ) → take (suc n) (without_return (take (suc (suc n)) line)) ≡ take (suc n) (without_return line)
first_bytes n [] = refl
first_bytes n (a ∷ []) = refl
first_bytes zero (a ∷ b ∷ line) = refl
first_bytes (suc n) (a ∷ b ∷ line) = ap (λ l. a ∷ l) (first_bytes n (b ∷ line))

-- lines that begin so are shown as one
pub same_shown : (xs ys : List ℕ) → take 41 xs ≡ take 41 ys → shown xs ≡ shown ys
same_shown xs ys same =
    let goes_on : nat_lt 40 (length xs) ≡ nat_lt 40 (length ys) = is_longer xs ∙ ap (λ l. nat_lt 40 (length l)) same ∙ sym (is_longer ys) in
    let front : take 40 xs ≡ take 40 ys = sym (take-take 40 41 xs (omega arith)) ∙ ap (take 40) same ∙ take-take 40 41 ys (omega arith) in
    λ i. 34 ∷ (flat_map shown_byte (front i) ++ (34 ∷ (if goes_on i then 46 ∷ 46 ∷ [] else [])))
  where
    is_longer : (xs : List ℕ) → nat_lt 40 (length xs) ≡ nat_lt 40 (length (take 41 xs))
    is_longer xs =
        elim (cases_lt 40 (length xs)) [
          | inl more ↦ lt-ltb 40 (length xs) more ∙ sym (lt-ltb 40 (length (take 41 xs)) (omega (arith, more, length-take 41 xs)))
          | inr few ↦ le-ltb 40 (length xs) few ∙ sym (le-ltb 40 (length (take 41 xs)) (omega (arith, few, length-take 41 xs)))
        ]

-- the bytes that are shown of those that are held
pub front_shown : (most held count : ℕ) (bytes : List ℕ) → count ≡ min held most → take most (take held bytes) ≡ take count bytes
front_shown most held count bytes is =
    elim (cases_lt most held) [
      | inr few ↦
          let all : count ≡ held = omega (arith, is, few) in
          take_all most (take held bytes) (omega (arith, few, length-take held bytes)) ∙ ap (λ n. take n bytes) (sym all)
      | inl many ↦
          let some : count ≡ most = omega (arith, is, many) in
          take-take most held bytes (omega (arith, many)) ∙ ap (λ n. take n bytes) (sym some)
    ]

-- ---- a line that is looked for

-- bytes that are held are those that come first
pub held_first : (n : ℕ) (held : List ℕ) (b : ℕ) (line : List ℕ) → take n (take n (held ++ b ∷ []) ++ line) ≡ take n (held ++ b ∷ line)
held_first n held b line = take_front n (held ++ b ∷ []) line ∙ ap (take n) (append_assoc held (b ∷ []) line)
  where
    take_front : (n : ℕ) (xs ys : List ℕ) → take n (take n xs ++ ys) ≡ take n (xs ++ ys)
    take_front zero xs ys = refl
    take_front (suc n) [] ys = refl
    take_front (suc n) (x ∷ xs) ys = ap (λ l. x ∷ l) (take_front n xs ys)

-- another byte of the line
pub byte_held : (feeds b : ℕ) (held now rest : List ℕ) → b ≢ 10 → feeds ≡ 0 → now ≡ take HELD_BYTES (held ++ b ∷ []) → found_in feeds held (b ∷ rest) ≡ found_in feeds now rest
byte_held zero b held now rest not none is = rw (ne_eqb b 10 not) (ap Some (sym (held_first HELD_BYTES held b (first_line rest)) ∙ ap (λ l. take HELD_BYTES (l ++ first_line rest)) (sym is)))
byte_held (suc feeds) b held now rest not none is = absurd (omega (arith, none))

-- a byte of a line before it
pub byte_passed : (feeds b : ℕ) (held rest : List ℕ) → b ≢ 10 → feeds ≢ 0 → found_in feeds held (b ∷ rest) ≡ found_in feeds held rest
byte_passed zero b held rest not some = absurd (some refl)
byte_passed (suc feeds) b held rest not some = rw (ne_eqb b 10 not) refl

pub feed_passed : (feeds now : ℕ) (held rest : List ℕ) → feeds ≡ suc now → found_in feeds held (10 ∷ rest) ≡ found_in now held rest
feed_passed feeds now held rest is = ap (λ n. found_in n held (10 ∷ rest)) is

pub ends_here : (held rest : List ℕ) → length held ≤ HELD_BYTES → found_in 0 held (10 ∷ rest) ≡ Some held
ends_here held rest few = ap (λ l. Some (take HELD_BYTES l)) (append-nil held) ∙ ap Some (take_all HELD_BYTES held few)

-- and where no more is held
pub full_here : (held : List ℕ) (b : ℕ) (rest : List ℕ) → length held ≡ HELD_BYTES → found_in 0 held (b ∷ rest) ≡ Some held
full_here held b rest full = ap Some (take-append-le HELD_BYTES held (first_line (b ∷ rest)) (omega (arith, full)) ∙ take_all HELD_BYTES held (omega (arith, full)))

pub ends_with_text : (held : List ℕ) → length held ≤ HELD_BYTES → found_in 0 held [] ≡ Some held
ends_with_text held few = ap (λ l. Some (take HELD_BYTES l)) (append-nil held) ∙ ap Some (take_all HELD_BYTES held few)

pub not_there : (feeds : ℕ) (held : List ℕ) → feeds ≢ 0 → found_in feeds held [] ≡ None
not_there zero held some = absurd (some refl)
not_there (suc feeds) held some = refl
