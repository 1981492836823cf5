-- The walk over the bytes of a text finds what its lines say.
use Rattle.std.proofs.Common.{◌≡◌, ℕ, zero, suc, ◌+◌, ◌-◌, List, [], ◌∷◌, ◌++◌, length, take, Some, None, inl, inr, refl, sym, ap, ◌∙◌, arith, append_assoc, append-nil, length-append}
use Rattle.std.specs.Prelude.{nat_eq}
use Rattle.std.specs.List.{fold}
use Rattle.std.proofs.lemmas.Bool.{cases_Bool, cases_lt, lt-ltb, le-ltb}
use Rattle.std.proofs.lemmas.List.{length-take, take_all, take-append-le}
use Rattle.std.proofs.lemmas.Grind.{fold-append}
use Rattle.rh_numbers.specs.declared.excerpt.TheConstants.{HELD_BYTES}
use Rattle.rh_numbers.specs.declared.line_so_far.LineSoFar.TheVariants.{Start}
use Rattle.rh_numbers.specs.Excerpt.{shown, without_return}
use Rattle.rh_numbers.specs.Reading.{Said, next}
use Rattle.rh_numbers.proofs.Excerpts.{first_bytes, same_shown}
use Rattle.rh_checks.specs.declared.limits.TheConstants.{SHOWN_LINES}
use Rattle.rh_checks.specs.Lines.{Bad, Findings, bad_in, bad_of, line_said, numbers_in, numbers_of, findings, text_lines, with_front}
use Rattle.rh_checks.specs.Walk.{findings_from, with_bad, with_said}

-- ---- one more line

-- one more bad line, where so many are kept
one_more : (numbers : List ℕ) (bads : List Bad) (bad : Bad) → with_bad (findings numbers bads) bad ≡ findings numbers (bads ++ bad ∷ [])
one_more numbers bads bad =
    elim (cases_lt (length bads) SHOWN_LINES) [
      | inl few ↦
          let all : take SHOWN_LINES bads ≡ bads = take_all SHOWN_LINES bads (omega (arith, few)) in
          let more : take SHOWN_LINES (bads ++ bad ∷ []) ≡ bads ++ bad ∷ [] = take_all SHOWN_LINES (bads ++ bad ∷ []) (omega (arith, few, length-append bads (bad ∷ []))) in
          let none : length bads - SHOWN_LINES ≡ length (bads ++ bad ∷ []) - SHOWN_LINES = omega (arith, few, length-append bads (bad ∷ [])) in
          rw (lt-ltb (length (take SHOWN_LINES bads)) SHOWN_LINES (omega (arith, few, length-take SHOWN_LINES bads)))
          (λ i. record { numbers = numbers; shown = (ap (λ l. l ++ bad ∷ []) all ∙ sym more) i; more = none i })
      | inr many ↦
          let same : take SHOWN_LINES bads ≡ take SHOWN_LINES (bads ++ bad ∷ []) = sym (take-append-le SHOWN_LINES bads (bad ∷ []) (omega (arith, many))) in
          let next : length bads - SHOWN_LINES + 1 ≡ length (bads ++ bad ∷ []) - SHOWN_LINES = omega (arith, many, length-append bads (bad ∷ [])) in
          rw (le-ltb (length (take SHOWN_LINES bads)) SHOWN_LINES (omega (arith, many, length-take SHOWN_LINES bads)))
          (λ i. record { numbers = numbers; shown = same i; more = next i })
    ]

-- a line that is held in part is shown as it is
shown_whole : (line : List ℕ) → shown (without_return (take HELD_BYTES line)) ≡ shown (without_return line)
shown_whole line = same_shown (without_return (take HELD_BYTES line)) (without_return line) (first_bytes 40 line)

-- one more line, whatever it says
said_more : (numbers : List ℕ) (bads : List Bad) (said : Said) (line : List ℕ)
    → with_said (findings numbers bads) said (shown (without_return (take HELD_BYTES line))) ≡ findings (numbers ++ numbers_in said) (bads ++ bad_in said line)
said_more numbers bads (keys, None) line = ap (λ l. findings (numbers ++ keys) l) (sym (append-nil bads))
said_more numbers bads (keys, Some fault) line =
    ap (λ text. with_bad (findings numbers bads) (fault, text)) (shown_whole line) ∙ one_more numbers bads (fault, shown (without_return line))
    ∙ ap (λ l. findings l (bads ++ (fault, shown (without_return line)) ∷ [])) (sym (append-nil numbers))

-- ---- bytes and lines

-- bytes before the first line, and more of them before these
pub fronts : (front more : List ℕ) (lines : List (List ℕ)) → with_front front (with_front more lines) ≡ with_front (front ++ more) lines
fronts front more [] = refl
fronts front more (line ∷ lines) = ap (λ l. l ∷ lines) (sym (append_assoc front more line))

-- no bytes before it
pub no_front : (text : List ℕ) → with_front [] (text_lines text) ≡ text_lines text
no_front [] = refl
no_front (b ∷ bytes) = elim (cases_Bool (nat_eq b 10)) [ inl t ↦ rw t refl | inr f ↦ rw f (fronts [] (b ∷ []) (text_lines bytes)) ]

held_more : (front : List ℕ) (b : ℕ) → take HELD_BYTES (take HELD_BYTES front ++ b ∷ []) ≡ take HELD_BYTES (front ++ b ∷ [])
held_more front b = take_front HELD_BYTES front (b ∷ [])
  where
    take_front : (n : ℕ) (xs ys : List ℕ) → take n (take n xs ++ ys) ≡ take n (xs ++ ys)
    take_front zero xs ys = refl
    take_front (suc n) [] ys = refl
    take_front (suc n) (x ∷ xs) ys = ap (λ l. x ∷ l) (take_front n xs ys)

-- the findings of lines, behind what was found before them
abbrev pub after : (numbers : List ℕ) (bads : List Bad) (number : ℕ) → List (List ℕ) → Findings
after numbers bads number lines = findings (numbers ++ numbers_of number lines) (bads ++ bad_of number lines)

-- the first of some lines, and then the others
first_of_lines : (numbers : List ℕ) (bads : List Bad) (number : ℕ) (line : List ℕ) (lines : List (List ℕ))
    → after (numbers ++ numbers_in (line_said number line)) (bads ++ bad_in (line_said number line) line) (number + 1) lines ≡ after numbers bads number (line ∷ lines)
first_of_lines numbers bads number line lines = λ i. findings (append_assoc numbers (numbers_in (line_said number line)) (numbers_of (number + 1) lines) i) (append_assoc bads (bad_in (line_said number line) line) (bad_of (number + 1) lines) i)

-- where these bytes of a line came, and then come these
pub walked : (numbers : List ℕ) (bads : List Bad) (number : ℕ) (front bytes : List ℕ)
    → findings_from (findings numbers bads) number (fold next Start front) (take HELD_BYTES front) bytes ≡ after numbers bads number (with_front front (text_lines bytes))
unfolding findings_from
walked numbers bads number front [] =
    said_more numbers bads (line_said number front) front
    ∙ (λ i. findings (numbers ++ sym (append-nil (numbers_in (line_said number front))) i) (bads ++ sym (append-nil (bad_in (line_said number front) front)) i))
    ∙ ap (λ l. after numbers bads number (l ∷ [])) (sym (append-nil front))
walked numbers bads number front (b ∷ bytes) =
    elim (cases_Bool (nat_eq b 10)) [
      | inl t ↦
          let said = line_said number front in
          rw t (ap (λ (y : Findings). findings_from y (number + 1) Start [] bytes) (said_more numbers bads said front)
          ∙ walked (numbers ++ numbers_in said) (bads ++ bad_in said front) (number + 1) [] bytes
          ∙ ap (after (numbers ++ numbers_in said) (bads ++ bad_in said front) (number + 1)) (no_front bytes)
          ∙ first_of_lines numbers bads number front (text_lines bytes)
          ∙ ap (λ l. after numbers bads number (l ∷ text_lines bytes)) (sym (append-nil front)))
      | inr f ↦
          let so_far : next (fold next Start front) b ≡ fold next Start (front ++ b ∷ []) = sym (fold-append next Start front (b ∷ [])) in
          rw f ((λ i. findings_from (findings numbers bads) number (so_far i) (held_more front b i) bytes)
          ∙ walked numbers bads number (front ++ b ∷ []) bytes
          ∙ ap (after numbers bads number) (sym (fronts front (b ∷ []) (text_lines bytes))))
    ]
