-- Look-ups as digits, line by line.
use Rattle.std.proofs.Common.{◌≡◌, ◌∙◌, ap, sym, refl, arith, ℕ, zero, suc, ◌+◌, ◌<◌, ◌≤◌, ◌⊎◌, inl, inr, min, Bool, List, [], ◌∷◌, ◌++◌, length, take, drop, get_or, append_assoc, append-nil, take-append-drop, eq-eqb, codes, drop_of_length-le}
use Rattle.std.specs.Prelude.{map}
use Rattle.std.proofs.Math.Nat.{eq-or-lt_of_le}
use Rattle.std.proofs.lemmas.Bool.{ne_eqb}
use Rattle.std.proofs.lemmas.Grind.{same_number_lists}
use Rattle.std.proofs.lemmas.List.{length-take}
use Rattle.rh_report.specs.declared.answers.TheConstants.{ANSWERS_PER_LINE}
use Rattle.rh_report.specs.Texts.{digit_of, digits_from}

pub digit_at : (answers : List Bool) (i : ℕ) (b : Bool) → i < length answers → get_or (map digit_of answers) i 0 ≡ digit_of (get_or answers i b)
digit_at [] i b inside = absurd (omega (arith, inside))
digit_at (a ∷ answers) zero b inside = refl
digit_at (a ∷ answers) (suc i) b inside = digit_at answers i b (omega (arith, inside))

pub ruleset digit_list = (digit_at, same_number_lists)

-- digits that fill the line
full : (n : ℕ) (line after : List Bool) → 0 < length line → n + length line ≡ ANSWERS_PER_LINE → digits_from n (line ++ after) ≡ map digit_of line ++ (codes "\n" ++ digits_from 0 after)
full n [] after some fills = absurd (omega (arith, some))
full n (a ∷ []) after some fills = rw (eq-eqb (n + 1) ANSWERS_PER_LINE fills) refl
full n (a ∷ b ∷ line) after some fills =
    let next : n + 1 + length (b ∷ line) ≡ ANSWERS_PER_LINE = omega (arith, fills) in
    rw (ne_eqb (n + 1) ANSWERS_PER_LINE (λ e. omega (arith, e, fills))) (ap (λ rest. digit_of a ∷ rest) (full (n + 1) (b ∷ line) after (omega arith) next))

-- the last digits, which leave room
last : (n : ℕ) (line : List Bool) → 0 < n + length line → n + length line < ANSWERS_PER_LINE → digits_from n line ≡ map digit_of line ++ codes "\n"
last n [] some room = rw (ne_eqb n 0 (λ e. omega (arith, e, some))) refl
last n (a ∷ line) some room =
    let next : n + 1 + length line < ANSWERS_PER_LINE = omega (arith, room) in
    rw (ne_eqb (n + 1) ANSWERS_PER_LINE (λ e. omega (arith, e, room))) (ap (λ rest. digit_of a ∷ rest) (last (n + 1) line (omega arith) next))

only_line : (line : List Bool) → 0 < length line → length line ≤ ANSWERS_PER_LINE → digits_from 0 line ≡ map digit_of line ++ codes "\n"
only_line line some few =
    elim (eq-or-lt_of_le few) [
      | inl fills ↦ let whole : 0 + length line ≡ ANSWERS_PER_LINE = omega (arith, fills) in ap (digits_from 0) (sym (append-nil line)) ∙ full 0 line [] some whole
      | inr room ↦ last 0 line (omega (arith, some)) (omega (arith, room))
    ]

first_line : (line after : List Bool) → 0 < length line → length line ≤ ANSWERS_PER_LINE → (length line ≡ ANSWERS_PER_LINE) ⊎ (after ≡ []) → digits_from 0 (line ++ after) ≡ (map digit_of line ++ codes "\n") ++ digits_from 0 after
first_line line after some few (inl fills) =
    let whole : 0 + length line ≡ ANSWERS_PER_LINE = omega (arith, fills) in
    full 0 line after some whole ∙ sym (append_assoc (map digit_of line) (codes "\n") (digits_from 0 after))
first_line line after some few (inr none) =
    ap (λ (rest : List Bool). digits_from 0 (line ++ rest)) none ∙ ap (digits_from 0) (append-nil line) ∙ only_line line some few
    ∙ sym (append-nil (map digit_of line ++ codes "\n")) ∙ ap (λ (rest : List Bool). (map digit_of line ++ codes "\n") ++ digits_from 0 rest) (sym none)

at_most : (n m : ℕ) → n ≡ min m ANSWERS_PER_LINE → n ≤ ANSWERS_PER_LINE
at_most n m is = omega (arith, is)

no_more : (rest : List Bool) (n : ℕ) → n ≡ min (length rest) ANSWERS_PER_LINE → (length (take n rest) ≡ ANSWERS_PER_LINE) ⊎ (drop n rest ≡ [])
no_more rest n is =
    elim (eq-or-lt_of_le (at_most n (length rest) is)) [
      | inl fills ↦ inl (omega (arith, length-take n rest, is, fills))
      | inr room ↦ inr (drop_of_length-le rest (omega (arith, is, room)))
    ]

-- the first line of the answers that are left, and then the others
pub line_and_rest : (rest line after : List Bool) (n : ℕ) → 0 < length rest → n ≡ min (length rest) ANSWERS_PER_LINE → line ≡ take n rest → after ≡ drop n rest
    → digits_from 0 rest ≡ (map digit_of line ++ codes "\n") ++ digits_from 0 after
line_and_rest rest line after n some is front back =
    let few : length (take n rest) ≤ ANSWERS_PER_LINE = omega (arith, length-take n rest, is) in
    let one : 0 < length (take n rest) = omega (arith, length-take n rest, is, some) in
    ap (digits_from 0) (sym (take-append-drop n rest)) ∙ first_line (take n rest) (drop n rest) one few (no_more rest n is)
    ∙ (λ i. (map digit_of (sym front i) ++ codes "\n") ++ digits_from 0 (sym back i))

pub one_line_more : (all rest after : List Bool) (done line : List ℕ) → digits_from 0 all ≡ done ++ digits_from 0 rest → digits_from 0 rest ≡ line ++ digits_from 0 after → digits_from 0 all ≡ (done ++ line) ++ digits_from 0 after
one_line_more all rest after done line so_far next = so_far ∙ ap (λ l. done ++ l) next ∙ sym (append_assoc done line (digits_from 0 after))
