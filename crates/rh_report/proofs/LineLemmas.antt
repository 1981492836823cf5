-- Lines, number by number.
use Rattle.std.proofs.Common.{◌≡◌, ◌∙◌, ap, sym, refl, arith, ℕ, zero, suc, ◌<◌, List, [], ◌∷◌, ◌++◌, length, take, drop, get_or, append_assoc, codes, decimal, flat_map}
use Rattle.std.proofs.lemmas.List.Concat.{flat_map-append}
use Rattle.std.specs.Borrow.{Bor}
use Rattle.rh_report.specs.Texts.{Numbers, front_text, line_text, numbers_as}

abbrev Given : Type 0
Given = Bor (List ℕ) × ℕ

abbrev text_at : List ℕ × ℕ → List ℕ
text_at number = number.0 ++ decimal number.1

abbrev texts : Numbers → List ℕ
texts numbers = flat_map text_at numbers

pub front_more : (word name : List ℕ) (numbers others : Numbers) → front_text word name (numbers ++ others) ≡ front_text word name numbers ++ front_text [] [] others
front_more word name numbers others =
    ap (λ l. word ++ (name ++ l)) (flat_map-append text_at numbers others)
    ∙ sym (append_assoc word (name ++ texts numbers) (texts others) ∙ ap (λ l. word ++ l) (append_assoc name (texts numbers) (texts others)))

pub line_more : (word name : List ℕ) (numbers others : Numbers) → line_text word name (numbers ++ others) ≡ front_text word name numbers ++ line_text [] [] others
line_more word name numbers others =
    ap (λ l. l ++ codes "\n") (front_more word name numbers others) ∙ append_assoc (front_text word name numbers) (texts others) (codes "\n")

numbers_at : (numbers : List Given) (i : ℕ) (d : Given) → i < length numbers → numbers_as numbers ≡ numbers_as (take i numbers) ++ numbers_as (get_or numbers i d ∷ drop (suc i) numbers)
numbers_at [] i d inside = absurd (omega (arith, inside))
numbers_at (n ∷ numbers) zero d inside = refl
numbers_at (n ∷ numbers) (suc i) d inside = ap (λ l. (n.0.now, n.1) ∷ l) (numbers_at numbers i d (omega (arith, inside)))

-- the next number, and those after it
pub number_and_rest : (word name : List ℕ) (numbers : List Given) (i : ℕ) (d : Given) → i < length numbers
    → front_text word name (numbers_as numbers) ≡ (front_text word name (numbers_as (take i numbers)) ++ ((get_or numbers i d).0.now ++ decimal (get_or numbers i d).1)) ++ front_text [] [] (numbers_as (drop (suc i) numbers))
number_and_rest word name numbers i d inside =
    let before = numbers_as (take i numbers) in
    let here = get_or numbers i d in
    let after = numbers_as (drop (suc i) numbers) in
    ap (front_text word name) (numbers_at numbers i d inside) ∙ front_more word name before ((here.0.now, here.1) ∷ after)
    ∙ sym (append_assoc (front_text word name before) (here.0.now ++ decimal here.1) (texts after))
