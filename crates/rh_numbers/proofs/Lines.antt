-- Numbers written one after another.
use Rattle.std.proofs.Common.{◌≡◌, ℕ, zero, suc, ◌<◌, List, [], ◌∷◌, ◌++◌, length, take, drop, get_or, Option, refl, sym, ap, ◌∙◌, arith, append_assoc}
use Rattle.rh_bytes.specs.Counting.{Emitted, EmittedFront}
use Rattle.rh_bytes.specs.declared.counted.Counted.{Counted}
use Rattle.rh_bytes.proofs.Writing.{emitting_stops}
use Rattle.rh_numbers.specs.Writing.{number_line, text_of}

text_split : (numbers : List ℕ) (i : ℕ) → i < length numbers → text_of numbers ≡ (text_of (take i numbers) ++ number_line (get_or numbers i 0)) ++ text_of (drop (suc i) numbers)
text_split [] i lt = absurd (omega (arith, lt))
text_split (n ∷ numbers) zero lt = refl
text_split (n ∷ numbers) (suc i) lt =
    ap (λ l. number_line n ++ l) (text_split numbers i (omega (arith, lt)))
    ∙ sym (ap (λ l. l ++ text_of (drop (suc i) numbers)) (append_assoc (number_line n) (text_of (take i numbers)) (number_line (get_or numbers i 0))) ∙ append_assoc (number_line n) (text_of (take i numbers) ++ number_line (get_or numbers i 0)) (text_of (drop (suc i) numbers)))

pub line_stops : {V : Type 0} {contents : V → Option (List ℕ)} (a b c : Counted V) (numbers : List ℕ) (i : ℕ) → i < length numbers → Emitted contents a b (text_of (take i numbers)) → EmittedFront contents b c (number_line (get_or numbers i 0)) → EmittedFront contents a c (text_of numbers)
line_stops a b c numbers i inside before front =
    emitting_stops a b c (text_of (take i numbers)) (number_line (get_or numbers i 0)) (text_of (drop (suc i) numbers)) (text_of numbers) (text_split numbers i inside) before front
