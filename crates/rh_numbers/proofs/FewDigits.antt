-- Plain lines, of a few digits and what ends a line.
use Rattle.std.proofs.Common.{◌≡◌, ℕ, suc, ◌+◌, ◌-◌, ◌*◌, true, ◌<◌, ◌≤◌, ◌^◌, List, [], ◌∷◌, ◌++◌, length, take, drop, drop-cons, get_or, inl, inr, refl, sym, ap, subst, ◌∙◌, arith, append_assoc, append-nil, length-take, take-append-drop}
use Rattle.std.specs.Prelude.{slice_index}
use Rattle.std.specs.Char.{digit_value, is_ascii_digit}
use Rattle.std.specs.Str.Parse.{AllDigits, IsNumeral, digits_value}
use Rattle.std.proofs.Math.Nat.{pow-le-pow_right}
use Rattle.std.proofs.lemmas.Int.Digits.{digits_more, digits_value-lt, digits_value_more}
use Rattle.std.proofs.lemmas.List.Elements.{All-nil, All-cons}
use Rattle.rh_layout.specs.Key.{IsKey}
use Rattle.rh_numbers.specs.declared.line_so_far.LineSoFar.TheVariants.{Start}
use Rattle.rh_numbers.specs.Grammar.{IsOneLine, IsReturn, Says, number}
use Rattle.rh_numbers.specs.Reading.{◌>>=◌, said_from}
use Rattle.rh_numbers.proofs.SoFar.{digit_of, small_digit}
use Rattle.rh_numbers.proofs.Spelling.{after, at_feed, digits_are_one_line, line_said, walk}

-- the number of a few digits
pub few_digits : (digits : List ℕ) (most : ℕ) → AllDigits 10 digits → length digits ≤ most → digits_value 10 digits < 10 ^ most
few_digits digits most all few =
    let small = digits_value-lt 10 digits all in
    let larger : 10 ^ length digits ≤ 10 ^ most = pow-le-pow_right {n = 10} (omega arith) few in
    omega (arith, small, larger)

-- and one digit more
pub one_more_digit : (text : List ℕ) (n k d : ℕ) → n < length text → AllDigits 10 (take n text) → k ≡ digits_value 10 (take n text) → is_ascii_digit (get_or text n 0) ≡ true → d ≡ get_or text n 0 - 48
    → AllDigits 10 (take (n + 1) text) × (k * 10 + d ≡ digits_value 10 (take (n + 1) text))
one_more_digit text n k d lt all is digit value =
    let b : ℕ = get_or text n 0 in
    let same : d ≡ digit_value b = omega (arith, digit_of b digit, value) in
    (digits_more 10 text n lt all (small_digit b digit), (λ i. is i * 10 + same i) ∙ sym (digits_value_more 10 text n lt))

-- the bytes from a place on, of which the first is known
byte_there : (text : List ℕ) (n b : ℕ) → n < length text → slice_index text n ≡ b → drop n text ≡ b ∷ drop (n + 1) text
byte_there text n b lt is = drop-cons text n 0 lt ∙ (λ i. is i ∷ drop (sym (one_more n) i) text)
  where
    one_more : (m : ℕ) → m + 1 ≡ suc m
    one_more m = omega arith

-- a line that ends here, by a carriage return and a line feed
pub returned : (text : List ℕ) (n : ℕ) → n + 1 < length text → slice_index text n ≡ 13 → slice_index text (n + 1) ≡ 10 → (end : List ℕ) × IsReturn end × (drop n text ≡ end ++ 10 ∷ drop (n + 1 + 1) text)
returned text n lt return feed =
    (13 ∷ [], inr refl, byte_there text n 13 (omega (arith, lt)) return ∙ ap (λ l. 13 ∷ l) (byte_there text (n + 1) 10 lt feed))

one_line_both : (front back : List ℕ) → IsOneLine front → IsOneLine back → IsOneLine (front ++ back)
one_line_both [] back is both = both
one_line_both (b ∷ front) back is both = (is.0, one_line_both front back is.1 both)

no_feed : (end : List ℕ) → IsReturn end → IsOneLine end
no_feed end (inl none) = subst IsOneLine (sym none) tt
no_feed end (inr return) = subst IsOneLine (sym return) ((λ is. omega (arith, is)), tt)

says_digits : (digits end : List ℕ) → IsNumeral 10 digits → IsReturn end → Says (digits ++ end) (digits_value 10 digits ∷ [])
says_digits digits end is ends =
    subst (λ l. Says (l ++ end) (digits_value 10 digits ∷ [])) (append-nil digits) (number [] digits [] end tt is tt ends)

module _ (text : List ℕ) (n : ℕ) (all : AllDigits 10 (take n text)) (some : 0 < n) (within : n ≤ length text) (the_key : IsKey (digits_value 10 (take n text))) where
  pub plain_line : (keys : List ℕ) (at k next : ℕ) (more : List ℕ) → k ≡ digits_value 10 (take n text) → (end : List ℕ) × IsReturn end × (drop n text ≡ end ++ 10 ∷ drop next text)
      → said_from keys at Start (text ++ more) ≡ said_from (keys ++ (k ∷ [])) (at + 1) Start (drop next text ++ more)
  plain_line keys at k next more is (end, ends, there) =
      let digits : List ℕ = take n text in
      let line : List ℕ = digits ++ end in
      let rest : List ℕ = drop next text ++ more in
      let numeral : IsNumeral 10 digits = (omega (arith, some, within, length-take n text), all) in
      let split : text ≡ line ++ (10 ∷ drop next text) = sym (take-append-drop n text) ∙ ap (λ l. digits ++ l) there ∙ sym (append_assoc digits end (10 ∷ drop next text)) in
      let cut : text ++ more ≡ line ++ (10 ∷ rest) = ap (λ l. l ++ more) split ∙ append_assoc line (10 ∷ drop next text) more in
      ap (said_from keys at Start) cut ∙ walk keys at Start line (10 ∷ rest) (one_line_both digits end (digits_are_one_line digits all) (no_feed end ends)) ∙ at_feed keys at (after Start line) rest
      ∙ ap (λ s. s >>= (λ later. said_from later (at + 1) Start rest)) (line_said keys at line (digits_value 10 digits ∷ []) (says_digits digits end numeral ends) (All-cons IsKey (digits_value 10 digits) [] the_key (All-nil IsKey)))
      ∙ ap (λ v. said_from (keys ++ (v ∷ [])) (at + 1) Start rest) (sym is)
