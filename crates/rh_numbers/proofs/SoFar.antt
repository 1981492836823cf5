-- What is so of a line of which the reader has come so far.
use Rattle.std.proofs.Common.{◌≡◌, ℕ, ◌+◌, ◌-◌, ◌*◌, ◌<◌, ◌≤◌, min, true, List, [], ◌∷◌, ◌++◌, Option, Some, None, inl, inr, refl, sym, ap, subst, ◌∙◌, arith, append_assoc, append-nil, length-append}
use Rattle.std.specs.Prelude.{◌||◌, fold, nat_eq, nat_le}
use Rattle.std.specs.Char.{digit_value, is_ascii_digit}
use Rattle.std.specs.Str.Parse.{IsNumeral, digits_value}
use Rattle.std.proofs.lemmas.Bool.{and_parts, cases_Bool, cond_both, eqb-true, leb-true}
use Rattle.std.proofs.lemmas.Int.Digits.{digits_push, digits_value_push}
use Rattle.std.proofs.lemmas.Str.{digit_value_digit}
use Rattle.rh_layout.specs.declared.limits.TheConstants.{MAX_KEY}
use Rattle.rh_numbers.specs.declared.line_so_far.LineSoFar.{LineSoFar}
use Rattle.rh_numbers.specs.declared.line_so_far.LineSoFar.TheVariants.{Head, MarkOne, MarkTwo, Start, Blank, Comment, Number, After, Return, Other}
use Rattle.rh_numbers.specs.Grammar.{AreSpaces, IsSpace}
use Rattle.rh_numbers.specs.Reading.{first, grown, next, past}

-- the number that counts for one of any size
abbrev pub capped : ℕ → ℕ
capped n = min n (MAX_KEY + 1)

-- the line is spaces or tabs, and then digits of a number that counts as n
pub record Digits (n : ℕ) (line : List ℕ) : Type 0 where
  pub before : List ℕ
  pub digits : List ℕ
  pub spelled : line ≡ before ++ digits
  pub spaces : AreSpaces before
  pub numeral : IsNumeral 10 digits
  pub value : n ≡ capped (digits_value 10 digits)

-- and then spaces or tabs
pub record Numeral (n : ℕ) (line : List ℕ) : Type 0 where
  pub front : List ℕ
  pub after : List ℕ
  pub spelled : line ≡ front ++ after
  pub number : Digits n front
  pub spaces : AreSpaces after

abbrev pub Said : Option ℕ → List ℕ → Type 0
Said None line = AreSpaces line
Said (Some n) line = Numeral n line

abbrev pub Returned : Option ℕ → List ℕ → Type 0
Returned said line = (front : List ℕ) × (line ≡ front ++ (13 ∷ [])) × Said said front

-- of a line behind the byte order mark, if there is one
abbrev pub Means : LineSoFar → List ℕ → Type 0
Means Start line = line ≡ []
Means Blank line = AreSpaces line
Means Comment line = (rest : List ℕ) × (line ≡ 35 ∷ rest)
Means (Number n) line = Digits n line
Means (After n) line = Numeral n line
Means (Return said) line = Returned said line
Means Other line = Unit {0}
Means _ line = ⊥

-- ---- one byte more

spaces_push : (line : List ℕ) (b : ℕ) → AreSpaces line → IsSpace b → AreSpaces (line ++ (b ∷ []))
spaces_push [] b spaces is = (is, tt)
spaces_push (x ∷ line) b spaces is = (spaces.0, spaces_push line b spaces.1 is)

pub digit_of : (b : ℕ) → is_ascii_digit b ≡ true → digit_value b + 48 ≡ b
digit_of b is = let p : (nat_le 48 b ≡ true) × (nat_le b 57 ≡ true) = and_parts (nat_le 48 b) (nat_le b 57) is in digit_value_digit b (leb-true _ _ p.0, leb-true _ _ p.1)

pub small_digit : (b : ℕ) → is_ascii_digit b ≡ true → digit_value b < 10
small_digit b is =
    let p : (nat_le 48 b ≡ true) × (nat_le b 57 ≡ true) = and_parts (nat_le 48 b) (nat_le b 57) is in
    let most : b ≤ 57 = leb-true _ _ p.1 in
    omega (arith, digit_of b is)

pub grown_capped : (v b : ℕ) → is_ascii_digit b ≡ true → grown (capped v) b ≡ capped (v * 10 + digit_value b)
grown_capped v b is =
    let d : b - 48 ≡ digit_value b = omega (arith, digit_of b is) in
    omega arith

first_digit : (line : List ℕ) (b : ℕ) → AreSpaces line → is_ascii_digit b ≡ true → Digits (grown 0 b) (line ++ (b ∷ []))
first_digit line b spaces is = record {
  before = line;
  digits = b ∷ [];
  spelled = refl;
  spaces = spaces;
  numeral = (omega arith, (small_digit b is, tt));
  value = grown_capped 0 b is;
}

next_digit : (n : ℕ) (line : List ℕ) (b : ℕ) → Digits n line → is_ascii_digit b ≡ true → Digits (grown n b) (line ++ (b ∷ []))
next_digit n line b d is = record {
  before = d.before;
  digits = d.digits ++ (b ∷ []);
  spelled = ap (λ l. l ++ (b ∷ [])) d.spelled ∙ append_assoc d.before d.digits (b ∷ []);
  spaces = d.spaces;
  numeral = (omega (arith, length-append d.digits (b ∷ [])), digits_push 10 d.digits b d.numeral.1 (small_digit b is));
  value = ap (λ m. grown m b) d.value ∙ grown_capped (digits_value 10 d.digits) b is ∙ ap capped (sym (digits_value_push 10 d.digits b));
}

pub no_spaces : (n : ℕ) (line : List ℕ) → Digits n line → Numeral n line
no_spaces n line d = record { front = line; after = []; spelled = sym (append-nil line); number = d; spaces = tt }

next_space : (n : ℕ) (line : List ℕ) (b : ℕ) → Numeral n line → IsSpace b → Numeral n (line ++ (b ∷ []))
next_space n line b m is = record {
  front = m.front;
  after = m.after ++ (b ∷ []);
  spelled = ap (λ l. l ++ (b ∷ [])) m.spelled ∙ append_assoc m.front m.after (b ∷ []);
  number = m.number;
  spaces = spaces_push m.after b m.spaces is;
}

-- what is taken for a space is one
a_space : (b : ℕ) → (nat_eq b 32 || nat_eq b 9) ≡ true → IsSpace b
a_space b is =
    elim (cases_Bool (nat_eq b 32)) [
      | inl space ↦ inl (eqb-true b 32 space)
      | inr other ↦ inr (eqb-true b 9 (rw other at is))
    ]

means_past : (blank : LineSoFar) (said : Option ℕ) (line : List ℕ) (b : ℕ) → Said said line → (IsSpace b → Means blank (line ++ (b ∷ []))) → Means (past blank said b) (line ++ (b ∷ []))
means_past spaced said line b told space =
    let P : LineSoFar → Type 0 = λ p. Means p (line ++ (b ∷ [])) in
    cond_both _ _ _ P (λ is. space (a_space b is)) (λ _. cond_both _ _ _ P (λ is. let back : Returned said (line ++ (b ∷ [])) = (line, ap (λ c. line ++ (c ∷ [])) (eqb-true b 13 is), told) in back) (λ _. tt))

means_first : (line : List ℕ) (b : ℕ) → AreSpaces line → Means (first b) (line ++ (b ∷ []))
means_first line b spaces =
    cond_both _ _ _ (λ p. Means p (line ++ (b ∷ []))) (first_digit line b spaces) (λ _. means_past Blank None line b spaces (spaces_push line b spaces))

pub means_next : (so_far : LineSoFar) (line : List ℕ) (b : ℕ) → Means so_far line → Means (next so_far b) (line ++ (b ∷ []))
means_next Start line b told =
    let P : LineSoFar → Type 0 = λ p. Means p (line ++ (b ∷ [])) in
    let none : AreSpaces line = subst AreSpaces (sym told) tt in
    cond_both _ _ _ P (λ is. let begun : (rest : List ℕ) × (line ++ (b ∷ []) ≡ 35 ∷ rest) = ([], ap (λ l. l ++ (b ∷ [])) told ∙ ap (λ c. c ∷ []) (eqb-true b 35 is)) in begun) (λ _. means_first line b none)
means_next Head line b told = absurd told
means_next MarkOne line b told = absurd told
means_next MarkTwo line b told = absurd told
means_next Blank line b told = means_first line b told
means_next Comment line b told = (told.0 ++ (b ∷ []), ap (λ l. l ++ (b ∷ [])) told.1)
means_next (Number n) line b told =
    cond_both _ _ _ (λ p. Means p (line ++ (b ∷ []))) (next_digit n line b told)
    (λ _. means_past (After n) (Some n) line b (no_spaces n line told) (next_space n line b (no_spaces n line told)))
means_next (After n) line b told = means_past (After n) (Some n) line b told (next_space n line b told)
means_next (Return said) line b told = tt
means_next Other line b told = tt

-- what the whole line has said
pub means_after : (so_far : LineSoFar) (done line : List ℕ) → Means so_far done → Means (fold next so_far line) (done ++ line)
means_after so_far done [] told = subst (Means so_far) (sym (append-nil done)) told
means_after so_far done (b ∷ line) told =
    subst (Means (fold next (next so_far b) line)) (append_assoc done (b ∷ []) line) (means_after (next so_far b) (done ++ (b ∷ [])) line (means_next so_far done b told))
