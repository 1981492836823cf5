-- A text of keys is read to them.
use Rattle.std.proofs.Common.{◌≡◌, ℕ, ◌+◌, ◌*◌, ◌<◌, ◌≤◌, ◌^◌, true, List, [], ◌∷◌, ◌++◌, length, None, Ok, inl, inr, refl, sym, ap, subst, ◌∙◌, arith, append_assoc, append-nil}
use Rattle.std.specs.Prelude.{All, decimal, fold, nat_le}
use Rattle.std.specs.Char.{digit_value, is_ascii_digit}
use Rattle.std.specs.Str.Parse.{AllDigits, IsNumeral, digits_value, digits_value_after}
use Rattle.std.proofs.lemmas.Bool.{and_from, le-leb, le-ltb, ne_eqb}
use Rattle.std.proofs.lemmas.Fmt.{decimal_is_IsNumeral}
use Rattle.std.proofs.lemmas.List.Elements.{All-nil, All-cons, All-head, All-tail}
use Rattle.std.proofs.lemmas.List.Sums.{fold-append}
use Rattle.std.proofs.lemmas.Str.Parse.{digit_from_value}
use Rattle.rh_layout.specs.Key.{IsKey}
use Rattle.rh_layout.specs.declared.limits.TheConstants.{MAX_KEY, MAX_KEYS}
use Rattle.rh_numbers.specs.declared.line_so_far.LineSoFar.{LineSoFar}
use Rattle.rh_numbers.specs.declared.line_so_far.LineSoFar.TheVariants.{Start, Blank, Comment, Number, After}
use Rattle.rh_numbers.specs.Grammar.{AreLines, AreSpaces, IsKeyText, IsOneLine, IsReturn, IsSpace, IsText, Says, blank, comment, last, more, number, without_mark}
use Rattle.rh_numbers.specs.Reading.{◌>>=◌, Said, first, limited, next, said_from, text_keys, text_said, with_key, with_line}
use Rattle.rh_numbers.specs.Writing.{text_of}
use Rattle.rh_numbers.proofs.Head.{mark_passed, no_mark}
use Rattle.rh_numbers.proofs.SoFar.{capped, grown_capped}

-- what a line has said after these bytes
abbrev pub after : LineSoFar → List ℕ → LineSoFar
after so_far line = fold next so_far line

-- ---- the parts of a line

after_comment : (line : List ℕ) → after Comment line ≡ Comment
after_comment [] = refl
after_comment (b ∷ line) = after_comment line

-- after a space or a tab
next_space : (so_far then : LineSoFar) (b : ℕ) → IsSpace b → next so_far 32 ≡ then → next so_far 9 ≡ then → next so_far b ≡ then
next_space so_far then b (inl is) space tab = ap (next so_far) is ∙ space
next_space so_far then b (inr is) space tab = ap (next so_far) is ∙ tab

-- what holds after spaces and tabs
after_blank : (P : LineSoFar → Type 0) (spaces : List ℕ) → AreSpaces spaces → P Blank → P (after Blank spaces)
after_blank P [] are later = later
after_blank P (b ∷ spaces) are later =
    subst (λ p. P (after p spaces)) (sym (next_space Blank Blank b are.0 refl refl)) (after_blank P spaces are.1 later)

after_start : (P : LineSoFar → Type 0) (spaces : List ℕ) → AreSpaces spaces → P Start → P Blank → P (after Start spaces)
after_start P [] are now later = now
after_start P (b ∷ spaces) are now later =
    subst (λ p. P (after p spaces)) (sym (next_space Start Blank b are.0 refl refl)) (after_blank P spaces are.1 later)

after_after : (P : LineSoFar → Type 0) (n : ℕ) (spaces : List ℕ) → AreSpaces spaces → P (After n) → P (after (After n) spaces)
after_after P n [] are now = now
after_after P n (b ∷ spaces) are now =
    subst (λ p. P (after p spaces)) (sym (next_space (After n) (After n) b are.0 refl refl)) (after_after P n spaces are.1 now)

after_number : (P : LineSoFar → Type 0) (n : ℕ) (spaces : List ℕ) → AreSpaces spaces → P (Number n) → P (After n) → P (after (Number n) spaces)
after_number P n [] are now later = now
after_number P n (b ∷ spaces) are now later =
    subst (λ p. P (after p spaces)) (sym (next_space (Number n) (After n) b are.0 refl refl)) (after_after P n spaces are.1 later)

a_digit : (b : ℕ) → digit_value b < 10 → is_ascii_digit b ≡ true
a_digit b small = let r = digit_from_value b small in and_from (nat_le 48 b) (nat_le b 57) (le-leb 48 b r.0) (le-leb b 57 r.1)

next_number : (v b : ℕ) → digit_value b < 10 → next (Number (capped v)) b ≡ Number (capped (v * 10 + digit_value b))
next_number v b small = rw (a_digit b small) (ap Number (grown_capped v b (a_digit b small)))

next_first : (b : ℕ) → digit_value b < 10 → first b ≡ Number (capped (0 * 10 + digit_value b))
next_first b small = rw (a_digit b small) (ap Number (grown_capped 0 b (a_digit b small)))

next_start : (b : ℕ) → digit_value b < 10 → next Start b ≡ first b
next_start b small = let r = digit_from_value b small in rw (ne_eqb b 35 (λ is. omega (arith, r.0, is))) refl

after_digits : (v : ℕ) (digits : List ℕ) → AllDigits 10 digits → after (Number (capped v)) digits ≡ Number (capped (digits_value_after 10 v digits))
after_digits v [] all = refl
after_digits v (b ∷ digits) all =
    ap (λ p. after p digits) (next_number v b all.0) ∙ after_digits (v * 10 + digit_value b) digits all.1

-- the digits of a number, after these or none
after_numeral : (so_far : LineSoFar) (digits : List ℕ) → IsNumeral 10 digits → ((b : ℕ) → digit_value b < 10 → next so_far b ≡ first b) → after so_far digits ≡ Number (capped (digits_value 10 digits))
after_numeral so_far [] is begins = absurd (omega (arith, is.0))
after_numeral so_far (b ∷ digits) is begins =
    ap (λ p. after p digits) (begins b is.1.0 ∙ next_first b is.1.0) ∙ after_digits (0 * 10 + digit_value b) digits is.1.1

-- ---- a line

abbrev pub said_all : List ℕ → Said
said_all keys = (keys, None)

key_fits : (keys : List ℕ) (at v : ℕ) → v ≤ MAX_KEY → with_key keys at (capped v) ≡ said_all (keys ++ (v ∷ []))
key_fits keys at v small =
    let same : capped v ≡ v = omega arith in
    subst (λ n. with_key keys at n ≡ said_all (keys ++ (v ∷ []))) (sym same) (rw (le-ltb MAX_KEY v small) refl)

blank_line : (keys : List ℕ) (at : ℕ) (return : List ℕ) → IsReturn return → (with_line keys at (after Start return) ≡ said_all keys) × (with_line keys at (after Blank return) ≡ said_all keys)
blank_line keys at return (inl is) = rw is (refl, refl)
blank_line keys at return (inr is) = rw is (refl, refl)

number_line : (keys : List ℕ) (at n : ℕ) (return : List ℕ) → IsReturn return → (with_line keys at (after (Number n) return) ≡ with_key keys at n) × (with_line keys at (after (After n) return) ≡ with_key keys at n)
number_line keys at n return (inl is) = rw is (refl, refl)
number_line keys at n return (inr is) = rw is (refl, refl)

-- the number of a line, of any size
pub number_at : (keys : List ℕ) (at : ℕ) (before digits spaces return : List ℕ) → AreSpaces before → IsNumeral 10 digits → AreSpaces spaces → IsReturn return
    → with_line keys at (after Start (((before ++ digits) ++ spaces) ++ return)) ≡ with_key keys at (capped (digits_value 10 digits))
number_at keys at before digits spaces return are is ends_spaces ends =
    let v : ℕ = digits_value 10 digits in
    let r = number_line keys at (capped v) return ends in
    let begun : after Start (before ++ digits) ≡ Number (capped v) =
    fold-append next Start before digits ∙ after_start (λ p. after p digits ≡ Number (capped v)) before are (after_numeral Start digits is next_start) (after_numeral Blank digits is (λ b small. refl)) in
    ap (with_line keys at) (fold-append next Start ((before ++ digits) ++ spaces) return ∙ ap (λ p. after p return) (fold-append next Start (before ++ digits) spaces ∙ ap (λ p. after p spaces) begun))
    ∙ after_number (λ p. with_line keys at (after p return) ≡ with_key keys at (capped v)) (capped v) spaces ends_spaces r.0 r.1

pub line_said : (keys : List ℕ) (at : ℕ) (line numbers : List ℕ) → Says line numbers → All IsKey numbers → with_line keys at (after Start line) ≡ said_all (keys ++ numbers)
line_said keys at line numbers (comment rest) fit = ap (with_line keys at) (after_comment rest) ∙ ap said_all (sym (append-nil keys))
line_said keys at line numbers (blank spaces return are ends) fit =
    let r = blank_line keys at return ends in
    ap (with_line keys at) (fold-append next Start spaces return)
    ∙ after_start (λ p. with_line keys at (after p return) ≡ said_all keys) spaces are r.0 r.1 ∙ ap said_all (sym (append-nil keys))
line_said keys at line numbers (number before digits spaces return are is ends_spaces ends) fit =
    let v : ℕ = digits_value 10 digits in
    number_at keys at before digits spaces return are is ends_spaces ends
    ∙ key_fits keys at v (All-head IsKey v [] fit)

-- ---- a text

pub walk : (keys : List ℕ) (at : ℕ) (so_far : LineSoFar) (line rest : List ℕ) → IsOneLine line → said_from keys at so_far (line ++ rest) ≡ said_from keys at (after so_far line) rest
unfolding said_from
walk keys at so_far [] rest one = refl
walk keys at so_far (b ∷ line) rest one = rw (ne_eqb b 10 one.0) (walk keys at (next so_far b) line rest one.1)

pub at_feed : (keys : List ℕ) (at : ℕ) (so_far : LineSoFar) (rest : List ℕ) → said_from keys at so_far (10 ∷ rest) ≡ (with_line keys at so_far >>= (λ later. said_from later (at + 1) Start rest))
unfolding said_from
at_feed keys at so_far rest = refl

pub at_end : (keys : List ℕ) (at : ℕ) (so_far : LineSoFar) → said_from keys at so_far [] ≡ with_line keys at so_far
unfolding said_from
at_end keys at so_far = refl

pub All-parts : (P : ℕ → Type 0) (xs ys : List ℕ) → All P (xs ++ ys) → All P xs × All P ys
All-parts P [] ys all = (All-nil P, all)
All-parts P (x ∷ xs) ys all =
    let rest = All-parts P xs ys (All-tail P x (xs ++ ys) all) in
    (All-cons P x xs (All-head P x (xs ++ ys) all) rest.0, rest.1)

lines_given : (keys : List ℕ) (at : ℕ) (text numbers : List ℕ) → AreLines text numbers → All IsKey numbers → said_from keys at Start text ≡ said_all (keys ++ numbers)
lines_given keys at text numbers (last line said one says) fit =
    ap (said_from keys at Start) (sym (append-nil text)) ∙ walk keys at Start text [] one ∙ at_end keys at (after Start text) ∙ line_said keys at text numbers says fit
lines_given keys at text numbers (more line said rest others one says lines) fit =
    let fits = All-parts IsKey said others fit in
    walk keys at Start line (10 ∷ rest) one ∙ at_feed keys at (after Start line) rest
    ∙ ap (λ r. r >>= (λ later. said_from later (at + 1) Start rest)) (line_said keys at line said says fits.0)
    ∙ lines_given (keys ++ said) (at + 1) rest others lines fits.1
    ∙ ap said_all (append_assoc keys said others)

pub any_text_given : (text keys : List ℕ) → IsText text keys → text_said text ≡ said_all keys
any_text_given text keys t = mark_passed text ∙ lines_given [] 1 (without_mark text) keys t.lines t.in_range

pub text_given : (text keys : List ℕ) → IsKeyText text keys → text_keys text ≡ Ok keys
text_given text keys t =
    ap limited (any_text_given text keys (record { lines = t.lines; in_range = t.in_range }))
    ∙ rw (le-ltb MAX_KEYS (length keys) t.few) refl

-- ---- what is written

pub digits_are_one_line : (digits : List ℕ) → AllDigits 10 digits → IsOneLine digits
digits_are_one_line [] all = tt
digits_are_one_line (b ∷ digits) all = let r = digit_from_value b all.0 in (λ is. omega (arith, r.0, is), digits_are_one_line digits all.1)

number_said : (n : ℕ) → n < 2 ^ 64 → Says (decimal n) (n ∷ [])
number_said n fits =
    let d = decimal_is_IsNumeral n fits in
    subst (λ l. Says l (n ∷ [])) (append-nil (decimal n ++ []) ∙ append-nil (decimal n))
    (subst (λ v. Says (((([] ++ decimal n)) ++ []) ++ []) (v ∷ [])) d.1 (number [] (decimal n) [] [] tt d.0 tt (inl refl)))

written_lines : (keys : List ℕ) → All IsKey keys → AreLines (text_of keys) keys
written_lines [] fit = last [] [] tt (blank [] [] tt (inl refl))
written_lines (n ∷ keys) fit =
    let key : n ≤ MAX_KEY = All-head IsKey n keys fit in
    let small : n < 2 ^ 64 = omega (arith, key) in
    subst (λ l. AreLines l (n ∷ keys)) (sym (append_assoc (decimal n) (10 ∷ []) (text_of keys)))
    (more (decimal n) (n ∷ []) (text_of keys) keys (digits_are_one_line (decimal n) (decimal_is_IsNumeral n small).0.1) (number_said n small) (written_lines keys (All-tail IsKey n keys fit)))

-- a text that begins with digits has no byte order mark
digits_first : (digits rest : List ℕ) → IsNumeral 10 digits → without_mark (digits ++ rest) ≡ digits ++ rest
digits_first [] rest is = absurd (omega (arith, is.0))
digits_first (b ∷ digits) rest is = let r = digit_from_value b is.1.0 in no_mark b (digits ++ rest) (λ marks. omega (arith, r.1, marks))

written_unmarked : (keys : List ℕ) → All IsKey keys → without_mark (text_of keys) ≡ text_of keys
written_unmarked [] fit = refl
written_unmarked (n ∷ keys) fit =
    let key : n ≤ MAX_KEY = All-head IsKey n keys fit in
    let small : n < 2 ^ 64 = omega (arith, key) in
    let behind = append_assoc (decimal n) (10 ∷ []) (text_of keys) in
    ap without_mark behind ∙ digits_first (decimal n) (10 ∷ text_of keys) (decimal_is_IsNumeral n small).0 ∙ sym behind

pub text_written : (keys : List ℕ) → length keys ≤ MAX_KEYS → All IsKey keys → IsKeyText (text_of keys) keys
text_written keys few fit = record { lines = subst (λ l. AreLines l keys) (sym (written_unmarked keys fit)) (written_lines keys fit); few = few; in_range = fit }
