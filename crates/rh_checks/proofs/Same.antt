-- The first bad line of a text is the fault that its reader tells.
use Rattle.std.proofs.Common.{◌≡◌, ℕ, ◌+◌, List, [], ◌∷◌, ◌++◌, Some, None, inl, inr, refl, sym, ap, ◌∙◌, append_assoc, append-nil}
use Rattle.std.specs.Prelude.{nat_eq, nat_lt}
use Rattle.std.specs.List.{fold}
use Rattle.std.proofs.lemmas.Bool.{cases_Bool, ne_eqb}
use Rattle.std.proofs.lemmas.Grind.{fold-append}
use Rattle.rh_layout.specs.declared.limits.TheConstants.{MAX_KEY}
use Rattle.rh_numbers.specs.declared.fault.TextFault.{TextFault}
use Rattle.rh_numbers.specs.declared.line_so_far.LineSoFar.{LineSoFar}
use Rattle.rh_numbers.specs.declared.line_so_far.LineSoFar.TheVariants.{Head, MarkOne, MarkTwo, Start, Blank, Comment, Number, After, Return, Other}
use Rattle.rh_numbers.specs.Grammar.{IsOneLine, without_mark}
use Rattle.rh_numbers.specs.Reading.{◌>>=◌, Said, lines_said, next, said_from, text_said, with_key, with_line}
use Rattle.rh_numbers.proofs.Head.{mark_passed}
use Rattle.rh_checks.specs.Lines.{Bad, bad_in, bad_lines, bad_of, good_numbers, line_said, lines_of, numbers_in, numbers_of, text_lines, with_front}
use Rattle.rh_checks.proofs.Walks.{fronts, no_front}

-- what was said, behind these keys
abbrev behind : List ℕ → Said → Said
behind keys (more, None) = (keys ++ more, None)
behind keys (more, Some fault) = (keys, Some fault)

-- ---- one line

key_behind : (keys : List ℕ) (line n : ℕ) → with_key keys line n ≡ behind keys (with_key [] line n)
key_behind keys line n = elim (cases_Bool (nat_lt MAX_KEY n)) [ inl t ↦ rw t refl | inr f ↦ rw f refl ]

none_behind : (keys : List ℕ) → with_line keys 0 Start ≡ behind keys ([], None)
none_behind keys = ap (λ (l : List ℕ). (l, None)) (sym (append-nil keys))

line_behind : (keys : List ℕ) (line : ℕ) (so_far : LineSoFar) → with_line keys line so_far ≡ behind keys (with_line [] line so_far)
line_behind keys line Head = none_behind keys
line_behind keys line MarkOne = refl
line_behind keys line MarkTwo = refl
line_behind keys line Start = none_behind keys
line_behind keys line Blank = none_behind keys
line_behind keys line Comment = none_behind keys
line_behind keys line (Number n) = key_behind keys line n
line_behind keys line (After n) = key_behind keys line n
line_behind keys line (Return None) = none_behind keys
line_behind keys line (Return (Some n)) = key_behind keys line n
line_behind keys line Other = refl

-- ---- lines

-- what lines say up to the first bad one, of which the first has this number
abbrev lines_up : (keys : List ℕ) (number : ℕ) → List (List ℕ) → Said
lines_up keys number [] = (keys, None)
lines_up keys number (line ∷ lines) = with_line keys number (fold next Start line) >>= (λ more. lines_up more (number + 1) lines)

nothing_more : (said : Said) → said ≡ (said >>= (λ more. (more, None)))
nothing_more (keys, None) = refl
nothing_more (keys, Some fault) = refl

then_same : (said : Said) (f g : List ℕ → Said) → ((keys : List ℕ) → f keys ≡ g keys) → (said >>= f) ≡ (said >>= g)
then_same (keys, None) f g same = same keys
then_same (keys, Some fault) f g same = refl

bytes_up : (keys : List ℕ) (number : ℕ) (front bytes : List ℕ) → said_from keys number (fold next Start front) bytes ≡ lines_up keys number (with_front front (text_lines bytes))
unfolding said_from
bytes_up keys number front [] = nothing_more (with_line keys number (fold next Start front)) ∙ ap (λ l. lines_up keys number (l ∷ [])) (sym (append-nil front))
bytes_up keys number front (b ∷ bytes) =
    elim (cases_Bool (nat_eq b 10)) [
      | inl t ↦ rw t (then_same (with_line keys number (fold next Start front)) (λ more. said_from more (number + 1) Start bytes) (λ more. lines_up more (number + 1) (text_lines bytes))
          (λ more. bytes_up more (number + 1) [] bytes ∙ ap (lines_up more (number + 1)) (no_front bytes))
          ∙ ap (λ l. lines_up keys number (l ∷ text_lines bytes)) (sym (append-nil front)))
      | inr f ↦ rw f (ap (λ s. said_from keys number s bytes) (sym (fold-append next Start front (b ∷ []))) ∙ bytes_up keys number (front ++ b ∷ []) bytes
          ∙ ap (lines_up keys number) (sym (fronts front (b ∷ []) (text_lines bytes))))
    ]

text_up : (text : List ℕ) → text_said text ≡ lines_up [] 1 (lines_of text)
text_up text = mark_passed text ∙ bytes_up [] 1 [] (without_mark text) ∙ ap (lines_up [] 1) (no_front (without_mark text))

-- ---- a line alone

one_line : (line : List ℕ) → IsOneLine line → text_lines line ≡ line ∷ []
one_line [] one = refl
one_line (b ∷ bytes) one = rw (ne_eqb b 10 one.0) (ap (with_front (b ∷ [])) (one_line bytes one.1))

pub said_alone : (line : List ℕ) → IsOneLine line → lines_said line ≡ line_said 1 line
said_alone line one = bytes_up [] 1 [] line ∙ ap (lines_up [] 1) (no_front line ∙ one_line line one) ∙ sym (nothing_more (line_said 1 line))

-- ---- the first bad line

no_bad : (bad : Bad) (others : List Bad) → bad ∷ others ≡ [] → ⊥
no_bad bad others h = cc

first_bad : (bad other : Bad) (bads others : List Bad) → bad ∷ bads ≡ other ∷ others → bad.0 ≡ other.0
first_bad bad other bads others h = cc

module _ (number : ℕ) (keys : List ℕ) (line : List ℕ) (lines : List (List ℕ)) where
  goes_on : (said : Said) → line_said number line ≡ said → lines_up keys number (line ∷ lines) ≡ (behind keys said >>= (λ more. lines_up more (number + 1) lines))
  goes_on said is = ap (λ s. s >>= (λ more. lines_up more (number + 1) lines)) (line_behind keys number (fold next Start line) ∙ ap (behind keys) is)

all_good : (keys : List ℕ) (number : ℕ) (lines : List (List ℕ)) → bad_of number lines ≡ [] → lines_up keys number lines ≡ (keys ++ numbers_of number lines, None)
all_good keys number [] none = none_behind keys
all_good keys number (line ∷ lines) none = by_line (line_said number line) refl none (λ more rest. all_good more (number + 1) lines rest)
  where
    by_line : (said : Said) → line_said number line ≡ said → bad_in said line ++ bad_of (number + 1) lines ≡ []
        → ((more : List ℕ) → bad_of (number + 1) lines ≡ [] → lines_up more (number + 1) lines ≡ (more ++ numbers_of (number + 1) lines, None))
        → lines_up keys number (line ∷ lines) ≡ (keys ++ (numbers_in (line_said number line) ++ numbers_of (number + 1) lines), None)
    by_line (more, None) is none others =
        goes_on number keys line lines (more, None) is ∙ others (keys ++ more) none
        ∙ ap (λ (l : List ℕ). (l, None)) (append_assoc keys more (numbers_of (number + 1) lines) ∙ ap (λ s. keys ++ (numbers_in s ++ numbers_of (number + 1) lines)) (sym is))
    by_line (more, Some fault) is none others = absurd (no_bad _ (bad_of (number + 1) lines) none)

-- what is told of lines of which this one is the first bad one
abbrev FirstBad : (keys : List ℕ) (number : ℕ) → List (List ℕ) → Bad → Type 0
FirstBad keys number lines bad = (told : List ℕ) × (lines_up keys number lines ≡ (told, Some bad.0))

one_bad : (keys : List ℕ) (number : ℕ) (lines : List (List ℕ)) (bad : Bad) (others : List Bad) → bad_of number lines ≡ bad ∷ others → FirstBad keys number lines bad
one_bad keys number [] bad others is = absurd (no_bad bad others (sym is))
one_bad keys number (line ∷ lines) bad others is = by_line (line_said number line) refl is (λ more rest. one_bad more (number + 1) lines bad others rest)
  where
    by_line : (said : Said) → line_said number line ≡ said → bad_in said line ++ bad_of (number + 1) lines ≡ bad ∷ others
        → ((more : List ℕ) → bad_of (number + 1) lines ≡ bad ∷ others → FirstBad more (number + 1) lines bad) → FirstBad keys number (line ∷ lines) bad
    by_line (more, None) says is later =
        let rest = later (keys ++ more) is in
        (rest.0, goes_on number keys line lines (more, None) says ∙ rest.1)
    by_line (more, Some fault) says is later =
        (keys, goes_on number keys line lines (more, Some fault) says ∙ ap (λ (f : TextFault). (keys, Some f)) (first_bad _ bad (bad_of (number + 1) lines) others is))

-- ---- a text

pub good_said : (text : List ℕ) → bad_lines text ≡ [] → text_said text ≡ (good_numbers text, None)
good_said text none = text_up text ∙ all_good [] 1 (lines_of text) none

pub bad_said : (text : List ℕ) (bad : Bad) (others : List Bad) → bad_lines text ≡ bad ∷ others → (keys : List ℕ) × (text_said text ≡ (keys, Some bad.0))
bad_said text bad others is =
    let told = one_bad [] 1 (lines_of text) bad others is in
    (told.0, text_up text ∙ told.1)

abbrev all_taken : List ℕ → Said
all_taken keys = (keys, None)

abbrev refused : List ℕ → TextFault → Said
refused keys fault = (keys, Some fault)

no_fault : (keys told : List ℕ) (fault : TextFault) → all_taken keys ≡ refused told fault → ⊥
no_fault keys told fault h = let bad = ap (λ (s : Said). s.1) h in cc

pub taken_said : (text keys : List ℕ) → text_said text ≡ (keys, None) → bad_lines text ≡ []
taken_said text keys taken = by_bad (bad_lines text) refl
  where
    by_bad : (bads : List Bad) → bad_lines text ≡ bads → bad_lines text ≡ []
    by_bad [] is = is
    by_bad (bad ∷ others) is = let told = bad_said text bad others is in absurd (no_fault keys told.0 bad.0 (sym taken ∙ told.1))
