-- The first line of a text, and the first word of a line.
use Rattle.std.proofs.Common.{Bor, ◌≡◌, ◌∙◌, ℕ, zero, suc, ◌+◌, ◌-◌, ◌<◌, ◌≤◌, ◌==◌, Bool, true, false, cond, List, [], ◌∷◌, ◌++◌, length, take, drop, length-drop, Option, Some, None, MatchOption, IfSome, inl, inr, refl, ap, sym, arith}
use Rattle.std.proofs.lemmas.Bool.{cases_Bool, eqb-true, ltb-false, ltb-true}
use Rattle.std.proofs.lemmas.List.{take_all}
use Rattle.std.proofs.lemmas.List.Splits.{slice_split_first, length-slice_split}
use Rattle.std.proofs.lemmas.Str.Ascii.{encode_ascii}
use Rattle.std.proofs.lemmas.Str.Pattern.{drop_at_char}
use Rattle.std.specs.Prelude.{nat_lt, filter, unwrap_or}
use Rattle.std.specs.List.{slice_split, position_or_len, before_first, after_first}
use Rattle.std.specs.Str.Pattern.{FindsCharPrefix, CutsPrefixes, IsFullyTrimmed, IsTrimStartMatches}
use Rattle.rh_lines.specs.Lines.{is_line_feed, is_space, has_bytes, without_empty_last, lines_of, words_of}

-- a list in which no element passes is the one part
split_whole : {X : Type 0} (p : X → Bool) (xs : List X) → length xs ≤ position_or_len p xs → slice_split p xs ≡ xs ∷ []
split_whole p [] h = refl
split_whole p (x ∷ xs) h =
    elim (cases_Bool (p x)) [
      | inl passes ↦ let none : suc (length xs) ≤ 0 = rw passes at h in absurd (omega arith)
      | inr fails ↦
          let more : suc (length xs) ≤ 1 + position_or_len p xs = rw fails at h in
          rw (fails, split_whole p xs (omega arith)) refl
    ]

ended_more : (part : List ℕ) (parts : List (List ℕ)) → 0 < length parts → without_empty_last (part ∷ parts) ≡ part ∷ without_empty_last parts
ended_more part [] h = absurd (omega arith)
ended_more part (next ∷ parts) h = refl

lines_cut : (text : List ℕ) → position_or_len is_line_feed text < length text → lines_of text ≡ before_first is_line_feed text ∷ lines_of (after_first is_line_feed text)
unfolding lines_of
lines_cut text at =
    ap without_empty_last (slice_split_first is_line_feed text 0 at)
    ∙ ended_more (before_first is_line_feed text) (slice_split is_line_feed (after_first is_line_feed text)) (omega (arith, length-slice_split is_line_feed (after_first is_line_feed text)))

no_line : lines_of [] ≡ []
unfolding lines_of
no_line = refl

one_line : (text : List ℕ) → 0 < length text → length text ≤ position_or_len is_line_feed text → lines_of text ≡ text ∷ []
unfolding lines_of
one_line [] some h = absurd (omega arith)
one_line (b ∷ bs) some h = ap without_empty_last (split_whole is_line_feed (b ∷ bs) h)

pub no_line_left : (text : List ℕ) → length text ≡ 0 → lines_of text ≡ []
no_line_left [] none = no_line
no_line_left (b ∷ bs) none = absurd (omega arith)

lines_within : (n : ℕ) (text : List ℕ) → length text ≤ n → length (lines_of text) ≤ length text
lines_within n [] h = rw no_line (omega arith)
lines_within zero (b ∷ bs) h = absurd (omega arith)
lines_within (suc n) (b ∷ bs) h =
    let text = b ∷ bs in
    elim (cases_Bool (nat_lt (position_or_len is_line_feed text) (length text))) [
      | inl at ↦
          let less = length-drop (position_or_len is_line_feed text + 1) text in
          let more = lines_within n (after_first is_line_feed text) (omega (arith, less)) in
          rw (lines_cut text (ltb-true _ _ at)) (omega (arith, less, more))
      | inr none ↦ rw (one_line text (omega arith) (ltb-false _ _ none)) (omega arith)
    ]

-- a text has no more lines than bytes
pub lines_few : (text : List ℕ) → length (lines_of text) ≤ length text
lines_few text = lines_within (length text) text (omega arith)

no_more_words : words_of [] ≡ []
unfolding words_of
no_more_words = refl

one_word : (line : List ℕ) → 0 < length line → length line ≤ position_or_len is_space line → words_of line ≡ line ∷ []
unfolding words_of
one_word [] some h = absurd (omega arith)
one_word (b ∷ bs) some h = ap (filter has_bytes) (split_whole is_space (b ∷ bs) h)

word_cut : (line : List ℕ) → position_or_len is_space line < length line → has_bytes (before_first is_space line) ≡ true → words_of line ≡ before_first is_space line ∷ words_of (after_first is_space line)
unfolding words_of
word_cut line at some = ap (filter has_bytes) (slice_split_first is_space line 0 at) ∙ rw some refl

some_bytes : (n b : ℕ) (bs : List ℕ) → 0 < n → has_bytes (take n (b ∷ bs)) ≡ true
some_bytes zero b bs h = absurd (omega arith)
some_bytes (suc n) b bs h = refl

other_first : (b : ℕ) (bs : List ℕ) → (b == 32) ≡ false → 0 < position_or_len is_space (b ∷ bs)
other_first b bs other = rw other (omega arith)

not_space : (b : ℕ) (bs : List ℕ) (o : Option ℕ) → FindsCharPrefix 32 (b ∷ bs) o → IfSome o (λ n. n ≡ 0) → (b == 32) ≡ true → ⊥
not_space b bs None found empty is = found bs (ap (λ x. x ∷ bs) (eqb-true b 32 is) ∙ ap (λ space. space ++ bs) (sym (encode_ascii 32 (omega arith))))
not_space b bs (Some n) found empty is = let wide : n ≡ 1 = found.ends in omega arith

trimmed_first : (b : ℕ) (bs : List ℕ) → IsFullyTrimmed (FindsCharPrefix 32) (b ∷ bs) → (b == 32) ≡ false
trimmed_first b bs h =
    elim (cases_Bool (b == 32)) [
      | inl is ↦ absurd (not_space b bs h.0 h.1 h.2 is)
      | inr other ↦ other
    ]

space_more : (line : List ℕ) → words_of (32 ∷ line) ≡ words_of line
unfolding words_of
space_more line = refl

-- spaces before the first word don't matter
after_cuts : (s r ns : List ℕ) → CutsPrefixes (FindsCharPrefix 32) s ns r → words_of s ≡ words_of r
after_cuts s r [] h = ap words_of (sym h)
after_cuts s r (n ∷ ns) h =
    let space : h.0 ≡ 32 ∷ drop n h.0 = drop_at_char 32 h.0 0 n h.2 (omega arith) in
    after_cuts s h.0 ns h.1 ∙ ap words_of space ∙ space_more (drop n h.0) ∙ ap words_of (sym h.3)

after_trim : (s r : List ℕ) → IsTrimStartMatches (FindsCharPrefix 32) s r → words_of s ≡ words_of r
after_trim s r h = after_cuts s r h.0.0 h.0.1

-- a line of spaces alone has no word
pub no_word_in : (line rest : List ℕ) → IsTrimStartMatches (FindsCharPrefix 32) line rest → length rest ≡ 0 → words_of line ≡ []
no_word_in line [] trim none = after_trim line [] trim ∙ no_more_words
no_word_in line (b ∷ bs) trim none = absurd (omega arith)

first_word : (rest : List ℕ) → 0 < length rest → IsFullyTrimmed (FindsCharPrefix 32) rest → position_or_len is_space rest < length rest → words_of rest ≡ before_first is_space rest ∷ words_of (after_first is_space rest)
first_word [] some full at = absurd (omega arith)
first_word (b ∷ bs) some full at =
    word_cut (b ∷ bs) at (some_bytes (position_or_len is_space (b ∷ bs)) b bs (other_first b bs (trimmed_first b bs full)))

-- the first word, and the words after it
pub words_step : (line : List ℕ) (rest none : Bor (List ℕ)) (r : Option (Bor (List ℕ) × Bor (List ℕ))) → IsTrimStartMatches (FindsCharPrefix 32) line rest.now → 0 < length rest.now → none.now ≡ [] → MatchOption r (position_or_len is_space rest.now ≡ length rest.now) (λ x. (x.0.now ≡ before_first is_space rest.now) × (x.1.now ≡ after_first is_space rest.now) × (position_or_len is_space rest.now < length rest.now)) → words_of line ≡ (unwrap_or r (rest, none)).0.now ∷ words_of (unwrap_or r (rest, none)).1.now
words_step line rest none None trim some empty found =
    after_trim line rest.now trim ∙ one_word rest.now some (omega arith) ∙ rw (empty, no_more_words) refl
words_step line rest none (Some x) trim some empty found =
    after_trim line rest.now trim ∙ first_word rest.now some trim.1 found.2 ∙ rw (found.0, found.1) refl

-- ---- what a search for the first line feed answers

abbrev pub Answer : (text : List ℕ) (r : Option ℕ) → Type 0
Answer text r =
    r ≡ cond (nat_lt (position_or_len is_line_feed text) (length text)) (Some (position_or_len is_line_feed text)) None

found_at : (text : List ℕ) (r : Option ℕ) (n : ℕ) → Answer text r → r ≡ Some n → (n ≡ position_or_len is_line_feed text) × (position_or_len is_line_feed text < length text)
found_at text r n h is =
    elim (cases_Bool (nat_lt (position_or_len is_line_feed text) (length text))) [
      | inl at ↦ let e : r ≡ Some (position_or_len is_line_feed text) = rw at at h in (cc, ltb-true _ _ at)
      | inr none ↦ let e : r ≡ None = rw none at h in absurd cc
    ]

found_none : (text : List ℕ) (r : Option ℕ) → Answer text r → r ≡ None → length text ≤ position_or_len is_line_feed text
found_none text r h is =
    elim (cases_Bool (nat_lt (position_or_len is_line_feed text) (length text))) [
      | inl at ↦ let e : r ≡ Some (position_or_len is_line_feed text) = rw at at h in absurd cc
      | inr none ↦ ltb-false _ _ none
    ]

pub line_found : (text : List ℕ) (r : Option ℕ) (n : ℕ) → Answer text r → r ≡ Some n → lines_of text ≡ take n text ∷ lines_of (take (length text - (n + 1)) (drop (n + 1) text))
line_found text r n h is =
    let found = found_at text r n h is in
    let rest = take_all (length text - (n + 1)) (drop (n + 1) text) (omega (arith, length-drop (n + 1) text)) in
    lines_cut text found.1 ∙ ap (λ k. take k text ∷ lines_of (drop (k + 1) text)) (sym found.0) ∙ ap (λ l. take n text ∷ lines_of l) (sym rest)

pub last_line : (text : List ℕ) (r : Option ℕ) → Answer text r → r ≡ None → 0 < length text → lines_of text ≡ text ∷ lines_of []
last_line text r h is some =
    one_line text some (found_none text r h is) ∙ ap (λ l. text ∷ l) (sym no_line)
