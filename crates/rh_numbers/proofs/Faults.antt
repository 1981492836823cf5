-- The first faulty line gives the fault.
use Rattle.std.proofs.Common.{◌≡◌, ℕ, suc, ◌+◌, ◌<◌, ◌≤◌, List, [], ◌∷◌, ◌++◌, length, Some, None, Err, inl, inr, refl, sym, ap, subst, ◌∙◌, arith, append_assoc, append-nil, length-append}
use Rattle.std.specs.Prelude.{All}
use Rattle.std.proofs.lemmas.Bool.{le-ltb, lt-ltb}
use Rattle.rh_layout.specs.Key.{IsKey}
use Rattle.rh_layout.specs.declared.limits.TheConstants.{MAX_KEY, MAX_KEYS}
use Rattle.rh_numbers.specs.declared.fault.TextFault.{TextFault}
use Rattle.rh_numbers.specs.declared.fault.TextFault.TheVariants.{NotAKey, OutOfRange, TooMany}
use Rattle.rh_numbers.specs.declared.line_so_far.LineSoFar.{LineSoFar}
use Rattle.rh_numbers.specs.declared.line_so_far.LineSoFar.TheVariants.{Head, MarkOne, MarkTwo, Start, Blank, Comment, Number, After, Return, Other}
use Rattle.rh_numbers.specs.Grammar.{AreWholeLines, ComesTo, EndsLine, Says, blank, comment, none, number, one_more}
use Rattle.rh_numbers.specs.Reading.{◌>>=◌, lines_said, said_from, text_keys, text_said, with_key, with_line}
use Rattle.rh_numbers.proofs.Head.{mark_passed}
use Rattle.rh_numbers.proofs.SoFar.{Means, capped, means_after, no_spaces}
use Rattle.rh_numbers.proofs.Fronts.{Begins, begins, the_fault, too_many_said}
use Rattle.rh_numbers.proofs.Meaning.{says_number}
use Rattle.rh_numbers.proofs.Spelling.{All-parts, after, at_end, at_feed, line_said, number_at, walk}

-- whole lines, whatever comes after them
past_lines : (keys : List ℕ) (at : ℕ) (front numbers : List ℕ) (count : ℕ) (rest : List ℕ) → AreWholeLines front numbers count → All IsKey numbers
    → said_from keys at Start (front ++ rest) ≡ said_from (keys ++ numbers) (at + count) Start rest
past_lines keys at front numbers count rest none fit =
    let here : at + 0 ≡ at = omega arith in
    ap (λ k. said_from k at Start rest) (sym (append-nil keys)) ∙ ap (λ n. said_from (keys ++ []) n Start rest) (sym here)
past_lines keys at front numbers count rest (one_more line said text others before one says lines) fit =
    let fits = All-parts IsKey said others fit in
    let next_at : at + 1 + before ≡ at + suc before = omega arith in
    ap (said_from keys at Start) (append_assoc line (10 ∷ text) rest) ∙ walk keys at Start line (10 ∷ (text ++ rest)) one ∙ at_feed keys at (after Start line) (text ++ rest)
    ∙ ap (λ r. r >>= (λ later. said_from later (at + 1) Start (text ++ rest))) (line_said keys at line said says fits.0)
    ∙ past_lines (keys ++ said) (at + 1) text others before rest lines fits.1
    ∙ ap (λ k. said_from k (at + 1 + before) Start rest) (append_assoc keys said others) ∙ ap (λ n. said_from (keys ++ (said ++ others)) n Start rest) next_at

line_stops : (keys : List ℕ) (at : ℕ) (so_far : LineSoFar) (rest : List ℕ) (e : TextFault) → EndsLine rest → with_line keys at so_far ≡ (keys, Some e) → said_from keys at so_far rest ≡ (keys, Some e)
line_stops keys at so_far rest e (inl end) h = ap (said_from keys at so_far) end ∙ at_end keys at so_far ∙ h
line_stops keys at so_far rest e (inr feed) h = ap (said_from keys at so_far) feed.1 ∙ at_feed keys at so_far feed.0 ∙ ap (λ r. r >>= (λ later. said_from later (at + 1) Start feed.0)) h

comes_to_line : (text keys : List ℕ) (at : ℕ) (line : List ℕ) → (to : ComesTo text keys at line) → text_said text ≡ said_from keys at (after Start line) to.rest
comes_to_line text keys at line to =
    mark_passed text ∙ ap lines_said to.split ∙ past_lines [] 1 to.front keys to.before (line ++ to.rest) to.lines to.in_range
    ∙ ap (λ n. said_from keys n Start (line ++ to.rest)) (sym to.counted) ∙ walk keys at Start line to.rest to.one

text_stops : (text keys : List ℕ) (at : ℕ) (line : List ℕ) (e : TextFault) → ComesTo text keys at line → with_line keys at (after Start line) ≡ (keys, Some e) → text_said text ≡ (keys, Some e)
text_stops text keys at line e to h = comes_to_line text keys at line to ∙ line_stops keys at (after Start line) to.rest e to.ends h

-- a line that says nothing the grammar knows
no_key : (keys : List ℕ) (at : ℕ) (so_far : LineSoFar) (line : List ℕ) → Means so_far line → ((numbers : List ℕ) → Says line numbers → ⊥) → with_line keys at so_far ≡ (keys, Some (NotAKey at))
no_key keys at Head line told not = absurd told
no_key keys at MarkOne line told not = absurd told
no_key keys at MarkTwo line told not = absurd told
no_key keys at Start line told not = absurd (not [] (subst (λ l. Says l []) (sym told) (blank [] [] tt (inl refl))))
no_key keys at Blank line told not = absurd (not [] (subst (λ l. Says l []) (append-nil line) (blank line [] told (inl refl))))
no_key keys at Comment line told not = absurd (not [] (subst (λ l. Says l []) (sym told.1) (comment told.0)))
no_key keys at (Number n) line told not = let s = says_number n line [] (no_spaces n line told) (inl refl) in absurd (not (s.0 ∷ []) (subst (λ l. Says l (s.0 ∷ [])) (append-nil line) s.2))
no_key keys at (After n) line told not = let s = says_number n line [] told (inl refl) in absurd (not (s.0 ∷ []) (subst (λ l. Says l (s.0 ∷ [])) (append-nil line) s.2))
no_key keys at (Return None) line told not = absurd (not [] (subst (λ l. Says l []) (sym told.1) (blank told.0 (13 ∷ []) told.2 (inr refl))))
no_key keys at (Return (Some n)) line told not = let s = says_number n told.0 (13 ∷ []) told.2 (inr refl) in absurd (not (s.0 ∷ []) (subst (λ l. Says l (s.0 ∷ [])) (sym told.1) s.2))
no_key keys at Other line told not = refl

number_in : (keys : List ℕ) (at : ℕ) (line : List ℕ) (n : ℕ) → Says line (n ∷ []) → with_line keys at (after Start line) ≡ with_key keys at (capped n)
number_in keys at line n (number before digits spaces return are is after_are ends) = number_at keys at before digits spaces return are is after_are ends

pub not_a_key_said : (text keys : List ℕ) (at : ℕ) (line : List ℕ) → ComesTo text keys at line → ((numbers : List ℕ) → Says line numbers → ⊥) → text_said text ≡ (keys, Some (NotAKey at))
not_a_key_said text keys at line to not =
    text_stops text keys at line (NotAKey at) to (no_key keys at (after Start line) line (means_after Start [] line refl) not)

pub out_of_range_said : (text keys : List ℕ) (at : ℕ) (line : List ℕ) (n : ℕ) → ComesTo text keys at line → Says line (n ∷ []) → MAX_KEY < n → text_said text ≡ (keys, Some (OutOfRange at))
out_of_range_said text keys at line n to says large =
    text_stops text keys at line (OutOfRange at) to (number_in keys at line n says ∙ rw (lt-ltb MAX_KEY (capped n) (omega (arith, large))) refl)

pub not_a_key : (text keys : List ℕ) (at : ℕ) (line : List ℕ) → ComesTo text keys at line → length keys ≤ MAX_KEYS → ((numbers : List ℕ) → Says line numbers → ⊥) → text_keys text ≡ Err (NotAKey at)
not_a_key text keys at line to few not = the_fault (text_said text) keys (NotAKey at) (not_a_key_said text keys at line to not) few

pub out_of_range : (text keys : List ℕ) (at : ℕ) (line : List ℕ) (n : ℕ) → ComesTo text keys at line → length keys ≤ MAX_KEYS → Says line (n ∷ []) → MAX_KEY < n → text_keys text ≡ Err (OutOfRange at)
out_of_range text keys at line n to few says large = the_fault (text_said text) keys (OutOfRange at) (out_of_range_said text keys at line n to says large) few

-- a line that says a key, and what comes after it
line_goes_on : (keys : List ℕ) (at : ℕ) (so_far : LineSoFar) (rest more : List ℕ) → EndsLine rest → with_line keys at so_far ≡ (more, None) → Begins more (said_from keys at so_far rest)
line_goes_on keys at so_far rest more (inl end) h = subst (Begins more) (sym (ap (said_from keys at so_far) end ∙ at_end keys at so_far ∙ h)) ([], sym (append-nil more))
line_goes_on keys at so_far rest more (inr feed) h =
    subst (Begins more) (sym (ap (said_from keys at so_far) feed.1 ∙ at_feed keys at so_far feed.0 ∙ ap (λ r. r >>= (λ later. said_from later (at + 1) Start feed.0)) h))
    (begins more (at + 1) Start feed.0)

pub too_many : (text keys : List ℕ) (at : ℕ) (line : List ℕ) (n : ℕ) → ComesTo text keys at line → Says line (n ∷ []) → n ≤ MAX_KEY → length keys ≡ MAX_KEYS → text_keys text ≡ Err TooMany
too_many text keys at line n to says small many =
    let key : capped n ≡ n = omega (arith, small) in
    let is : with_line keys at (after Start line) ≡ (keys ++ (capped n ∷ []), None) = number_in keys at line n says ∙ rw (le-ltb MAX_KEY (capped n) (omega (arith, small))) refl in
    too_many_said (text_said text) (keys ++ (capped n ∷ []))
    (subst (Begins (keys ++ (capped n ∷ []))) (sym (comes_to_line text keys at line to)) (line_goes_on keys at (after Start line) to.rest (keys ++ (capped n ∷ [])) to.ends is))
    (omega (arith, many, length-append keys (capped n ∷ [])))
