-- What is read is a text of its keys.
use Rattle.std.proofs.Common.{◌≡◌, ◌≢◌, ℕ, ◌+◌, ◌≤◌, List, [], ◌∷◌, ◌++◌, length, Option, Some, None, Result, Ok, Err, inl, inr, refl, sym, ap, subst, ◌∙◌, arith, append_assoc, append-nil}
use Rattle.std.specs.Prelude.{All, IfOk, nat_eq, nat_lt}
use Rattle.std.specs.Str.Parse.{digits_value}
use Rattle.std.proofs.lemmas.Bool.{cases_Bool, eqb-true, eqb-false, ltb-false}
use Rattle.std.proofs.lemmas.List.Elements.{All-nil, All-cons, All-append}
use Rattle.rh_layout.specs.Key.{IsKey}
use Rattle.rh_layout.specs.declared.limits.TheConstants.{MAX_KEY, MAX_KEYS}
use Rattle.rh_numbers.specs.declared.fault.TextFault.{TextFault}
use Rattle.rh_numbers.specs.declared.fault.TextFault.TheVariants.{NotAKey, OutOfRange, TooMany}
use Rattle.rh_numbers.specs.declared.line_so_far.LineSoFar.{LineSoFar}
use Rattle.rh_numbers.specs.declared.line_so_far.LineSoFar.TheVariants.{Head, MarkOne, MarkTwo, Start, Blank, Comment, Number, After, Return, Other}
use Rattle.rh_numbers.specs.Grammar.{AreLines, IsKeyText, IsOneLine, IsReturn, IsText, Says, blank, comment, last, more, number, without_mark}
use Rattle.rh_numbers.specs.Reading.{◌>>=◌, IsTextReadFrom, ReadsText, Said, if_no_fault, limited, next, said_from, text_keys, text_said, with_key, with_line}
use Rattle.rh_numbers.proofs.Head.{mark_passed}
use Rattle.rh_numbers.proofs.SoFar.{Means, Numeral, capped, means_next, no_spaces}

-- what a line or a text gave: these keys, after those before
record Gave (Spells : List ℕ → Type 0) (keys all : List ℕ) : Type 0 where
  given : List ℕ
  spells : Spells given
  whole : all ≡ keys ++ given
  fit : All IsKey given

abbrev said_all : List ℕ → Said
said_all keys = (keys, None)

same_keys : (xs ys : List ℕ) → said_all xs ≡ said_all ys → xs ≡ ys
same_keys xs ys h = ap (λ s. s.0) h

nothing : (line keys all : List ℕ) → Says line [] → said_all keys ≡ said_all all → Gave (Says line) keys all
nothing line keys all says h =
    let same = same_keys keys all h in
    record { given = []; spells = says; whole = sym same ∙ sym (append-nil keys); fit = All-nil IsKey }

-- a fault is none
no_fault : (keys : List ℕ) (e : TextFault) (all : List ℕ) → (keys, Some e) ≡ said_all all → ⊥
no_fault keys e all h = let bad = ap (λ s. s.1) h in cc

-- a number that was taken is a key
taken : (keys : List ℕ) (line n : ℕ) (all : List ℕ) → with_key keys line n ≡ said_all all → (n ≤ MAX_KEY) × (all ≡ keys ++ (n ∷ []))
taken keys line n all h =
    elim (cases_Bool (nat_lt MAX_KEY n)) [
      | inl t ↦ absurd (no_fault keys (OutOfRange line) all (rw t at h))
      | inr f ↦ (ltb-false MAX_KEY n f, sym (same_keys _ all (rw f at h)))
    ]

-- the number that a line says, of any size
pub says_number : (n : ℕ) (line return : List ℕ) → Numeral n line → IsReturn return → (v : ℕ) × (n ≡ capped v) × Says (line ++ return) (v ∷ [])
says_number n line return m ends =
    let d = m.number in
    let front : (d.before ++ d.digits) ++ m.after ≡ line = ap (λ l. l ++ m.after) (sym d.spelled) ∙ sym m.spelled in
    (digits_value 10 d.digits, d.value, subst (λ l. Says (l ++ return) (digits_value 10 d.digits ∷ [])) front (number d.before d.digits m.after return d.spaces d.numeral m.spaces ends))

says_key : (n : ℕ) (line return : List ℕ) → Numeral n line → IsReturn return → n ≤ MAX_KEY → Says (line ++ return) (n ∷ [])
says_key n line return m ends small =
    let s = says_number n line return m ends in
    let value : s.0 ≡ n = omega (arith, s.1) in
    subst (λ v. Says (line ++ return) (v ∷ [])) value s.2

a_number : (keys : List ℕ) (at n : ℕ) (line all : List ℕ) → (n ≤ MAX_KEY → Says line (n ∷ [])) → with_key keys at n ≡ said_all all → Gave (Says line) keys all
a_number keys at n line all says h =
    let t = taken keys at n all h in
    record { given = n ∷ []; spells = says t.0; whole = t.1; fit = All-cons IsKey n [] t.0 (All-nil IsKey) }

ended : (keys : List ℕ) (at : ℕ) (so_far : LineSoFar) (line all : List ℕ) → Means so_far line → with_line keys at so_far ≡ said_all all → Gave (Says line) keys all
ended keys at Head line all told h = absurd told
ended keys at MarkOne line all told h = absurd told
ended keys at MarkTwo line all told h = absurd told
ended keys at Start line all told h = nothing line keys all (subst (λ l. Says l []) (sym told) (blank [] [] tt (inl refl))) h
ended keys at Blank line all told h = nothing line keys all (subst (λ l. Says l []) (append-nil line) (blank line [] told (inl refl))) h
ended keys at Comment line all told h = nothing line keys all (subst (λ l. Says l []) (sym told.1) (comment told.0)) h
ended keys at (Number n) line all told h = a_number keys at n line all (λ small. subst (λ l. Says l (n ∷ [])) (append-nil line) (says_key n line [] (no_spaces n line told) (inl refl) small)) h
ended keys at (After n) line all told h = a_number keys at n line all (λ small. subst (λ l. Says l (n ∷ [])) (append-nil line) (says_key n line [] told (inl refl) small)) h
ended keys at (Return None) line all told h = nothing line keys all (subst (λ l. Says l []) (sym told.1) (blank told.0 (13 ∷ []) told.2 (inr refl))) h
ended keys at (Return (Some n)) line all told h = a_number keys at n line all (λ small. subst (λ l. Says l (n ∷ [])) (sym told.1) (says_key n told.0 (13 ∷ []) told.2 (inr refl) small)) h
ended keys at Other line all told h = absurd (no_fault keys (NotAKey at) all h)

then_all : (said : Said) (f : List ℕ → Said) (all : List ℕ) → (said >>= f) ≡ said_all all → (keys : List ℕ) × (said ≡ said_all keys) × (f keys ≡ said_all all)
then_all (keys, None) f all h = (keys, refl, h)
then_all (keys, Some e) f all h = absurd (no_fault keys e all h)

one_line_push : (line : List ℕ) (b : ℕ) → IsOneLine line → b ≢ 10 → IsOneLine (line ++ (b ∷ []))
one_line_push [] b one not = (not, tt)
one_line_push (x ∷ line) b one not = (one.0, one_line_push line b one.1 not)

-- the lines from here on, with what stands before in the first one
lines_read : (keys : List ℕ) (at : ℕ) (so_far : LineSoFar) (line bytes all : List ℕ) → IsOneLine line → Means so_far line → said_from keys at so_far bytes ≡ said_all all
    → Gave (AreLines (line ++ bytes)) keys all
unfolding said_from
lines_read keys at so_far line [] all one told h =
    let g = ended keys at so_far line all told h in
    record { given = g.given; spells = subst (λ l. AreLines l g.given) (sym (append-nil line)) (last line g.given one g.spells); whole = g.whole; fit = g.fit }
lines_read keys at so_far line (b ∷ bytes) all one told h =
    elim (cases_Bool (nat_eq b 10)) [
      | inl t ↦
          let s = then_all (with_line keys at so_far) (λ later. said_from later (at + 1) Start bytes) all (rw t at h) in
          let g = ended keys at so_far line s.0 told s.1 in
          let k = lines_read s.0 (at + 1) Start [] bytes all tt refl s.2 in
          record {
            given = g.given ++ k.given;
            spells = subst (λ c. AreLines (line ++ (c ∷ bytes)) (g.given ++ k.given)) (sym (eqb-true b 10 t)) (more line g.given bytes k.given one g.spells k.spells);
            whole = k.whole ∙ ap (λ l. l ++ k.given) g.whole ∙ append_assoc keys g.given k.given;
            fit = All-append IsKey g.given k.given g.fit k.fit;
          }
      | inr f ↦
          let k = lines_read keys at (next so_far b) (line ++ (b ∷ [])) bytes all (one_line_push line b one (eqb-false b 10 f)) (means_next so_far line b told) (rw f at h) in
          record { given = k.given; spells = subst (λ l. AreLines l k.given) (append_assoc line (b ∷ []) bytes) k.spells; whole = k.whole; fit = k.fit }
    ]

pub any_text_read : (text keys : List ℕ) → text_said text ≡ (keys, None) → IsText text keys
any_text_read text keys h =
    let g = lines_read [] 1 Start [] (without_mark text) keys tt refl (sym (mark_passed text) ∙ h) in
    record { lines = subst (AreLines (without_mark text)) (sym g.whole) g.spells; in_range = subst (All IsKey) (sym g.whole) g.fit }

abbrev refused : TextFault → Result (List ℕ) TextFault
refused e = Err e

ok_keys : (xs ys : List ℕ) → if_no_fault xs None ≡ Ok ys → xs ≡ ys
ok_keys xs ys h = cc

-- of so many keys or fewer all were said, and no fault
within : (said : Said) (keys : List ℕ) → limited said ≡ Ok keys → (said ≡ said_all keys) × (length keys ≤ MAX_KEYS)
within said keys h =
    elim (cases_Bool (nat_lt MAX_KEYS (length said.0))) [
      | inl t ↦ absurd (too_many_is_no_text keys (rw t at h))
      | inr f ↦ none_told said keys (ltb-false MAX_KEYS (length said.0) f) (rw f at h)
    ]
  where
    too_many_is_no_text : (keys : List ℕ) → refused TooMany ≡ Ok keys → ⊥
    too_many_is_no_text keys h = cc

    none_told : (said : Said) (keys : List ℕ) → length said.0 ≤ MAX_KEYS → if_no_fault said.0 said.1 ≡ Ok keys → (said ≡ said_all keys) × (length keys ≤ MAX_KEYS)
    none_told (given, None) keys few h = let same = ok_keys given keys h in (ap said_all same, subst (λ l. length l ≤ MAX_KEYS) same few)
    none_told (given, Some e) keys few h = absurd (let bad = h in cc)

pub text_read : (text keys : List ℕ) → text_keys text ≡ Ok keys → IsKeyText text keys
text_read text keys h =
    let w = within (text_said text) keys h in
    let t = any_text_read text keys w.0 in
    record { lines = t.lines; few = w.1; in_range = t.in_range }

-- what a reader's known bytes were read to
pub read_from : {X : Type 0} (a b : Option (List ℕ)) (view : X → List ℕ) (r : Result X TextFault) → ReadsText a b view r → IfOk r (λ x. IsTextReadFrom a b (view x))
read_from None b view (Ok x) h = tt
read_from None b view (Err e) h = tt
read_from (Some bytes) b view (Err e) h = tt
read_from (Some bytes) None view (Ok x) h = absurd h
read_from (Some bytes) (Some rest) view (Ok x) h = (text_read bytes (view x) h.0, h.1)
