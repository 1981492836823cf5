-- The head of a text: a byte order mark that may stand there, and a line that is none from its first bytes on.
use Rattle.std.proofs.Common.{◌≡◌, ◌≢◌, false, ℕ, ◌+◌, List, [], ◌∷◌, Some, inl, inr, refl, sym, ap, subst, ◌∙◌}
use Rattle.std.specs.Prelude.{nat_eq}
use Rattle.std.proofs.lemmas.Bool.{cases_Bool, eqb-false, eqb-true, ne_eqb}
use Rattle.rh_numbers.specs.declared.fault.TextFault.TheVariants.{NotAKey}
use Rattle.rh_numbers.specs.declared.line_so_far.LineSoFar.{LineSoFar}
use Rattle.rh_numbers.specs.declared.line_so_far.LineSoFar.TheVariants.{Head, MarkOne, MarkTwo, Start, Other}
use Rattle.rh_numbers.specs.Grammar.{without_mark}
use Rattle.rh_numbers.specs.Reading.{◌>>=◌, Said, lines_said, next, said_from, text_said, with_line}

abbrev not_a_key : (keys : List ℕ) (line : ℕ) → Said
not_a_key keys line = (keys, Some (NotAKey line))

-- nothing comes of a line that is none
pub other_stays : (keys : List ℕ) (line : ℕ) (bytes : List ℕ) → said_from keys line Other bytes ≡ not_a_key keys line
unfolding said_from
other_stays keys line [] = refl
other_stays keys line (b ∷ bytes) =
    elim (cases_Bool (nat_eq b 10)) [
      | inl t ↦ rw t refl
      | inr f ↦ rw f (other_stays keys line bytes)
    ]

-- nor of one that is none here, and behind the next byte
no_line : (keys : List ℕ) (line : ℕ) (so_far : LineSoFar) (b : ℕ) (bytes : List ℕ) → with_line keys line so_far ≡ not_a_key keys line → next so_far b ≡ Other
    → said_from keys line so_far (b ∷ bytes) ≡ not_a_key keys line
unfolding said_from
no_line keys line so_far b bytes none other =
    elim (cases_Bool (nat_eq b 10)) [
      | inl t ↦ rw t (ap (λ said. said >>= (λ more. said_from more (line + 1) Start bytes)) none)
      | inr f ↦ rw f (ap (λ s. said_from keys line s bytes) other ∙ other_stays keys line bytes)
    ]

-- a text that does not begin as the mark does
pub no_mark : (a : ℕ) (bytes : List ℕ) → a ≢ 239 → without_mark (a ∷ bytes) ≡ a ∷ bytes
no_mark a [] not = refl
no_mark a (b ∷ []) not = refl
no_mark a (b ∷ c ∷ bytes) not = rw (ne_eqb a 239 not) refl

-- ---- the head

-- the mark's third byte, behind the others
third : (keys : List ℕ) (line c : ℕ) (bytes : List ℕ) → said_from keys line MarkTwo (c ∷ bytes) ≡ said_from keys line Start (without_mark (239 ∷ 187 ∷ c ∷ bytes))
unfolding said_from
third keys line c bytes =
    elim (cases_Bool (nat_eq c 191)) [
      | inl t ↦ subst (λ c. said_from keys line MarkTwo (c ∷ bytes) ≡ said_from keys line Start (without_mark (239 ∷ 187 ∷ c ∷ bytes))) (sym (eqb-true c 191 t)) refl
      | inr f ↦ no_line keys line MarkTwo c bytes refl (rw f refl) ∙ rw f (sym (other_stays keys line (187 ∷ c ∷ bytes)))
    ]

-- its second one, behind the first
second : (keys : List ℕ) (line b : ℕ) (bytes : List ℕ) → said_from keys line MarkOne (b ∷ bytes) ≡ said_from keys line Start (without_mark (239 ∷ b ∷ bytes))
unfolding said_from
second keys line b [] =
    elim (cases_Bool (nat_eq b 187)) [
      | inl t ↦ subst (λ b. said_from keys line MarkOne (b ∷ []) ≡ said_from keys line Start (239 ∷ b ∷ [])) (sym (eqb-true b 187 t)) refl
      | inr f ↦ no_line keys line MarkOne b [] refl (rw f refl) ∙ sym (other_stays keys line (b ∷ []))
    ]
second keys line b (c ∷ bytes) =
    elim (cases_Bool (nat_eq b 187)) [
      | inl t ↦ subst (λ b. said_from keys line MarkOne (b ∷ c ∷ bytes) ≡ said_from keys line Start (without_mark (239 ∷ b ∷ c ∷ bytes))) (sym (eqb-true b 187 t)) (third keys line c bytes)
      | inr f ↦ no_line keys line MarkOne b (c ∷ bytes) refl (rw f refl) ∙ rw f (sym (other_stays keys line (b ∷ c ∷ bytes)))
    ]

first_one : (keys : List ℕ) (line : ℕ) (bytes : List ℕ) → said_from keys line Head (239 ∷ bytes) ≡ said_from keys line Start (without_mark (239 ∷ bytes))
unfolding said_from
first_one keys line [] = refl
first_one keys line (b ∷ bytes) = second keys line b bytes

no_first : (keys : List ℕ) (line a : ℕ) (bytes : List ℕ) → nat_eq a 239 ≡ false → said_from keys line Head (a ∷ bytes) ≡ said_from keys line Start (a ∷ bytes)
unfolding said_from
no_first keys line a bytes f = rw f refl

pub head_said : (keys : List ℕ) (line : ℕ) (text : List ℕ) → said_from keys line Head text ≡ said_from keys line Start (without_mark text)
unfolding said_from
head_said keys line [] = refl
head_said keys line (a ∷ bytes) =
    elim (cases_Bool (nat_eq a 239)) [
      | inl t ↦ subst (λ a. said_from keys line Head (a ∷ bytes) ≡ said_from keys line Start (without_mark (a ∷ bytes))) (sym (eqb-true a 239 t)) (first_one keys line bytes)
      | inr f ↦ no_first keys line a bytes f ∙ ap (said_from keys line Start) (sym (no_mark a bytes (eqb-false a 239 f)))
    ]

-- a byte order mark says nothing
pub mark_passed : (text : List ℕ) → text_said text ≡ lines_said (without_mark text)
mark_passed text = head_said [] 1 text
