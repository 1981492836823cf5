-- A line that is looked for in one part of a text after the other.
use Rattle.std.proofs.Common.{◌≡◌, ℕ, ◌+◌, ◌*◌, ◌-◌, ◌<◌, ◌≤◌, ◌⊎◌, List, [], ◌∷◌, ◌++◌, length, take, Option, Some, None, inl, inr, refl, sym, ap, ◌∙◌, arith, append-nil, length-append}
use Rattle.std.specs.Prelude.{◌&&◌, IfSome, nat_eq, option_map}
use Rattle.std.specs.Io.KnownBytes.{Consumes, IsAtEnd}
use Rattle.std.proofs.lemmas.Bool.{cases_Bool, cases_lt, ne_eqb}
use Rattle.std.proofs.lemmas.List.{length-take}
use Rattle.rh_numbers.specs.declared.excerpt.Excerpt.{Excerpt}
use Rattle.rh_numbers.specs.declared.excerpt.TheConstants.{HELD_BYTES}
use Rattle.rh_numbers.specs.declared.limits.TheConstants.{MAX_BYTES, PART_BYTES}
use Rattle.rh_numbers.specs.declared.search.Search.{Search}
use Rattle.rh_numbers.specs.Excerpt.{LacksLine, ShowsLine, held_by, line_of, without_return}
use Rattle.rh_numbers.specs.Grammar.{without_mark}
use Rattle.rh_numbers.specs.Search.{found_by, found_in, lines_left}
use Rattle.rh_numbers.proofs.Excerpts.{first_bytes, same_shown}

-- ---- the byte order mark stands in the first part

-- a part that is long enough for a mark, or behind which nothing comes
abbrev pub HasMark : (part rest : List ℕ) → Type 0
HasMark part rest = (3 ≤ length part) ⊎ (rest ≡ [])

pub mark_in_front : (part rest : List ℕ) → HasMark part rest → without_mark (part ++ rest) ≡ without_mark part ++ rest
mark_in_front part rest (inr end) = ap (λ l. without_mark (part ++ l)) end ∙ ap without_mark (append-nil part) ∙ sym (ap (λ l. without_mark part ++ l) end ∙ append-nil (without_mark part))
mark_in_front [] rest (inl long) = absurd (omega (arith, long))
mark_in_front (a ∷ []) rest (inl long) = absurd (omega (arith, long))
mark_in_front (a ∷ b ∷ []) rest (inl long) = absurd (omega (arith, long))
mark_in_front (a ∷ b ∷ c ∷ part) rest (inl long) =
    elim (cases_Bool (nat_eq a 239 && (nat_eq b 187 && nat_eq c 191))) [
      | inl t ↦ rw t refl
      | inr f ↦ rw f refl
    ]

left_in_front : (at : ℕ) (part rest : List ℕ) → HasMark part rest → lines_left at (part ++ rest) ≡ lines_left at part ++ rest
left_in_front at part rest long =
    elim (cases_Bool (nat_eq at 0)) [
      | inl t ↦ rw t (mark_in_front part rest long)
      | inr f ↦ rw f refl
    ]

-- ---- one part after the other

-- what is looked for
abbrev wanted : (number : ℕ) → List ℕ → Option (List ℕ)
wanted number bytes = found_in (number - 1) [] (without_mark bytes)

-- Where the bytes are known, the line is that which is found in the rest of them, of which so many parts were read.
abbrev pub LooksOn : (number at : ℕ) (start now : Option (List ℕ)) → Search → Type 0
LooksOn number at None now search = Unit {0}
LooksOn number at (Some bytes) None search = ⊥
LooksOn number at (Some bytes) (Some rest) search = (wanted number bytes ≡ found_by search (lines_left at rest)) × (length bytes ≡ PART_BYTES * at + length rest)

-- It is what comes of the rest by this.
abbrev pub Comes : (number : ℕ) (start now : Option (List ℕ)) → (List ℕ → Option (List ℕ)) → Type 0
Comes number None now by = Unit {0}
Comes number (Some bytes) None by = ⊥
Comes number (Some bytes) (Some rest) by = wanted number bytes ≡ by rest

pub looks_first : (number : ℕ) (start : Option (List ℕ)) (search : Search) → search.feeds ≡ number - 1 → held_by search.line ≡ [] → LooksOn number 0 start start search
looks_first number None search feeds held = tt
looks_first number (Some bytes) search feeds held = (sym (λ i. found_in (feeds i) (held i) (without_mark bytes)), omega arith)

-- a part that is whole, or the last one
abbrev pub IsWhole : (part : List ℕ) → Option (List ℕ) → Type 0
IsWhole part now = (3 ≤ length part) ⊎ IsAtEnd now

pub whole_or_last : (buffer : List ℕ) (count : ℕ) (now : Option (List ℕ)) → length buffer ≡ PART_BYTES → (count < length buffer → IsAtEnd now) → IsWhole (take count buffer) now
whole_or_last buffer count now size end =
    elim (cases_lt count PART_BYTES) [
      | inl short ↦ inr (end (omega (arith, short, size)))
      | inr full ↦ inl (omega (arith, full, size, length-take count buffer))
    ]

module _ (number at : ℕ) (part lines : List ℕ) (old : Search) (by : List ℕ → Option (List ℕ)) (are : lines ≡ lines_left at part) (step : (rest : List ℕ) → found_by old (lines ++ rest) ≡ by rest) where
  pub part_looked : (start mid now : Option (List ℕ)) → LooksOn number at start mid old → Consumes mid now part → IsWhole part now → Comes number start now by
  part_looked None mid now looks taken whole = tt
  part_looked (Some bytes) None now looks taken whole = absurd looks
  part_looked (Some bytes) (Some xs) None looks taken whole = absurd taken
  part_looked (Some bytes) (Some xs) (Some ys) looks taken whole =
      looks.0 ∙ ap (λ l. found_by old (lines_left at l)) taken ∙ ap (found_by old) (left_in_front at part ys whole ∙ ap (λ l. l ++ ys) (sym are)) ∙ step ys

pub looks_on : (number at : ℕ) (part : List ℕ) (new : Search) (start mid now : Option (List ℕ)) (old : Search) → LooksOn number at start mid old → Consumes mid now part → length part ≡ PART_BYTES
    → Comes number start now (found_by new) → LooksOn number (at + 1) start now new
looks_on number at part new None mid now old looks taken long comes = tt
looks_on number at part new (Some bytes) None now old looks taken long comes = absurd looks
looks_on number at part new (Some bytes) (Some xs) None old looks taken long comes = absurd taken
looks_on number at part new (Some bytes) (Some xs) (Some ys) old looks taken long comes =
    (comes ∙ ap (found_by new) (sym (rw (ne_eqb (at + 1) 0 (λ is. omega (arith, is))) refl)), omega (arith, looks.1, ap length taken, length-append part ys, long))

-- ---- the line

the_line : (found : Option (List ℕ)) (held : List ℕ) → option_map (λ line. take HELD_BYTES ([] ++ line)) found ≡ Some held → (line : List ℕ) × (found ≡ Some line) × (held ≡ take HELD_BYTES line)
the_line None held h = absurd cc
the_line (Some line) held h = (line, refl, cc)

no_line : (found : Option (List ℕ)) → option_map (λ line. take HELD_BYTES ([] ++ line)) found ≡ None → found ≡ None
no_line None h = refl
no_line (Some line) h = absurd cc

module _ (number : ℕ) (held : List ℕ) (e : Excerpt) (is : held_by e ≡ without_return held) where
  shows : (bytes : List ℕ) → wanted number bytes ≡ Some held → ShowsLine number (Some bytes) e
  shows bytes h =
      let line = the_line (line_of number bytes) held h in
      (line.0, line.1, same_shown (held_by e) (without_return line.0) (ap (take 41) (is ∙ ap without_return line.2) ∙ first_bytes 40 line.0))

  pub found_shows : (start now : Option (List ℕ)) → Comes number start now (λ rest. Some held) → ShowsLine number start e
  found_shows None now comes = tt
  found_shows (Some bytes) None comes = absurd comes
  found_shows (Some bytes) (Some rest) comes = shows bytes comes

  pub end_shows : (start now : Option (List ℕ)) (search : Search) → Comes number start now (found_by search) → IsAtEnd now → found_by search [] ≡ Some held → ShowsLine number start e
  end_shows None now search comes end found = tt
  end_shows (Some bytes) None search comes end found = absurd comes
  end_shows (Some bytes) (Some rest) search comes end found = shows bytes (comes ∙ ap (found_by search) end ∙ found)

pub end_lacks : (number : ℕ) (start now : Option (List ℕ)) (search : Search) → Comes number start now (found_by search) → IsAtEnd now → found_by search [] ≡ None → LacksLine number start
end_lacks number None now search comes end none = tt
end_lacks number (Some bytes) None search comes end none = absurd comes
end_lacks number (Some bytes) (Some rest) search comes end none = inl (no_line (line_of number bytes) (comes ∙ ap (found_by search) end ∙ none))

pub long_lacks : (number at : ℕ) (start now : Option (List ℕ)) (search : Search) → LooksOn number at start now search → MAX_BYTES ≤ PART_BYTES * at → LacksLine number start
long_lacks number at None now search looks long = tt
long_lacks number at (Some bytes) None search looks long = absurd looks
long_lacks number at (Some bytes) (Some rest) search looks long = inr (omega (arith, looks.1, long))

pub end_answer : (number : ℕ) (start now : Option (List ℕ)) (search : Search) (r : Option Excerpt) → Comes number start now (found_by search) → IsAtEnd now
    → IfSome r (λ line. (held_by line ≡ without_return (held_by search.line)) × (found_by search [] ≡ Some (held_by search.line))) → IfSome r (ShowsLine number start)
end_answer number start now search None comes end found = tt
end_answer number start now search (Some e) comes end found = end_shows number (held_by search.line) e found.0 start now search comes end found.1
