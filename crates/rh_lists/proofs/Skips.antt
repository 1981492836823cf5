-- What a reader gives that passes the first lines by.
use Rattle.std.proofs.Common.{◌≡◌, ◌≤◌, ◌<◌, ◌⊎◌, ℕ, ◌+◌, ◌-◌, zero, suc, Bool, true, false, List, [], ◌++◌, length, take, drop, Option, Some, None, option_map, Result, Ok, Err, refl, sym, ap, subst, ◌∙◌, arith, append-nil}
use Rattle.std.proofs.Math.Seq.{take-append-add}
use Rattle.std.proofs.lemmas.List.{append_assoc, drop-drop, drop-take, drop_all, length-append, length-take, length-take-le, take-append-drop, take-append-le, take-take, take_at}
use borrow.Rule.Slice.PartMut.{put_mid}
use Rattle.std.specs.Io.KnownBytes.{Consumes, IsAtEnd, Keeps, ReadConsumes}
use Rattle.rh_key_files.specs.declared.fault.KeyFault.{KeyFault}
use Rattle.rh_key_files.specs.Reading.{version_at}
use Rattle.rh_lists.specs.Blanks.{blanked, blanked_text, skipping}
use Rattle.rh_lists.specs.Skipping.{given_with}
use Rattle.rh_lists.proofs.Told.{few_bytes}

-- ---- the first bytes are read

held_more : (h n k : ℕ) (front buf : List ℕ) → h ≤ length front → n ≤ length buf → take (h + n) (put_mid h k front buf) ≡ take h front ++ take n buf
held_more h n k front buf within few =
    ap (λ m. take (m + n) (put_mid h k front buf)) (sym (length-take-le h front within))
    ∙ take-append-add (take h front) (buf ++ drop k (drop h front)) n
    ∙ ap (λ l. take h front ++ l) (take-append-le n buf (drop k (drop h front)) few)

holds_more : (lines : ℕ) (held part : List ℕ) (old new : Option (List ℕ)) → Consumes old new part
    → Keeps (option_map (given_with false held lines) old) (option_map (given_with false (held ++ part) lines) new)
holds_more lines held part None new takes = tt
holds_more lines held part (Some xs) None takes = absurd takes
holds_more lines held part (Some xs) (Some ys) takes = ap (skipping lines) (append_assoc held part ys ∙ sym (ap (λ l. held ++ l) takes))

-- so many bytes more are held
pub fills : (known : Bool) (given h n k lines : ℕ) (front buf : List ℕ) (old new : Option (List ℕ)) → known ≡ false → given ≡ 0 → h ≤ length front → n ≤ length buf → Consumes old new (take n buf)
    → Keeps (option_map (given_with known (drop given (take h front)) lines) old) (option_map (given_with known (drop given (take (h + n) (put_mid h k front buf))) lines) new)
fills known given h n k lines front buf old new unknown none within few takes =
    rw (unknown, none, held_more h n k front buf within few) (holds_more lines (take h front) (take n buf) old new takes)

-- ---- what the list is

pub few_passed : (lines : ℕ) (held rest : List ℕ) → length held < 4 → rest ≡ [] → blanked lines (held ++ rest) ≡ skipping lines (held ++ rest)
few_passed lines held rest few none =
    let all : held ++ rest ≡ held = ap (λ l. held ++ l) none ∙ append-nil held in
    sym (ap (blanked_text lines (held ++ rest)) (few_bytes (held ++ rest) (omega (arith, ap length all, few))))

pub text_passed : (lines : ℕ) (front rest : List ℕ) (fault : KeyFault) → version_at (front ++ rest) ≡ Err fault → blanked lines (front ++ rest) ≡ skipping lines (front ++ rest)
text_passed lines front rest fault is = sym (ap (blanked_text lines (front ++ rest)) is)

module _ (h lines passed left : ℕ) (front blank : List ℕ) (same : (bytes : List ℕ) → (h ≡ 4) ⊎ (bytes ≡ []) → blanked passed (take h front ++ bytes) ≡ skipping lines (take h front ++ bytes))
    (made : (bytes : List ℕ) → blanked passed (take h front ++ bytes) ≡ blank ++ blanked left bytes) where
  made_blank : (rest : Option (List ℕ)) → (h ≡ 4) ⊎ IsAtEnd rest → option_map (given_with true blank left) rest ≡ option_map (given_with false (take h front) lines) rest
  made_blank None full = refl
  made_blank (Some bytes) full = ap Some (sym (made bytes) ∙ same bytes full)

  -- The first bytes are made blank, and the others will be: what is left is the same.
  pub settles : (known : Bool) (given : ℕ) (front' : List ℕ) (rest : Option (List ℕ)) → known ≡ false → given ≡ 0 → take h front' ≡ blank → (h ≡ 4) ⊎ IsAtEnd rest
      → option_map (given_with true (drop given (take h front')) left) rest ≡ option_map (given_with known (drop given (take h front)) lines) rest
  settles known given front' rest unknown none is full = rw (unknown, none, is) (made_blank rest full)

-- ---- reading on

end_given : (lines : ℕ) (new : Option (List ℕ)) → IsAtEnd new → IsAtEnd (option_map (given_with true [] lines) new)
end_given lines None end = tt
end_given lines (Some bytes) end = ap (blanked lines) end ∙ none lines
  where
    none : (lines : ℕ) → blanked lines [] ≡ []
    none zero = refl
    none (suc lines) = refl

taken_blank : (lines left : ℕ) (part blank : List ℕ) (old new : Option (List ℕ)) → Consumes old new part
    → ((bytes : List ℕ) → blanked lines (part ++ bytes) ≡ blank ++ blanked left bytes)
    → Consumes (option_map (given_with true [] lines) old) (option_map (given_with true [] left) new) blank
taken_blank lines left part blank None new takes same = tt
taken_blank lines left part blank (Some xs) None takes same = absurd takes
taken_blank lines left part blank (Some xs) (Some ys) takes same = ap (blanked lines) takes ∙ same ys

-- Behind the first bytes lines are made blank as they are read.
pub reads_on : {E : Type 0} (known : Bool) (given h count lines left : ℕ) (front buf blank behind : List ℕ) (old new : Option (List ℕ)) (r : Result ℕ E) → known ≡ true → given ≡ h → r ≡ Ok count → length blank ≡ count
    → ReadConsumes old new r buf → length buf ≡ count + length behind
    → ((bytes : List ℕ) → blanked lines (take count buf ++ bytes) ≡ blank ++ blanked left bytes)
    → ReadConsumes (option_map (given_with known (drop given (take h front)) lines) old) (option_map (given_with known (drop given (take h front)) left) new) r (blank ++ behind)
reads_on {E = E} known given h count lines left front buf blank behind old new r is_known all is long reads room same =
    let ok : Result ℕ E = Ok count in
    let read : ReadConsumes old new ok buf = subst (λ s. ReadConsumes old new s buf) is reads in
    let none : drop given (take h front) ≡ [] = ap (λ k. drop k (take h front)) all ∙ drop_all h (take h front) (omega (arith, length-take h front)) in
    rw (is_known, none, is) (
      subst (Consumes (option_map (given_with true [] lines) old) (option_map (given_with true [] left) new)) (sym (take_at blank behind count long)) (taken_blank lines left (take count buf) blank old new read.0 same),
      λ no some. end_given left new (read.1 no (omega (arith, room, length-append blank behind, long, some))),
    )

-- ---- the first bytes are given

-- The first of the bytes that are held are given.
pub gives_held : (known : Bool) (lines : ℕ) (held given others : List ℕ) (rest : Option (List ℕ)) → known ≡ true → held ≡ given ++ others
    → Consumes (option_map (given_with known held lines) rest) (option_map (given_with known others lines) rest) given
gives_held known lines held given others None is_known is = tt
gives_held known lines held given others (Some bytes) is_known is = rw is_known (ap (λ l. l ++ blanked lines bytes) is ∙ append_assoc given others (blanked lines bytes))

-- the bytes that are held, cut behind so many more
pub cut_held : (given count h : ℕ) (front : List ℕ) → given + count ≤ h → drop given (take h front) ≡ take count (drop given front) ++ drop (given + count) (take h front)
cut_held given count h front within =
    sym (take-append-drop count (drop given (take h front)))
    ∙ ap (λ l. l ++ drop count (drop given (take h front))) first
    ∙ ap (λ l. take count (drop given front) ++ l) (drop-drop count given (take h front))
  where
    cut : drop given (take h front) ≡ take (h - given) (drop given front)
    cut = let whole : h ≡ given + (h - given) = omega arith in ap (λ k. drop given (take k front)) whole ∙ drop-take given (h - given) front

    first : take count (drop given (take h front)) ≡ take count (drop given front)
    first = ap (take count) cut ∙ take-take count (h - given) (drop given front) (omega arith)
