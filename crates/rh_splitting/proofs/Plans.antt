-- The lines of a plan, one after another.
use Rattle.std.proofs.Common.{◌≡◌, ℕ, zero, suc, ◌+◌, List, [], ◌∷◌, ◌++◌, take, drop, Option, Some, refl, sym, ap, subst, ◌∙◌, arith, append_assoc, append-nil}
use Rattle.std.specs.Prelude.{slice_get}
use Rattle.rh_bytes.specs.Counting.{Emitted, EmittedFront}
use Rattle.rh_bytes.specs.declared.counted.Counted.{Counted}
use Rattle.rh_bytes.proofs.Writing.{emitted_both, emitting_stops}
use Rattle.rh_splitting.specs.declared.part.Part.{Part}
use Rattle.rh_splitting.specs.Parts.{part_count}
use Rattle.rh_splitting.specs.Plan.{keys_given, part_line, part_lines}

same_some : {X : Type 0} (x y : X) → Some x ≡ Some y → x ≡ y
same_some x y h = cc

first_line : {W : Type 0} (from : ℕ) (p part : Part W) → p ≡ part → part_line from (part_count p) ≡ part_line (from + 0) (part_count part)
first_line from p part is =
    let here : from ≡ from + 0 = omega arith in
    ap (λ n. part_line n (part_count p)) here ∙ ap (λ q. part_line (from + 0) (part_count q)) is

one_more_line : {W : Type 0} (from : ℕ) (parts : List (Part W)) (i : ℕ) (part : Part W) → slice_get parts i ≡ Some part → part_lines from (take (suc i) parts) ≡ part_lines from (take i parts) ++ part_line (from + i) (part_count part)
one_more_line from [] i part is = absurd cc
one_more_line from (p ∷ parts) zero part is = append-nil (part_line from (part_count p)) ∙ first_line from p part (same_some p part is)
one_more_line from (p ∷ parts) (suc i) part is =
    let next : from + 1 + i ≡ from + suc i = omega arith in
    ap (λ l. part_line from (part_count p) ++ l) (one_more_line (from + 1) parts i part is ∙ ap (λ n. part_lines (from + 1) (take i parts) ++ part_line n (part_count part)) next)
    ∙ sym (append_assoc (part_line from (part_count p)) (part_lines (from + 1) (take i parts)) (part_line (from + suc i) (part_count part)))

lines_in_two : {W : Type 0} (from : ℕ) (parts : List (Part W)) (i : ℕ) → part_lines from parts ≡ part_lines from (take i parts) ++ part_lines (from + i) (drop i parts)
lines_in_two from parts zero =
    let here : from ≡ from + 0 = omega arith in
    ap (λ n. part_lines n parts) here
lines_in_two from [] (suc i) = refl
lines_in_two from (p ∷ parts) (suc i) =
    let next : from + 1 + i ≡ from + suc i = omega arith in
    ap (λ l. part_line from (part_count p) ++ l) (lines_in_two (from + 1) parts i ∙ ap (λ n. part_lines (from + 1) (take i parts) ++ part_lines n (drop i parts)) next)
    ∙ sym (append_assoc (part_line from (part_count p)) (part_lines (from + 1) (take i parts)) (part_lines (from + suc i) (drop i parts)))

more_from_first : {W : Type 0} (parts : List (Part W)) (i : ℕ) (part : Part W) → slice_get parts i ≡ Some part → part_lines 0 (take (suc i) parts) ≡ part_lines 0 (take i parts) ++ part_line i (part_count part)
more_from_first parts i part is =
    let here : 0 + i ≡ i = omega arith in
    one_more_line 0 parts i part is ∙ ap (λ n. part_lines 0 (take i parts) ++ part_line n (part_count part)) here

pub line_goes_on : {W : Type 0} {V : Type 0} {contents : V → Option (List ℕ)} (a b c : Counted V) (parts : List (Part W)) (i : ℕ) (part : Part W) → slice_get parts i ≡ Some part → Emitted contents a b (part_lines 0 (take i parts)) → Emitted contents b c (part_line i (part_count part))
    → Emitted contents a c (part_lines 0 (take (i + 1) parts))
line_goes_on {contents = contents} a b c parts i part is before line =
    let next : suc i ≡ i + 1 = omega arith in
    subst (λ n. Emitted contents a c (part_lines 0 (take n parts))) next
    (subst (Emitted contents a c) (sym (more_from_first parts i part is)) (emitted_both a b c (part_lines 0 (take i parts)) (part_line i (part_count part)) before line))

pub line_stops : {W : Type 0} {V : Type 0} {contents : V → Option (List ℕ)} (a b c : Counted V) (parts : List (Part W)) (i : ℕ) (part : Part W) → slice_get parts i ≡ Some part → Emitted contents a b (part_lines 0 (take i parts)) → EmittedFront contents b c (part_line i (part_count part))
    → EmittedFront contents a c (part_lines 0 parts)
line_stops a b c parts i part is before line =
    let here : 0 + suc i ≡ suc i = omega arith in
    emitting_stops a b c (part_lines 0 (take i parts)) (part_line i (part_count part)) (part_lines (suc i) (drop (suc i) parts)) (part_lines 0 parts)
    (lines_in_two 0 parts (suc i) ∙ ap (λ n. part_lines 0 (take (suc i) parts) ++ part_lines n (drop (suc i) parts)) here
    ∙ ap (λ l. l ++ part_lines (suc i) (drop (suc i) parts)) (more_from_first parts i part is)) before line

-- ---- the keys of all parts

one_part_more : {W : Type 0} (parts : List (Part W)) (i : ℕ) (part : Part W) → slice_get parts i ≡ Some part → keys_given (take (suc i) parts) ≡ keys_given (take i parts) + part_count part
one_part_more [] i part is = absurd cc
one_part_more (p ∷ parts) zero part is =
    let same : part_count p ≡ part_count part = ap part_count (same_some p part is) in
    omega (arith, same)
one_part_more (p ∷ parts) (suc i) part is =
    let others = one_part_more parts i part is in
    omega (arith, others)

pub part_counted : {W : Type 0} (parts : List (Part W)) (i : ℕ) (part : Part W) (before count : ℕ) → slice_get parts i ≡ Some part → before ≡ keys_given (take i parts) → count ≡ part_count part → before + count ≡ keys_given (take (i + 1) parts)
part_counted parts i part before count is so_far one =
    let more = one_part_more parts i part is in
    let next : suc i ≡ i + 1 = omega arith in
    subst (λ n. before + count ≡ keys_given (take n parts)) next (omega (arith, more, so_far, one))
