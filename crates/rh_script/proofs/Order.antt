-- What the grammar reads is in order.
use Rattle.std.proofs.Common.{◌≡◌, ◌∙◌, ◌⊎◌, inl, inr, ap, sym, subst, ℕ, ◌+◌, List, [], ◌∷◌, ◌++◌, Option, Some, None, Result, Ok, Err, is_ok, true, false, refl}
use Rattle.std.proofs.lemmas.Bool.{or_parts}
use Rattle.rh_script.specs.declared.fault.ScriptFaultKind.{ScriptFaultKind}
use Rattle.rh_script.specs.Instruction.{Instruction, Numbered, Snapshot}
use Rattle.rh_lines.specs.Lines.{lines_of, without_return}
use Rattle.rh_script.specs.Names.{InOrder, admitted, files_in, is_given, snapshots_in}
use Rattle.rh_script.specs.Grammar.{after_line, entered, said_in, script_grammar, script_of, within_limits}
use Rattle.rh_lines.specs.Grammar.{after_lines, at_line}
use Rattle.rh_lines.proofs.Reading.{both}
use Rattle.rh_script.proofs.Naming.{may_stand_once}

-- ---- a step more

-- the first element, and the others
abbrev first_of : {X : Type 0} → X → List X → X
first_of x [] = x
first_of x (y ∷ ys) = y

abbrev rest_of : {X : Type 0} → List X → List X
rest_of [] = []
rest_of (y ∷ ys) = ys

-- where a list with one more is cut before an element, this is the last one or was there before
cut_before : {X : Type 0} (xs before after : List X) (last x : X) → xs ++ last ∷ [] ≡ before ++ x ∷ after
    → ((before ≡ xs) × (x ≡ last)) ⊎ ((rest : List X) × (xs ≡ before ++ x ∷ rest))
cut_before [] [] after last x is = inl (refl, sym (ap (first_of last) is))
cut_before [] (b ∷ []) after last x is = absurd cc
cut_before [] (b ∷ c ∷ before) after last x is = absurd cc
cut_before (y ∷ xs) [] after last x is = inr (xs, ap (λ z. z ∷ xs) (ap (first_of y) is))
cut_before (y ∷ xs) (b ∷ before) after last x is =
    elim (cut_before xs before after last x (ap rest_of is)) [
      | inl e ↦ inl (cc, e.1)
      | inr e ↦ inr (e.0, cc (e.1))
    ]

no_step : InOrder []
no_step [] after step is = absurd cc
no_step (b ∷ before) after step is = absurd cc

one_more_in_order : (steps : List Numbered) (last : Numbered) → InOrder steps → admitted steps last.instruction ≡ Ok tt → InOrder (steps ++ last ∷ [])
one_more_in_order steps last ordered ok before after step is =
    elim (cut_before steps before after last step is) [
      | inl e ↦
          ap (λ b. is_ok (admitted b step.instruction)) e.0
          ∙ ap (λ s. is_ok (admitted steps s.instruction)) e.1
          ∙ ap is_ok ok
      | inr e ↦ ordered before e.0 step e.1
    ]

at_line_ok : {A : Type 0} (number : ℕ) (r : Result A ScriptFaultKind) (x : A) → at_line script_grammar number r ≡ Ok x → r ≡ Ok x
at_line_ok number (Ok y) x h = cc
at_line_ok number (Err kind) x h = absurd cc

entered_in_order : (number : ℕ) (before more : List Numbered) (said : Option Instruction) → InOrder before → entered number before said ≡ Ok more → InOrder more
unfolding entered
entered_in_order number before more None ordered h =
    let same : before ≡ more = cc in subst InOrder same ordered
entered_in_order number before more (Some said) ordered h =
    let ok = both (admitted before said) _ more h in
    let same : before ++ record { line = number; instruction = said } ∷ [] ≡ more = cc (ok.2) in
    subst InOrder same (one_more_in_order before _ ordered ok.1)

line_in_order : (number : ℕ) (before more : List Numbered) (line : List ℕ) → InOrder before → after_line number before line ≡ Ok more → InOrder more
unfolding after_line
line_in_order number before more line ordered h =
    let fits = both (within_limits number line) _ more h in
    let says = both (said_in (without_return fits.0)) (entered number before) more fits.2 in
    entered_in_order number before more says.0 ordered says.2

lines_in_order : (number : ℕ) (before steps : List Numbered) (lines : List (List ℕ)) → InOrder before → after_lines script_grammar number before lines ≡ Ok steps → InOrder steps
unfolding after_lines
lines_in_order number before steps [] ordered h =
    let same : before ≡ steps = cc in subst InOrder same ordered
lines_in_order number before steps (line ∷ lines) ordered h =
    let first = both (at_line script_grammar number (after_line number before line)) _ steps h in
    lines_in_order (number + 1) first.0 steps lines (line_in_order number before first.0 line ordered (at_line_ok number _ first.0 first.1)) first.2

pub read_in_order : (text : List ℕ) (steps : List Numbered) → script_of text ≡ Ok steps → InOrder steps
read_in_order text steps h = lines_in_order 1 [] steps (lines_of text) no_step h

-- ---- what the order says of a step

-- a snapshot is put under a path that no earlier step reads keys from
pub snapshot_is_new : (before : List Numbered) (said : Instruction) (path : List ℕ) → is_ok (admitted before said) ≡ true → said ≡ Snapshot path → is_given path (files_in before) ≡ false
unfolding admitted
snapshot_is_new before said path ok is =
    (or_parts (is_given path (files_in before)) (is_given path (snapshots_in before))
    (may_stand_once _ (sym (ap (λ i. is_ok (admitted before i)) is) ∙ ok))).0
