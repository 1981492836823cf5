-- What was written round after round.
use Rattle.std.proofs.Common.{◌≡◌, ◌∙◌, ap, sym, subst, ℕ, ◌+◌, ◌-◌, ◌^◌, ◌<◌, ◌≤◌, arith, List, [], ◌++◌, length, Option, None, Some, append-nil}
use Rattle.std.specs.Prelude.{min, slice_index}
use Rattle.std.specs.Io.KnownBytes.{Appends}
use Rattle.std.proofs.KnownBytes.{Appends-trans}
use Rattle.std.proofs.lemmas.List.{length-append}
use Rattle.rh_bytes.specs.Counting.{AppendsFront}
use Rattle.rh_bytes.proofs.Writing.{front_after, front_longer}
use Rattle.rh_combine.proofs.RangeLemmas.{within-none}
use Rattle.rh_combine.specs.declared.form.Form.{Form}
use Rattle.rh_cutting.specs.Borders.{AreBorders, between}
use Rattle.rh_combine_workers.specs.Questions.{IsByNumber}
use Rattle.rh_combine_workers.specs.Spelled.{spelled}
use Rattle.rh_cutting.proofs.BorderLemmas.{rise_to}
use Rattle.rh_combine_workers.proofs.QuestionLemmas.{of_two}
use Rattle.rh_combine_workers.proofs.SpelledLemmas.{spelled-append, spelled-none}

appends_nothing : (a : Option (List ℕ)) → Appends a a []
appends_nothing None = tt
appends_nothing (Some xs) = sym (append-nil xs)

pub nothing_written : (a : Option (List ℕ)) (text : List ℕ) → AppendsFront a a text
nothing_written a text = (0, appends_nothing a)

module _ (answer : List (List ℕ) → List ℕ) (by : IsByNumber answer) (form : Form) (borders : List ℕ) (are : AreBorders borders) (lists : List (List ℕ)) where
  abbrev of : (p q : ℕ) → List ℕ
  of p q = between borders p q (answer lists)

  pub nothing_spelled : (p : ℕ) → spelled form (of p p) ≡ []
  nothing_spelled p = ap (spelled form) (within-none (slice_index borders p) (answer lists)) ∙ spelled-none form

  pub none_yet : (a : Option (List ℕ)) (p : ℕ) → Appends a a (spelled form (of p p))
  none_yet a p = subst (Appends a a) (sym (nothing_spelled p)) (appends_nothing a)

  pub none_counted : (p : ℕ) → 0 ≡ min (length (of p p)) (2 ^ 64 - 1)
  none_counted p = omega (arith, ap length (within-none (slice_index borders p) (answer lists)))

  module _ (p q r : ℕ) (first : p ≤ q) (second : q ≤ r) (inside : r < length borders) where
    both : of p r ≡ of p q ++ of q r
    both = of_two answer by (slice_index borders p) (slice_index borders q) (slice_index borders r) (rise_to borders are p q first (omega (arith, second, inside))) (rise_to borders are q r second inside) lists

    pub both_spelled : spelled form (of p r) ≡ spelled form (of p q) ++ spelled form (of q r)
    both_spelled = ap (spelled form) both ∙ spelled-append form (of p q) (of q r)

    pub round_more : (a b c : Option (List ℕ)) → Appends a b (spelled form (of p q)) → Appends b c (spelled form (of q r)) → Appends a c (spelled form (of p r))
    round_more a b c before here = subst (Appends a c) (sym both_spelled) (Appends-trans a b c (spelled form (of p q)) (spelled form (of q r)) before here)

    pub count_more : (m n k : ℕ) → m ≡ min (length (of p q)) (2 ^ 64 - 1) → n ≡ min (length (of q r)) (2 ^ 64 - 1) → k ≡ min (m + n) (2 ^ 64 - 1) → k ≡ min (length (of p r)) (2 ^ 64 - 1)
    count_more m n k before here is = omega (arith, before, here, is, ap length both, length-append (of p q) (of q r))

    -- where a round fails, a front of all was written
    pub round_fails : (a b c : Option (List ℕ)) (end : ℕ) → r ≤ end → end < length borders → Appends a b (spelled form (of p q)) → AppendsFront b c (spelled form (of q r)) → AppendsFront a c (spelled form (of p end))
    round_fails a b c end later last before here =
        let rest : of p end ≡ of p r ++ of r end = of_two answer by (slice_index borders p) (slice_index borders r) (slice_index borders end) (rise_to borders are p r (omega (arith, first, second)) inside) (rise_to borders are r end later last) lists in
        let spelled_rest : spelled form (of p end) ≡ spelled form (of p r) ++ spelled form (of r end) = ap (spelled form) rest ∙ spelled-append form (of p r) (of r end) in
        subst (AppendsFront a c) (sym spelled_rest)
        (front_longer a c (spelled form (of p r)) (spelled form (of r end))
        (subst (AppendsFront a c) (sym both_spelled) (front_after a b c (spelled form (of p q)) (spelled form (of q r)) before here)))
