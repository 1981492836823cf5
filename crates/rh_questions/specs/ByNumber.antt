-- Whether a number is wanted depends on no other number.
use Rattle.std.specs.Prelude.{◌≡◌, ℕ, Bool, true, false, cond, List, [], ◌∷◌, filter, map, ◌&&◌}
use Rattle.std.proofs.Common.{◌∙◌, ap, sym, refl}
use Rattle.std.proofs.lemmas.List.Kept.{IsStrictlyIncreasing-filter}
use Rattle.rh_combine.specs.Combine.{answer, has, meant}
use Rattle.rh_combine.specs.declared.how.How.{How}
use Rattle.rh_combine.specs.declared.how.How.TheVariants.{Union}
use Rattle.rh_combine.proofs.Meaning.{has-filter}
use Rattle.rh_combine.proofs.RangeLaws.{answer_of}
use Rattle.rh_combine.proofs.Rising.{rising_increase}
use Rattle.rh_combine_workers.specs.Questions.{IsByNumber}
use Rattle.rh_questions.specs.declared.selection.Selection.{Selection}
use Rattle.rh_questions.specs.Selections.{chosen, row_of, selected, wants}
use Rattle.rh_questions.specs.Wanted.{wanted}
use Rattle.rh_questions.specs.declared.wanted.Wanted.{Wanted}
use Rattle.rh_questions.specs.declared.wanted.Wanted.TheVariants.{Made, Selected}

-- ---- two tests, one after the other

module _ (p f g : ℕ → Bool) (alike : (x : ℕ) → p x ≡ true → f x ≡ g x) where
  taken : (x : ℕ) (l m : List ℕ) (a b : Bool) → p x ≡ a → g x ≡ b → filter f l ≡ filter p m → filter f (cond a (x ∷ l) l) ≡ filter p (cond b (x ∷ m) m)
  taken x l m true true px gx e =
      ap (λ t. cond t (x ∷ filter f l) (filter f l)) (alike x px ∙ gx) ∙ ap (λ l. x ∷ l) e
      ∙ sym (ap (λ t. cond t (x ∷ filter p m) (filter p m)) px)
  taken x l m true false px gx e = ap (λ t. cond t (x ∷ filter f l) (filter f l)) (alike x px ∙ gx) ∙ e
  taken x l m false true px gx e = e ∙ sym (ap (λ t. cond t (x ∷ filter p m) (filter p m)) px)
  taken x l m false false px gx e = e

  in_turn : (xs : List ℕ) → filter f (filter p xs) ≡ filter p (filter g xs)
  in_turn [] = refl
  in_turn (x ∷ xs) = taken x (filter p xs) (filter g xs) (p x) (g x) refl refl (in_turn xs)

-- ---- a row of the numbers that pass

and_true : (b : Bool) → (b && true) ≡ b
and_true true = refl
and_true false = refl

same_row : (p : ℕ → Bool) (k : ℕ) → p k ≡ true → (lists : List (List ℕ)) → row_of (map (filter p) lists) k ≡ row_of lists k
same_row p k kept [] = refl
same_row p k kept (keys ∷ others) =
    let here : has (filter p keys) k ≡ has keys k = has-filter p keys k ∙ ap (λ b. has keys k && b) kept ∙ and_true (has keys k) in
    (λ j. here j ∷ same_row p k kept others j)

-- ---- what is chosen by a test of rows

pub chosen_by_number : (test : List Bool → Bool) → IsByNumber (chosen test)
chosen_by_number test = record {
  of_part = λ p lists.
      let there : ℕ → Bool = λ k. test (row_of (map (filter p) lists) k) in
      let all : ℕ → Bool = λ k. test (row_of lists k) in
      ap (filter there) (answer_of p Union lists) ∙ in_turn p there all (λ k kept. ap test (same_row p k kept lists)) (answer Union lists);
  rises = λ lists. IsStrictlyIncreasing-filter (λ k. test (row_of lists k)) (answer Union lists) (rising_increase (meant Union lists));
}

pub selected_by_number : (selection : Selection) → IsByNumber (selected selection)
selected_by_number selection = chosen_by_number (wants selection)

pub made_by_number : (how : How) → IsByNumber (answer how)
made_by_number how = record {
  of_part = λ passes. answer_of passes how;
  rises = λ lists. rising_increase (meant how lists);
}

pub wanted_by_number : (question : Wanted) → IsByNumber (wanted question)
wanted_by_number (Made how) = made_by_number how
wanted_by_number (Selected selection) = selected_by_number selection
