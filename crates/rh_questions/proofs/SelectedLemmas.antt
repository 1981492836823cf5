-- Which numbers are wanted, and what is made of lists, by rows.
use Rattle.std.proofs.Common.{◌≡◌, ◌∙◌, ap, sym, refl, ℕ, Bool, true, false, List, [], ◌∷◌}
use Rattle.std.specs.Prelude.{◌&&◌}
use Rattle.std.specs.List.{fold, list_any}
use Rattle.std.specs.FinSet as set
use Rattle.std.specs.FinSet.{contains}
use Rattle.rh_edit.specs.Rising.{rising_keys}
use Rattle.rh_layout.specs.Layout.{Keys}
use Rattle.rh_combine.specs.declared.how.How.{How}
use Rattle.rh_combine.specs.declared.how.How.TheVariants.{Intersect, Union, Subtract, Xor}
use Rattle.rh_combine.specs.Combine.{answer, has, meant}
use Rattle.rh_combine.proofs.Meaning.{contains-meant, either, has-filter, has_some, held, holds, listed, same, stands_is}
use Rattle.rh_combine.proofs.Rising.{of_rising, rising_of_part}
use Rattle.rh_expressions.specs.Formulas.{joined}
use Rattle.rh_questions.specs.Selections.{chosen, in_turn, row_of}

pub chosen_has : (test : List Bool → Bool) (lists : List (List ℕ)) (k : ℕ) → has (chosen test lists) k ≡ (list_any (λ keys. has keys k) lists && test (row_of lists k))
chosen_has test lists k =
    has-filter (λ k. test (row_of lists k)) (answer Union lists) k
    ∙ ap (λ b. b && test (row_of lists k)) (sym (listed (answer Union lists) k) ∙ ap (λ (S : Keys). contains S k) (of_rising (meant Union lists)) ∙ stands_is k Union lists)

-- ---- what is made of lists

same_join : (how : How) (a b : Bool) → either how a b ≡ joined how a b
same_join Intersect a b = refl
same_join Union a b = refl
same_join Subtract a b = refl
same_join Xor a b = refl

held_row : (how : How) (k : ℕ) (b : Bool) (lists : List (List ℕ)) → held how k b lists ≡ fold (joined how) b (row_of lists k)
held_row how k b [] = refl
held_row how k b (keys ∷ others) = held_row how k (either how b (has keys k)) others ∙ ap (λ b. fold (joined how) b (row_of others k)) (same_join how b (has keys k))

meant_row : (how : How) (lists : List (List ℕ)) (k : ℕ) → contains (meant how lists) k ≡ in_turn how (row_of lists k)
meant_row how [] k = set.contains-empty _ k
meant_row how (first ∷ others) k = contains-meant how first others k ∙ held_row how k (has first k) others

and_of : (a b : Bool) → (b ≡ true → a ≡ true) → b ≡ (a && b)
and_of true b h = refl
and_of false true h = sym (h refl)
and_of false false h = refl

pub made_chosen : (how : How) (lists : List (List ℕ)) → answer how lists ≡ chosen (in_turn how) lists
made_chosen how lists =
    let t : ℕ → Bool = λ k. in_turn how (row_of lists k) in
    ap rising_keys
    (same (meant how lists) (set.retain (meant Union lists) t) (λ k.
    meant_row how lists k
    ∙ and_of (contains (meant Union lists) k) (t k) (λ e. stands_is k Union lists ∙ has_some k how lists (meant_row how lists k ∙ e))
    ∙ sym (holds t (meant Union lists) k)))
    ∙ rising_of_part t (meant Union lists)
