-- Which numbers of lists are wanted, by the lists in which each stands.
use Rattle.std.specs.Prelude.{ℕ, ◌+◌, ◌*◌, nat_le, cond, Bool, false, List, [], ◌∷◌, filter, map, count_by}
use Rattle.std.specs.List.{fold}
use Rattle.rh_combine.specs.declared.how.How.{How}
use Rattle.rh_combine.specs.declared.how.How.TheVariants.{Union}
use Rattle.rh_combine.specs.Combine.{answer, has}
use Rattle.rh_expressions.specs.Formulas.{formula_of, is_true, joined}
use Rattle.rh_questions.specs.declared.selection.Selection.{Selection}
use Rattle.rh_questions.specs.declared.selection.Selection.TheVariants.{AtLeast, Where}

-- in which of the lists the number stands, list by list
abbrev pub row_of : List (List ℕ) → ℕ → List Bool
row_of lists k = map (λ keys. has keys k) lists

-- whether a number with this row is wanted
abbrev pub wants : Selection → List Bool → Bool
wants (AtLeast n) row = nat_le n (count_by (λ b. b) row)
wants (Where expression) row = is_true (formula_of expression) row

-- the numbers of the lists of whose row the test is true, in rising order
abbrev pub chosen : (List Bool → Bool) → List (List ℕ) → List ℕ
chosen test lists = filter (λ k. test (row_of lists k)) (answer Union lists)

-- the numbers of the lists that are wanted
abbrev pub selected : Selection → List (List ℕ) → List ℕ
selected selection lists = chosen (wants selection) lists

-- the first of the row, joined with one after the other
abbrev pub in_turn : How → List Bool → Bool
in_turn how [] = false
in_turn how (first ∷ others) = fold (joined how) first others

-- ---- combinations of lists

-- a row as a number in binary digits, the digit of the first list the lowest
abbrev pub code : List Bool → ℕ
code [] = 0
code (b ∷ row) = cond b 1 0 + 2 * code row
