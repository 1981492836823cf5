-- What is true of a number, by the lists in which it stands.
use Rattle.std.specs.Prelude.{ℕ, Bool, false, not, ◌&&◌, ◌||◌, ◌==◌, List, get_or}
use Rattle.rh_combine.specs.declared.how.How.{How}
use Rattle.rh_combine.specs.declared.how.How.TheVariants.{Intersect, Union, Subtract, Xor}
use Rattle.rh_expressions.specs.declared.expression.Expression.{Expression}
use Rattle.rh_expressions.specs.declared.expression.Expression.TheVariants.{List as InList, Joined'}

-- an expression, wherever it lies in memory
pub data Formula : Type 0 where
  list : (index : ℕ) → Formula
  join : (how : How) → (first second : Formula) → Formula

abbrev pub formula_of : Expression → Formula
formula_of (InList i) = list i
formula_of (Joined' how p a q b) = join how (formula_of a) (formula_of b)

-- both; one or another; the first and not the second; one and not the other
abbrev pub joined : How → Bool → Bool → Bool
joined Intersect a b = a && b
joined Union a b = a || b
joined Subtract a b = a && not b
joined Xor a b = (a && not b) || (b && not a)

-- what it is of a number with this row, which says for each list whether the number stands there
abbrev pub is_true : Formula → List Bool → Bool
is_true (list i) row = get_or row i false
is_true (join how a b) row = joined how (is_true a row) (is_true b row)

-- the list of this index stands in it
abbrev pub names_list : Formula → ℕ → Bool
names_list (list i) index = i == index
names_list (join how a b) index = names_list a index || names_list b index
