use Rattle.std.proofs.Common.{◌∙◌, ap, count_ones, nat_le, sym}
use Rattle.rh_questions.specs.Selections.{wants}
use Rattle.rh_questions.proofs.CodeLemmas.{count_digits}
use Rattle.rh_questions.proofs.value.wants.Goals as goal

pub returns-in-AtLeast : goal.returns-in-AtLeast
returns-in-AtLeast c row is = ap (nat_le c.in-AtLeast.least) (ap count_ones is ∙ count_digits row) ∙ ap (λ s. wants s row) (sym c.in-AtLeast.is)
