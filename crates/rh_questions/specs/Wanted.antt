-- What is asked of lists, in one type.
use Rattle.std.specs.Prelude.{ℕ, ◌≤◌, List}
use Rattle.rh_combine.specs.Combine.{answer}
use Rattle.rh_questions.specs.Selections.{selected}
use Rattle.rh_questions.specs.declared.limits.TheConstants.{MOST_LISTS}
use Rattle.rh_questions.specs.declared.wanted.Wanted.{Wanted}
use Rattle.rh_questions.specs.declared.wanted.Wanted.TheVariants.{Made, Selected}

-- the numbers of the lists that are asked for
abbrev pub wanted : Wanted → List (List ℕ) → List ℕ
wanted (Made how) lists = answer how lists
wanted (Selected selection) lists = selected selection lists

-- it can be asked of so many lists
abbrev pub Takes : Wanted → (lists : ℕ) → Type 0
Takes (Made how) lists = Unit {0}
Takes (Selected selection) lists = lists ≤ MOST_LISTS
