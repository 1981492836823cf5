use Rattle.std.proofs.Common.{◌≡◌, ℕ, ◌-◌, ◌^◌, List, length}
use Rattle.std.specs.Prelude.{min}
use Rattle.rh_cutting.specs.Borders.{between}
use Rattle.rh_cutting.specs.Cut.{AreLists}
use Rattle.rh_combine_workers.specs.Spelled.{spelled}
use Rattle.rh_combine_workers.proofs.group.group_of.Given as goal

abbrev pub invariant-loop-part : goal.invariant-loop-part
invariant-loop-part g l = record {
  bytes : (lists : List (List ℕ)) → AreLists l.cut lists → l.bytes.items ≡ spelled l.form (between l.cut.borders.values.items l.from l.part (g.Q.Question.answer l.question lists));
  count : (lists : List (List ℕ)) → AreLists l.cut lists → l.count ≡ min (length (between l.cut.borders.values.items l.from l.part (g.Q.Question.answer l.question lists))) (2 ^ 64 - 1);
}
