use Rattle.std.proofs.Common.{◌≡◌, ◌≤◌, ◌+◌, ◌-◌, ◌++◌, ℕ, List, length, drop}
use Rattle.std.specs.Prelude.{All}
use Rattle.rh_layout.specs.Key.{IsKey}
use Rattle.rh_numbers.specs.declared.line_so_far.LineSoFar.TheVariants.{Start}
use Rattle.rh_numbers.specs.Reading.{said_from}
use Rattle.rh_numbers.proofs.plain.take_plain_lines.Given as goal

abbrev pub invariant-loop-line : goal.invariant-loop-line
invariant-loop-line l = record {
  read : (at : ℕ) (more : List ℕ) → said_from l.fn.keys.items at Start (l.text ++ more) ≡ said_from l.keys.items (at + l.count) Start (drop l.passed l.text ++ more);
  in_range : All IsKey l.fn.keys.items → All IsKey l.keys.items;
  within : l.passed ≤ length l.text;
  few : l.count ≤ l.passed;
}

abbrev pub decreases-loop-line : goal.decreases-loop-line
decreases-loop-line l = length l.text - l.passed
