use Rattle.std.proofs.Common.{◌≡◌, ℕ, ◌-◌, ◌^◌, ◌≤◌, List, length}
use Rattle.std.specs.Prelude.{min}
use Rattle.std.specs.Io.KnownBytes.{Appends}
use Rattle.rh_bytes.specs.Counting.{failures_of, inner_of}
use Rattle.rh_cutting.specs.Borders.{between}
use Rattle.rh_cutting.specs.Cut.{AreLists}
use Rattle.rh_combine_workers.specs.Groups.{IsRound, group_edge, parts_of}
use Rattle.rh_combine_workers.specs.Spelled.{spelled}
use Rattle.rh_combine_workers.proofs.writing.write_rounds.Given as goal

abbrev pub invariant-loop-first : goal.invariant-loop-first
invariant-loop-first g l = record {
  inside : l.first ≤ l.parts;
  made : IsRound (g.Q.Question.answer l.question) l.form l.cut l.first (group_edge l.first l.team.workers.count l.size (parts_of l.cut)) l.done.items;
  written : (lists : List (List ℕ)) → AreLists l.cut lists → Appends (g.W.Write.contents (inner_of l.fn.writer)) (g.W.Write.contents (inner_of l.writer)) (spelled l.form (between l.cut.borders.values.items 0 l.first (g.Q.Question.answer l.question lists)));
  count : (lists : List (List ℕ)) → AreLists l.cut lists → l.count ≡ min (length (between l.cut.borders.values.items 0 l.first (g.Q.Question.answer l.question lists))) (2 ^ 64 - 1);
  fine : failures_of l.writer ≡ failures_of l.fn.writer;
}

abbrev pub decreases-loop-first : goal.decreases-loop-first
decreases-loop-first g l = l.parts - l.first
