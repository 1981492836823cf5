use Rattle.std.proofs.Common.{◌≡◌, ◌≤◌, ◌<◌, ◌+◌, ◌++◌, ℕ, List, [], length}
use Rattle.std.specs.Prelude.{All}
use Rattle.rh_layout.specs.Key.{IsKey}
use Rattle.rh_numbers.specs.declared.line_so_far.LineSoFar.TheVariants.{Start}
use Rattle.rh_numbers.specs.Chunks.{last_of}
use Rattle.rh_numbers.specs.Reading.{said_from}
use Rattle.rh_numbers.proofs.chunk.read_chunk.Given as goal

abbrev pub invariant-loop-rest : goal.invariant-loop-rest
invariant-loop-rest l = record {
  read : (line : ℕ) (more : List ℕ) → said_from [] line l.fn.so_far (l.text ++ more) ≡ said_from l.keys.items (line + l.lines) l.so_far (l.rest ++ more);
  in_range : All IsKey l.keys.items;
  lines : l.lines + length l.rest ≤ length l.text;
  last : 0 < length l.rest → last_of l.rest ≡ last_of l.text;
  ended : length l.rest ≡ 0 → 0 < length l.text → l.so_far ≡ Start;
}

abbrev pub decreases-loop-rest : goal.decreases-loop-rest
decreases-loop-rest l = length l.rest
