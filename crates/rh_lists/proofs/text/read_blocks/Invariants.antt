use Rattle.std.proofs.Common.{◌≡◌, ◌≤◌, ◌<◌, ◌+◌, ◌*◌, ◌-◌, ◌++◌, ℕ, List, length}
use Rattle.rh_bytes.specs.Counting.{failures_of, inner_of}
use Rattle.rh_numbers.specs.declared.limits.TheConstants.{MAX_BYTES}
use Rattle.rh_numbers.specs.declared.line_so_far.LineSoFar.TheVariants.{Head}
use Rattle.rh_lists.specs.declared.limits.TheConstants.{BLOCK_BYTES}
use Rattle.rh_lists.specs.Parts.{IsReadTo}
use Rattle.rh_lists.proofs.Texts.{Going, Taken}
use Rattle.rh_lists.proofs.text.read_blocks.Given as goal

abbrev pub invariant-loop-passed : goal.invariant-loop-passed
invariant-loop-passed g l = record {
  going : (before : List ℕ) → IsReadTo Head before l.fn.begun → Going (before ++ l.fn.block.items) (g.R.Read.remaining (inner_of l.fn.reader)) (g.R.Read.remaining (inner_of l.reader)) l.text l.block.items;
  lines : l.text.lines + length l.block.items ≤ 2 * BLOCK_BYTES + l.passed;
  some : 0 < length l.block.items;
  size : length l.block.items ≤ BLOCK_BYTES;
  room : length l.next.items ≤ BLOCK_BYTES;
  taken : Taken (g.R.Read.remaining (inner_of l.fn.reader)) (g.R.Read.remaining (inner_of l.reader)) l.passed;
  fine : failures_of l.reader ≡ failures_of l.fn.reader;
}

abbrev pub decreases-loop-passed : goal.decreases-loop-passed
decreases-loop-passed g l = MAX_BYTES - l.passed
