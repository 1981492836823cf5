use Rattle.std.proofs.Common.{◌≡◌, map, string_bytes, take}
use Rattle.rh_bytes.specs.Counting.{failures_of, inner_of}
use Rattle.rh_cutting.specs.Pieces.{keys_in}
use Rattle.rh_lists.specs.Files.{GiveEach, seen}
use Rattle.rh_lists.proofs.paths.read_paths.Given as goal

abbrev pub invariant-loop-index : goal.invariant-loop-index
invariant-loop-index g l = record {
  given : GiveEach (seen l.skip (g.S.Lender.state l.fn.shelf)).files (take l.index (map string_bytes l.paths)) (g.I.Read.remaining (inner_of l.fn.input)) (g.I.Read.remaining (inner_of l.input)) (map keys_in l.lists.items);
  shelf_fine : seen l.skip (g.S.Lender.state l.shelf) ≡ seen l.skip (g.S.Lender.state l.fn.shelf);
  input_fine : failures_of l.input ≡ failures_of l.fn.input;
}
