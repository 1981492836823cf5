use Rattle.std.proofs.Common.{◌≡◌, map, string_bytes, take}
use Rattle.rh_bytes.specs.Counting.{failures_of, inner_of}
use Rattle.rh_key_texts.specs.Files.{ListsEach}
use Rattle.rh_key_texts.proofs.files.list_files.Given as goal

abbrev pub invariant-loop-index : goal.invariant-loop-index
invariant-loop-index g l = record {
  fine : g.S.Lender.state l.shelf ≡ g.S.Lender.state l.fn.shelf;
  listed : ListsEach (g.S.Lender.state l.fn.shelf).files l.fn.form (take l.index (map string_bytes l.paths)) (g.W.Write.contents (inner_of l.fn.writer)) (g.W.Write.contents (inner_of l.writer));
  written : failures_of l.writer ≡ failures_of l.fn.writer;
}
