use Rattle.std.proofs.Common.{◌≡◌, ◌+◌, length}
use Rattle.rh_splitting.specs.Files.{made_of, placed_of, whole_of}
use Rattle.rh_splitting.proofs.files.PartFiles.end_all.Given as goal

abbrev pub invariant-loop-part : goal.invariant-loop-part
invariant-loop-part g l = record {
  made : made_of l.self ≡ made_of l.fn.self;
  whole : whole_of l.self + length l.parts.items ≡ whole_of l.fn.self + length l.fn.parts.items;
  placed : placed_of l.self ≡ placed_of l.fn.self;
}

abbrev pub decreases-loop-part : goal.decreases-loop-part
decreases-loop-part g l = length l.parts.items
