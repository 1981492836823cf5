use Rattle.std.proofs.Common.{◌≡◌, length}
use Rattle.std.specs.Prelude.{All}
use Rattle.rh_splitting.specs.Parts.{IsBegun}
use Rattle.rh_splitting.specs.Files.{made_of, placed_of, whole_of}
use Rattle.rh_splitting.proofs.files.PartFiles.begin_all.Given as goal

abbrev pub invariant-loop-number : goal.invariant-loop-number
invariant-loop-number g l = record {
  made : made_of l.self ≡ l.number;
  whole : whole_of l.self ≡ whole_of l.fn.self;
  placed : placed_of l.self ≡ placed_of l.fn.self;
  parts : length l.parts.items ≡ l.number;
  begun : All IsBegun l.parts.items;
}
