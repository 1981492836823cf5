use Rattle.std.proofs.Common.{◌≡◌, map, take}
use Rattle.rh_arguments.specs.Words.{texts_of}
use Rattle.rh_arguments.proofs.parsing.copy_texts.Given as goal

abbrev pub invariant-loop-text : goal.invariant-loop-text
invariant-loop-text l = record {
  copied : texts_of l.copies.items ≡ map (λ t. t.now) (take l.text-index l.texts);
}
