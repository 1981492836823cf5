use Rattle.std.proofs.Common.{take}
use Rattle.rh_splitting.specs.Parts.{EachGot}
use Rattle.rh_splitting.proofs.splitting.split_keys.Given as goal

abbrev pub invariant-loop-key : goal.invariant-loop-key
invariant-loop-key g l = record {
  given : EachGot g.W.Write.contents l.fn.parts l.parts (take l.key-index l.keys);
}
