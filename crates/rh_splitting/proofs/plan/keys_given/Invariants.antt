use Rattle.std.proofs.Common.{◌≡◌, ◌≤◌, ◌*◌, ◌^◌, take}
use Rattle.rh_splitting.specs.Plan.{keys_given}
use Rattle.rh_splitting.proofs.plan.keys_given.Given as goal

abbrev pub invariant-loop-part : goal.invariant-loop-part
invariant-loop-part g l = record {
  keys : l.keys ≡ keys_given (take l.part-index l.parts);
  few : l.keys ≤ l.part-index * 2 ^ 64;
}
