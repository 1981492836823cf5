use Rattle.std.proofs.Common.{◌≡◌, take}
use Rattle.rh_turns.specs.Game.{shares_of}
use Rattle.rh_interleaving.specs.SetUp.{AreNew}
use Rattle.rh_interleaving.proofs.set_up.new_hands.Given as goal

abbrev pub invariant-loop-number : goal.invariant-loop-number
invariant-loop-number l = record {
  shares : shares_of l.hands.items ≡ take l.number l.shares;
  new : AreNew l.kind l.shape l.words l.hands.items;
}
