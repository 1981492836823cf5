use Rattle.std.proofs.Common.{◌≡◌, length, take}
use Rattle.rh_turns.specs.Game.{ArePieces}
use Rattle.rh_interleaving.specs.SetUp.{AreDealt}
use Rattle.rh_interleaving.specs.Start.{keys_of_pieces}
use Rattle.rh_interleaving.proofs.set_up.deal.Given as goal

abbrev pub invariant-loop-piece : goal.invariant-loop-piece
invariant-loop-piece l = record {
  keys : l.keys.items ≡ keys_of_pieces (take l.piece-index l.pieces);
  parts : ArePieces 0 l.shares.items (length l.keys.items);
  each : AreDealt l.keys.items l.shares.items (take l.piece-index l.pieces);
}
