use Rattle.std.proofs.Common.{◌≡◌, length, take}
use Rattle.rh_interleaving.specs.Made.{cut}
use Rattle.rh_interleaving.specs.Start.{keys_of_pieces}
use Rattle.rh_interleaving.proofs.start.count_keys.Given as goal

abbrev pub invariant-loop-piece : goal.invariant-loop-piece
invariant-loop-piece l = l.count ≡ cut (length (keys_of_pieces (take l.piece-index l.pieces)))
