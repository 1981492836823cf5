use Rattle.std.proofs.Common.{◌≡◌, take, true}
use Rattle.rh_interleaving.specs.Start.{are_keys, keys_of_pieces}
use Rattle.rh_interleaving.proofs.start.are_all_keys.Given as goal

abbrev pub invariant-loop-piece : goal.invariant-loop-piece
invariant-loop-piece l = are_keys (keys_of_pieces (take l.piece-index l.pieces)) ≡ true
