use Rattle.std.proofs.Common.{take}
use Rattle.std.specs.List.{flat_map}
use Rattle.rh_bytes.specs.Counting.{Emitted}
use Rattle.rh_numbers.specs.Writing.{text_of}
use Rattle.rh_key_texts.proofs.listing.write_pieces.Given as goal

abbrev pub invariant-loop-piece : goal.invariant-loop-piece
invariant-loop-piece g l = Emitted g.W.Write.contents l.fn.writer l.writer (flat_map (λ piece. text_of piece.items) (take l.piece-index l.pieces))
