-- The keys of a list in pieces.
use Rattle.std.specs.Prelude.{ℕ, List}
use Rattle.std.specs.List.{flat_map}
use Rattle.rh_cutting.specs.declared.list.KeyList.{KeyList}

-- those of the pieces, one piece after the other
abbrev pub keys_in : KeyList → List ℕ
keys_in list = flat_map (λ piece. piece.items) list.pieces.items
