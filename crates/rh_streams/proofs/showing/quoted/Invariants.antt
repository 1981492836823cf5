use Rattle.std.proofs.Common.{◌≡◌, ◌∷◌, take, string_bytes}
use Rattle.std.specs.List.{flat_map}
use Rattle.rh_streams.specs.Quoted.{shown}
use Rattle.rh_streams.proofs.showing.quoted.Given as goal

abbrev pub invariant-loop-byte : goal.invariant-loop-byte
invariant-loop-byte l = string_bytes l.text ≡ 34 ∷ flat_map shown (take l.byte-index l.byte-items)
