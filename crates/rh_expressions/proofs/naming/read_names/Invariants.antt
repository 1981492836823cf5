use Rattle.std.proofs.Common.{◌≡◌, [], drop, take}
use Rattle.std.specs.Prelude.{length, map, string_bytes}
use Rattle.rh_expressions.specs.Naming.{names_in, path_in}
use Rattle.rh_expressions.proofs.naming.read_names.Given as goal

abbrev pub invariant-loop-word : goal.invariant-loop-word
invariant-loop-word l =
    (names_in [] (map string_bytes l.words) ≡ names_in (map string_bytes l.names.items) (map string_bytes (drop l.word l.words)))
    × (length l.names.items ≡ l.word)
    × (map string_bytes l.paths.items ≡ map path_in (map string_bytes (take l.word l.words)))
