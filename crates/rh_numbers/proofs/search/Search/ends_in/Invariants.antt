use Rattle.std.proofs.Common.{◌≡◌, ◌++◌, List, ℕ, take}
use Rattle.rh_numbers.specs.Search.{found_by}
use Rattle.rh_numbers.proofs.search.Search.ends_in.Given as goal

abbrev pub invariant-loop-b : goal.invariant-loop-b
invariant-loop-b l = (rest : List ℕ) → found_by l.fn.self (take l.b-index l.bytes ++ rest) ≡ found_by l.self rest
