-- How many bytes a call takes of a reader.
use Rattle.std.specs.Prelude.{ℕ, ◌≤◌, List, length, Option}
use Rattle.std.specs.Io.KnownBytes.{Consumes}

-- Where the bytes are known, at most n of them were taken, from their front, and the others are still there.
pub record TakesAtMost (old new : Option (List ℕ)) (n : ℕ) : Type 0 where
  pub taken : List ℕ
  pub consumed : Consumes old new taken
  pub few : length taken ≤ n
