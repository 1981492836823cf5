use Rattle.std.proofs.Common.{◌≡◌, ◌≤◌, ◌+◌, ◌++◌, List, ℕ, length, take}
use Rattle.std.specs.Vec.{vec_capacity}
use Rattle.rh_numbers.specs.Parts.{said_by}
use Rattle.rh_numbers.proofs.reading.Reading.read.Given as goal

abbrev pub invariant-loop-b : goal.invariant-loop-b
invariant-loop-b l = record {
  line : l.self.line ≤ l.fn.self.line + l.b-index;
  room : vec_capacity l.self.keys ≡ vec_capacity l.fn.self.keys;
  many : length l.self.keys.items ≤ length l.fn.self.keys.items + l.b-index;
  read : (rest : List ℕ) → said_by l.fn.self (take l.b-index l.bytes ++ rest) ≡ said_by l.self rest;
}
