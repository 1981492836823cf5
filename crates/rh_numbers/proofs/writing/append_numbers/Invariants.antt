use Rattle.std.proofs.Common.{◌≡◌, ◌++◌, take}
use Rattle.rh_numbers.specs.Writing.{text_of}
use Rattle.rh_numbers.proofs.writing.append_numbers.Given as goal

abbrev pub invariant-loop-number : goal.invariant-loop-number
invariant-loop-number l = l.bytes.items ≡ l.fn.bytes.items ++ text_of (take l.number-index l.numbers)
