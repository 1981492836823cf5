use Rattle.std.proofs.Common.{◌≡◌, ◌++◌, take}
use Rattle.rh_svg.specs.Markup.{escaped}
use Rattle.rh_svg.proofs.markup.text.Given as goal

abbrev pub invariant-loop-byte : goal.invariant-loop-byte
invariant-loop-byte l = l.out.items ≡ l.fn.out.items ++ escaped (take l.byte-index l.text)
