use Rattle.std.proofs.Common.{◌≡◌, ◌++◌, take}
use Rattle.rh_play_text.specs.Appending.{joined}
use Rattle.rh_play_text.proofs.appending.extend.Given as goal

abbrev pub invariant-loop-text : goal.invariant-loop-text
invariant-loop-text l = l.out.items ≡ l.fn.out.items ++ joined (take l.text-index l.texts)
