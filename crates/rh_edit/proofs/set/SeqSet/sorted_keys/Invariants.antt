use Rattle.std.proofs.Common.{◌≡◌, take}
use Rattle.rh_edit.proofs.RisingLemmas.{keys_in}
use Rattle.rh_edit.proofs.set.SeqSet.sorted_keys.Given as goal

abbrev pub invariant-loop-value : goal.invariant-loop-value
invariant-loop-value l = l.keys.items ≡ keys_in (take l.value-index l.value-items)
