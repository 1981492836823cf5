use Rattle.rh_layout.proofs.LayoutLemmas.{with_same_keys}
use Rattle.rh_layout.proofs.OneLayout.{one_layout_of}
use Rattle.rh_layout.specs.Layout.{keys_of}
use Rattle.rh_layout.proofs.laws.cells_agree.Goals as goal

pub returns : goal.returns
returns c p q free same = one_layout_of c.args.first.now c.args.second.now c.args.bits (keys_of c.args.second.now) (with_same_keys c.args.first.now c.args.bits (keys_of c.args.second.now) p same) q free
