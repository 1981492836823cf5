use Rattle.std.proofs.Common.{◌∙◌}
use Rattle.rh_combine.proofs.TableLemmas.{room_at_first, union_at_first}
use Rattle.rh_combine.proofs.table.first_set.Goals as goal

pub add-requires-clause-room : goal.add-requires-clause-room
add-requires-clause-room c =
    room_at_first c.args.how c.args.most c.count_at_first.result c.bits_of-bits.result c.in_ok-set.set.bits c.in_ok-set.set.keys c.args.keys.now c.in_ok-set.ensures.keys c.in_ok-set.ensures.bits c.count_at_first.ensures c.requires.few c.bits_of-bits.ensures.size

pub returns-clause-keys : goal.returns-clause-keys
returns-clause-keys c = c.add.ensures.keys ∙ union_at_first c.in_ok-set.set.keys c.args.keys.now c.in_ok-set.ensures.keys
