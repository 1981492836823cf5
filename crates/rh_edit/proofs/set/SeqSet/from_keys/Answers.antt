use Rattle.std.proofs.Common.{◌∙◌, arith}
use Rattle.rh_edit.proofs.SetLemmas.{room_for_more, from_list_more}
use Rattle.rh_edit.proofs.set.SeqSet.from_keys.Goals as goal

pub insert-requires-clause-room : goal.insert-requires-clause-room
insert-requires-clause-room c =
    room_for_more c.args.keys.now c.loop-key.key-index c.args.bits c.loop-key.set.bits c.loop-key.set.keys (omega arith) c.requires.room c.loop-key.invariant.bits c.loop-key.invariant.keys

pub loop-key-preserved : goal.loop-key-preserved
loop-key-preserved c = record {
  bits = c.insert.ensures.bits ∙ c.loop-key.invariant.bits;
  keys = c.insert.ensures.keys ∙ from_list_more c.args.keys.now c.loop-key.key-index c.loop-key.set.keys (omega arith) c.loop-key.invariant.keys;
}
