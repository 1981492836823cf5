use Rattle.std.proofs.Common.{◌∙◌, arith, refl}
use Rattle.rh_combine.specs.declared.how.How.TheVariants.{Union}
use Rattle.rh_combine.proofs.TableLemmas.{room_on, union_more, union_none}
use Rattle.rh_combine.proofs.table.add.Goals as goal

pub loop-key-init : goal.loop-key-init
loop-key-init c = record { bits = refl; keys = union_none c.args.set.now.keys }

pub insert-requires-clause-room : goal.insert-requires-clause-room
insert-requires-clause-room c =
    room_on Union c.args.set.now.bits c.loop-key.set.bits c.loop-key.key-index c.args.set.now.keys c.loop-key.set.keys c.args.keys.now c.loop-key.invariant.keys c.loop-key.invariant.bits c.requires.room

pub loop-key-preserved : goal.loop-key-preserved
loop-key-preserved c = record {
  bits = c.insert.ensures.bits ∙ c.loop-key.invariant.bits;
  keys = c.insert.ensures.keys ∙ union_more c.args.set.now.keys c.args.keys.now c.loop-key.key-index (omega arith) c.loop-key.set.keys c.loop-key.invariant.keys;
}
