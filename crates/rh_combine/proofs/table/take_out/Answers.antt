use Rattle.std.proofs.Common.{◌∙◌, arith, refl}
use Rattle.rh_combine.proofs.TableLemmas.{subtract_more, subtract_none}
use Rattle.rh_combine.proofs.table.take_out.Goals as goal

pub loop-key-init : goal.loop-key-init
loop-key-init c = record { bits = refl; keys = subtract_none c.args.set.now.keys }

pub loop-key-preserved : goal.loop-key-preserved
loop-key-preserved c = record {
  bits = c.remove.ensures.bits ∙ c.loop-key.invariant.bits;
  keys = c.remove.ensures.keys ∙ subtract_more c.args.set.now.keys c.args.keys.now c.loop-key.key-index (omega arith) c.loop-key.set.keys c.loop-key.invariant.keys;
}
