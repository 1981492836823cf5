use Rattle.std.proofs.Common.{◌∙◌, arith, rules, sym}
use Rattle.rh_combine.proofs.TableLemmas.{intersect_more, intersect_none, intersect_skip, room_for_both}
use Rattle.rh_combine.proofs.table.both.Goals as goal
use Rattle.rh_combine.proofs.table.both.Goals.{then-has, else-has}

pub loop-key-init : goal.loop-key-init
loop-key-init c = record {
  bits = c.in_ok-found.ensures.bits;
  keys = c.in_ok-found.ensures.keys ∙ intersect_none c.args.set.now.keys;
}

pub insert-requires-clause-room : goal.insert-requires-clause-room
insert-requires-clause-room c =
    room_for_both c.bits_of-bits.result c.loop-key.found.bits c.loop-key.key-index c.args.set.now.keys c.loop-key.found.keys c.args.keys.now c.loop-key.invariant.keys c.loop-key.invariant.bits c.min.result (search rules) c.bits_of-bits.ensures.size

pub loop-key-preserved : goal.loop-key-preserved
loop-key-preserved c =
    elim c.if-has.branch [
      | then-has w ↦ record {
        bits = (λ j. (w.found-is j).bits) ∙ w.insert.ensures.bits ∙ c.loop-key.invariant.bits;
        keys = (λ j. (w.found-is j).keys) ∙ w.insert.ensures.keys ∙ intersect_more c.args.set.now.keys c.args.keys.now c.loop-key.key-index (omega arith) c.loop-key.found.keys (sym c.has.ensures ∙ w.if-has.true) c.loop-key.invariant.keys;
      }
      | else-has w ↦ record {
        bits = (λ j. (w.found-is j).bits) ∙ c.loop-key.invariant.bits;
        keys = (λ j. (w.found-is j).keys) ∙ intersect_skip c.args.set.now.keys c.args.keys.now c.loop-key.key-index (omega arith) c.loop-key.found.keys (sym c.has.ensures ∙ w.if-has.false) c.loop-key.invariant.keys;
      }
    ]
