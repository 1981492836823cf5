use Rattle.std.proofs.Common.{◌∙◌, arith, rules, refl, sym}
use Rattle.rh_edit.proofs.SetLemmas.{from_list_more}
use Rattle.rh_combine.proofs.TableLemmas.{flip_more, flip_skip, new_one, old_one, room_for_next, room_to_see, xor_none}
use Rattle.rh_combine.proofs.table.flip_all.Goals as goal
use Rattle.rh_combine.proofs.table.flip_all.Goals.{then-insert, else-insert}

pub loop-key-init : goal.loop-key-init
loop-key-init c = record {
  seen_bits = c.in_ok-seen.ensures.bits;
  seen = c.in_ok-seen.ensures.keys;
  bits = refl;
  keys = xor_none c.args.set.now.keys;
}

pub insert-requires-clause-room : goal.insert-requires-clause-room
insert-requires-clause-room c =
    room_to_see c.args.most c.bits_of-bits.result c.loop-key.seen.bits c.loop-key.key-index c.args.set.now.keys c.loop-key.seen.keys c.args.keys.now c.loop-key.invariant.seen c.loop-key.invariant.seen_bits c.requires.few c.min.result (search rules) c.bits_of-bits.ensures.size

pub flip-requires-clause-room : goal.flip-requires-clause-room
flip-requires-clause-room c =
    room_for_next c.args.set.now.bits c.loop-key.set.bits c.loop-key.key-index c.args.set.now.keys c.loop-key.set.keys c.args.keys.now (omega arith) c.loop-key.invariant.keys c.loop-key.invariant.bits c.requires.room

pub loop-key-preserved : goal.loop-key-preserved
loop-key-preserved c =
    let seen = c.insert.ensures.keys ∙ from_list_more c.args.keys.now c.loop-key.key-index c.loop-key.seen.keys (omega arith) c.loop-key.invariant.seen in
    elim c.if-insert.branch [
      | then-insert w ↦ record {
        seen_bits = c.insert.ensures.bits ∙ c.loop-key.invariant.seen_bits;
        seen = seen;
        bits = (λ j. (w.set-is j).bits) ∙ w.flip.ensures.bits ∙ c.loop-key.invariant.bits;
        keys = (λ j. (w.set-is j).keys) ∙ w.flip.ensures.keys
            ∙ flip_more c.args.set.now.keys c.args.keys.now c.loop-key.key-index (omega arith) c.loop-key.seen.keys c.loop-key.set.keys c.loop-key.invariant.seen (new_one _ (sym c.insert.ensures.changed ∙ w.if-insert.true)) c.loop-key.invariant.keys;
      }
      | else-insert w ↦ record {
        seen_bits = c.insert.ensures.bits ∙ c.loop-key.invariant.seen_bits;
        seen = seen;
        bits = (λ j. (w.set-is j).bits) ∙ c.loop-key.invariant.bits;
        keys = (λ j. (w.set-is j).keys) ∙ flip_skip c.args.set.now.keys c.args.keys.now c.loop-key.key-index (omega arith) c.loop-key.seen.keys c.loop-key.set.keys c.loop-key.invariant.seen (old_one _ (sym c.insert.ensures.changed ∙ w.if-insert.false)) c.loop-key.invariant.keys;
      }
    ]
