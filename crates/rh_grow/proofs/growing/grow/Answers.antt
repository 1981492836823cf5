use Rattle.std.proofs.Common.{sym, ap, ◌∙◌, arith}
use Rattle.rh_grow.proofs.GrowingLemmas.{keys_of_none, keys_of_more_empty, keys_of_more_full, room_for_more}
use Rattle.rh_grow.proofs.growing.grow.Goals.{in-Some, in_default}
use Rattle.rh_grow.proofs.growing.grow.Goals as goal

pub loop-value-init : goal.loop-value-init
loop-value-init c = record { bits = c.in_ok-set.ensures.bits; keys = c.in_ok-set.ensures.keys ∙ sym keys_of_none }

pub insert-requires-clause-key : goal.insert-requires-clause-key
insert-requires-clause-key c =
    c.requires.layout.keys c.in-Some.key (c.requires.layout.no_other c.loop-value.value-index c.in-Some.key (omega arith, c.in-Some.ensures))

pub insert-requires-clause-room : goal.insert-requires-clause-room
insert-requires-clause-room c =
    room_for_more c.args.cells.now c.loop-value.value-index (omega arith) c.args.bits c.args.new_bits c.loop-value.set.bits c.loop-value.set.keys c.requires.layout c.requires.room c.requires.larger c.loop-value.invariant.bits (omega (arith, c.in-Some.ensures)) c.loop-value.invariant.keys

pub loop-value-preserved : goal.loop-value-preserved
loop-value-preserved c =
    elim c.match-key_in.branch [
      | in-Some w ↦ record {
        bits = ap (λ s. s.bits) w.set-is ∙ w.insert.ensures.bits ∙ c.loop-value.invariant.bits;
        keys = ap (λ s. s.keys) w.set-is ∙ w.insert.ensures.keys ∙ keys_of_more_full c.args.cells.now c.loop-value.value-index (omega arith) c.loop-value.set.keys w.in-Some.key w.in-Some.ensures c.loop-value.invariant.keys;
      }
      | in_default w ↦ record {
        bits = ap (λ s. s.bits) w.set-is ∙ c.loop-value.invariant.bits;
        keys = ap (λ s. s.keys) w.set-is ∙ keys_of_more_empty c.args.cells.now c.loop-value.value-index (omega arith) c.loop-value.set.keys w.in_default.ensures c.loop-value.invariant.keys;
      }
    ]
