use Rattle.std.proofs.Common.{◌≡◌, ◌/◌, take, drop, refl, subst}
use Rattle.std.specs.Prelude.{IfOk, OnOk}
use Rattle.rh_shared.proofs.Crews.{fresh_rows}
use Rattle.rh_threads.proofs.Crews.{are_halves, half_can_left, half_can_right}
use Rattle.rh_threads.proofs.crew.cut.Goals as goal

pub split-others-requires-clause-rows : goal.split-others-requires-clause-rows
split-others-requires-clause-rows c = fresh_rows c.args.table.now.shape _ c.requires.can.fresh

pub returns : goal.returns
returns c =
    let e = c.split-others.ensures in
    let can = c.requires.can in
    let n = c.args.crew.seat.count / 2 in
    let left : c.split_off.new.self ≡ take n c.args.crew.hands = subst (λ r. OnOk r (c.split_off.new.self ≡ take n c.args.crew.hands)) c.unwrap-right.ensures c.split_off.ensures.items in
    let right : c.unwrap-right.result ≡ drop n c.args.crew.hands = subst (λ r. IfOk r (λ w. w ≡ drop n c.args.crew.hands)) c.unwrap-right.ensures c.split_off.ensures.tail in
    let halves = are_halves c.args.crew (record { seat = c.split-others.new.seat; hands = c.split_off.new.self }) (record { seat = c.split-others.result; hands = c.unwrap-right.result }) _ n e.cut refl left right in
    let fresh = e.still_fresh can.fresh in
    record {
      halves = halves;
      left_can = half_can_left c.args.table.now c.args.keys.now c.args.crew _ _ can halves e.left fresh.0;
      right_can = half_can_right c.args.table.now c.args.keys.now c.args.crew _ _ can halves e.right fresh.1;
    }
