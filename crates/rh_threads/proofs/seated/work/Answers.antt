use Rattle.std.proofs.Common.{◌≡◌, ap, subst, sym}
use Rattle.std.specs.Prelude.{IfSome, slice_index_or}
use Rattle.rh_shared.specs.Seats.{trace_of, view_of}
use Rattle.rh_rule.specs.Seats.{sitter}
use Rattle.rh_shared.specs.Crews.{IsFresh, head_of}
use Rattle.rh_shared.proofs.Crews.{fresh_rests}
use Rattle.rh_threads.proofs.Crews.{alone_at, alone_views, front_at, one_worked}
use Rattle.rh_threads.proofs.seated.work.Goals as goal

pub do_keys-requires-clause-at : goal.do_keys-requires-clause-at
do_keys-requires-clause-at g c =
    let seat = c.args.crew.seat in
    let can = c.requires.can in
    let first = sitter (view_of seat) (trace_of seat) in
    let at = alone_at seat c.requires.one in
    let head = ap head_of (sym (alone_views seat c.requires.one)) in
    let front = front_at c.args.crew c.unwrap-hand.result.now can.crew.long c.requires.one (subst (λ o. IfSome o (λ x. x.now ≡ slice_index_or c.args.crew.hands 0 x.now)) c.unwrap-hand.ensures c.front_mut.ensures.value) in
    record {
      rests = fresh_rests c.args.table.now seat can.crew.here c.requires.one head (subst IsFresh head (can.fresh 0 first at));
      hand = can.crew.hands 0 first c.unwrap-hand.result.now at front;
      list = can.crew.list;
    }

pub returns : goal.returns
returns g c =
    let can = c.requires.can in
    let front = front_at c.args.crew c.unwrap-hand.result.now can.crew.long c.requires.one (subst (λ o. IfSome o (λ x. x.now ≡ slice_index_or c.args.crew.hands 0 x.now)) c.unwrap-hand.ensures c.front_mut.ensures.value) in
    one_worked c.args.table.now c.args.keys.now c.args.crew c.requires.one can c.do_keys.new.seat c.unwrap-hand.result.now c.do_keys.new.hand front c.do_keys.ensures.works c.do_keys.ensures.stopped
