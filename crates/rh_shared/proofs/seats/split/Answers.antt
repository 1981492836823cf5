use Rattle.std.proofs.Common.{ℕ, ◌-◌, ap, ◌∙◌, sym, subst, arith}
use Rattle.rh_rule.specs.Seats.{Spans}
use Rattle.rh_shared.specs.Crews.{IsFresh, UsedNoRow}
use Rattle.rh_shared.proofs.Crews.{drop_half, half_alone, half_first, half_worker, take_half, unused_rests}
use Rattle.rh_shared.proofs.seats.split.Goals as goal

pub first_side-requires-clause-counts : goal.first_side-requires-clause-counts
first_side-requires-clause-counts c =
    let q = c.args.seat.now in
    let first = q.side.worker in
    let n = c.args.at - first in
    (half_first (UsedNoRow c.args.table.now.shape) _ _ _ (drop_half (UsedNoRow c.args.table.now.shape) q.inner.me.0 _ first q.count n c.args.at (ap (λ x. x.0) c.cut-inner.ensures.right) (let w = c.requires.within in omega (arith, w.0)) q.spans c.requires.rows) (let w = c.requires.within in omega (arith, w.0, w.1))).counts

pub first_side-requires-clause-worker : goal.first_side-requires-clause-worker
first_side-requires-clause-worker c =
    let q = c.args.seat.now in
    let first = q.side.worker in
    let n = c.args.at - first in
    half_worker (UsedNoRow c.args.table.now.shape) _ _ _ (drop_half (UsedNoRow c.args.table.now.shape) q.inner.me.0 _ first q.count n c.args.at (ap (λ x. x.0) c.cut-inner.ensures.right) (let w = c.requires.within in omega (arith, w.0)) q.spans c.requires.rows) (let w = c.requires.within in omega (arith, w.0, w.1))

pub first_side-requires-2-clause-counts : goal.first_side-requires-2-clause-counts
first_side-requires-2-clause-counts c =
    let q = c.args.seat.now in
    let first = q.side.worker in
    let n = c.args.at - first in
    (half_first (UsedNoRow c.args.table.now.shape) _ _ _ (take_half (UsedNoRow c.args.table.now.shape) q.inner.me.0 _ first q.count n (ap (λ x. x.0) c.cut-inner.ensures.left) (let w = c.requires.within in omega (arith, w.0, w.1)) q.spans c.requires.rows) (let w = c.requires.within in omega (arith, w.0))).counts

pub first_side-requires-2-clause-worker : goal.first_side-requires-2-clause-worker
first_side-requires-2-clause-worker c =
    let q = c.args.seat.now in
    let first = q.side.worker in
    let n = c.args.at - first in
    half_worker (UsedNoRow c.args.table.now.shape) _ _ _ (take_half (UsedNoRow c.args.table.now.shape) q.inner.me.0 _ first q.count n (ap (λ x. x.0) c.cut-inner.ensures.left) (let w = c.requires.within in omega (arith, w.0, w.1)) q.spans c.requires.rows) (let w = c.requires.within in omega (arith, w.0))

pub invariant_of-right : goal.invariant_of-right
invariant_of-right c =
    let q = c.args.seat.now in
    let first = q.side.worker in
    let n = c.args.at - first in
    let half = drop_half (UsedNoRow c.args.table.now.shape) q.inner.me.0 _ first q.count n c.args.at (ap (λ x. x.0) c.cut-inner.ensures.right) (let w = c.requires.within in omega (arith, w.0)) q.spans c.requires.rows in
    let side = c.first_side in record {
      some = let w = c.requires.within in omega (arith, w.0, w.1);
      spans = subst (λ (w : ℕ). Spans c.cut-inner.result.me.0 w (q.count - n)) (sym side.ensures.worker) half.spans;
      empty = ap (λ x. x.1) c.cut-inner.ensures.right;
      alone = λ one. λ i. (half_alone (UsedNoRow c.args.table.now.shape) _ _ _ half side.result.known.view side.ensures.known one i, ap (λ x. x.1) c.cut-inner.ensures.right i);
    }

pub invariant_of-seat : goal.invariant_of-seat
invariant_of-seat c =
    let q = c.args.seat.now in
    let first = q.side.worker in
    let n = c.args.at - first in
    let half = take_half (UsedNoRow c.args.table.now.shape) q.inner.me.0 _ first q.count n (ap (λ x. x.0) c.cut-inner.ensures.left) (let w = c.requires.within in omega (arith, w.0, w.1)) q.spans c.requires.rows in
    let side = c.first_side-2 in record {
      some = let w = c.requires.within in omega (arith, w.0);
      spans = subst (λ (w : ℕ). Spans c.cut-inner.new.seat.me.0 w n) (sym side.ensures.worker) half.spans;
      empty = ap (λ x. x.1) c.cut-inner.ensures.left ∙ q.empty;
      alone = λ one. λ i. (half_alone (UsedNoRow c.args.table.now.shape) _ _ _ half side.result.known.view side.ensures.known one i, (ap (λ x. x.1) c.cut-inner.ensures.left ∙ q.empty) i);
    }

pub returns-clause-left_rests : goal.returns-clause-left_rests
returns-clause-left_rests c one =
    let q = c.args.seat.now in
    let first = q.side.worker in
    let n = c.args.at - first in
    let half = take_half (UsedNoRow c.args.table.now.shape) q.inner.me.0 _ first q.count n (ap (λ x. x.0) c.cut-inner.ensures.left) (let w = c.requires.within in omega (arith, w.0, w.1)) q.spans c.requires.rows in
    let w = c.requires.within in
    let within = c.requires.here.within in
    unused_rests c.args.table.now _ (record { own = c.cut-inner.ensures.table.0 ∙ c.requires.here.own; within = let e = c.first_side-2.ensures.worker in omega (arith, e, within, w.0, w.1) }) one c.first_side-2.ensures.known
    (half_first (UsedNoRow c.args.table.now.shape) _ _ _ half (omega (arith, w.0)))

pub returns-clause-right_rests : goal.returns-clause-right_rests
returns-clause-right_rests c one =
    let q = c.args.seat.now in
    let first = q.side.worker in
    let n = c.args.at - first in
    let half = drop_half (UsedNoRow c.args.table.now.shape) q.inner.me.0 _ first q.count n c.args.at (ap (λ x. x.0) c.cut-inner.ensures.right) (let w = c.requires.within in omega (arith, w.0)) q.spans c.requires.rows in
    let w = c.requires.within in
    let within = c.requires.here.within in
    unused_rests c.args.table.now _ (record { own = c.cut-inner.ensures.table.1 ∙ c.requires.here.own; within = let e = c.first_side.ensures.worker in omega (arith, e, within, w.0, w.1) }) one c.first_side.ensures.known
    (half_first (UsedNoRow c.args.table.now.shape) _ _ _ half (omega (arith, w.0, w.1)))

pub returns-clause-rows : goal.returns-clause-rows
returns-clause-rows c =
    let q = c.args.seat.now in
    let first = q.side.worker in
    let n = c.args.at - first in
    let w = c.requires.within in (
      (take_half (UsedNoRow c.args.table.now.shape) q.inner.me.0 _ first q.count n (ap (λ x. x.0) c.cut-inner.ensures.left) (omega (arith, w.0, w.1)) q.spans c.requires.rows).each,
      (drop_half (UsedNoRow c.args.table.now.shape) q.inner.me.0 _ first q.count n c.args.at (ap (λ x. x.0) c.cut-inner.ensures.right) (omega (arith, w.0)) q.spans c.requires.rows).each,
    )

pub returns-clause-still_fresh : goal.returns-clause-still_fresh
returns-clause-still_fresh c fresh =
    let q = c.args.seat.now in
    let first = q.side.worker in
    let n = c.args.at - first in
    let w = c.requires.within in (
      (take_half IsFresh q.inner.me.0 _ first q.count n (ap (λ x. x.0) c.cut-inner.ensures.left) (omega (arith, w.0, w.1)) q.spans fresh).each,
      (drop_half IsFresh q.inner.me.0 _ first q.count n c.args.at (ap (λ x. x.0) c.cut-inner.ensures.right) (omega (arith, w.0)) q.spans fresh).each,
    )
