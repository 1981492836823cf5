use Rattle.std.proofs.Common.{ℕ, ◌∙◌, sym, subst, arith}
use Rattle.rh_rule.specs.Seats.{Spans}
use Rattle.rh_shared.proofs.Clearing.{wiped_half}
use Rattle.rh_shared.specs.Crews.{IsFresh}
use Rattle.rh_shared.proofs.Crews.{fresh_rests, fresh_row, fresh_rows, half_alone, half_first, half_worker}
use Rattle.rh_shared.proofs.wiping.wipe.Goals as goal

pub first_side-requires-clause-counts : goal.first_side-requires-clause-counts
first_side-requires-clause-counts c =
    let q = c.args.seat.now in
    (fresh_row c.args.table.now.shape _ (half_first IsFresh _ _ _ (wiped_half _ _ _ q.side.worker q.count c.wipe_rows.ensures.wiped q.spans) q.some)).counts

pub first_side-requires-clause-worker : goal.first_side-requires-clause-worker
first_side-requires-clause-worker c =
    let q = c.args.seat.now in
    half_worker IsFresh _ _ _ (wiped_half _ _ _ q.side.worker q.count c.wipe_rows.ensures.wiped q.spans) q.some ∙ c.requires.all.first

pub invariant_of-seat : goal.invariant_of-seat
invariant_of-seat c =
    let q = c.args.seat.now in
    let half = wiped_half _ _ _ q.side.worker q.count c.wipe_rows.ensures.wiped q.spans in
    let side = c.first_side in record {
      some = q.some;
      spans = subst (λ (w : ℕ). Spans c.wipe_rows.new.seat.me.0 w q.count) (c.requires.all.first ∙ sym side.ensures.worker) half.spans;
      empty = c.wipe_rows.ensures.empty;
      alone = λ one. λ i. (half_alone IsFresh _ _ _ half side.result.known.view side.ensures.known one i, c.wipe_rows.ensures.empty i);
    }

pub returns-clause-rests : goal.returns-clause-rests
returns-clause-rests c one =
    let q = c.args.seat.now in
    let half = wiped_half _ _ _ q.side.worker q.count c.wipe_rows.ensures.wiped q.spans in
    let e = c.first_side.ensures.worker in
    let all = c.requires.all.count in
    fresh_rests c.args.table.now _ (record { own = c.wipe_rows.ensures.own ∙ c.requires.all.own; within = omega (arith, e, all) }) one c.first_side.ensures.known (half_first IsFresh _ _ _ half q.some)

pub returns-clause-fresh : goal.returns-clause-fresh
returns-clause-fresh c =
    let q = c.args.seat.now in
    (wiped_half _ _ _ q.side.worker q.count c.wipe_rows.ensures.wiped q.spans).each

pub returns-clause-rows : goal.returns-clause-rows
returns-clause-rows c =
    let q = c.args.seat.now in
    fresh_rows c.args.table.now.shape _ (wiped_half _ _ _ q.side.worker q.count c.wipe_rows.ensures.wiped q.spans).each
