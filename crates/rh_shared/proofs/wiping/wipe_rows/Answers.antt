use Rattle.std.proofs.Common.{◌≡◌, ℕ, [], ap, ◌∙◌, arith, subst, sym}
use Rattle.rh_rule.specs.Seats.{InView, IsWiping}
use Rattle.rh_rule.specs.Wipes.{row_total}
use Rattle.rh_shared.specs.Ends.{IsWiped}
use Rattle.rh_shared.proofs.Clearing.{are_wiping, cleared_on, finished, still_whole}
use Rattle.rh_shared.proofs.wiping.wipe_rows.Goals as goal

pub loop-row-init : goal.loop-row-init
loop-row-init c = record { within = omega arith; own = c.begin.ensures.own; at = let b = c.begin.ensures.begun in (b.made, b.view) }

pub clear-requires-clause-whole : goal.clear-requires-clause-whole
clear-requires-clause-whole c = let a = c.loop-row.invariant.at in still_whole c.args.table.now c.args.seat.now _ a.0.cells c.loop-row.row c.loop-row.invariant.own a.1 c.requires.whole

pub clear-requires-clause-wiping : goal.clear-requires-clause-wiping
clear-requires-clause-wiping c = let a = c.loop-row.invariant.at in (a.0.cells, are_wiping c.args.seat.now.me.0 _ a.0.cells c.loop-row.row (ap (λ x. x.0) a.1))

pub loop-row-preserved : goal.loop-row-preserved
loop-row-preserved c =
    let a = c.loop-row.invariant.at in
    let on = cleared_on c.args.seat.now.me.0 _ a.0.cells c.loop-row.row (ap (λ x. x.0) a.1) in
    record { within = let e = c.loop-row-test.true in let w = c.words.ensures in let n = c.cells.ensures in omega (arith, e, w, n); own = c.clear.ensures.own ∙ c.loop-row.invariant.own; at = (a.0, c.clear.ensures.view ∙ (λ i. (on i, []))) }

pub finish-requires-clause-whole : goal.finish-requires-clause-whole
finish-requires-clause-whole c = let a = c.loop-row.invariant.at in still_whole c.args.table.now c.args.seat.now _ a.0.cells c.loop-row.row c.loop-row.invariant.own a.1 c.requires.whole

pub finish-requires-clause-wiping : goal.finish-requires-clause-wiping
finish-requires-clause-wiping c =
    let a = c.loop-row.invariant.at in
    let e = c.loop-row-test.false in
    let within = c.loop-row.invariant.within in
    let w = c.words.ensures in
    let n = c.cells.ensures in
    let all : c.loop-row.row ≡ row_total c.args.table.now.shape = omega (arith, e, within, w, n) in
    (a.0.cells, subst (λ (m : ℕ). InView (IsWiping a.0.cells m) c.loop-row.seat.me.0) all (are_wiping c.args.seat.now.me.0 _ a.0.cells c.loop-row.row (ap (λ x. x.0) a.1)))

pub returns-clause-wiped : goal.returns-clause-wiped
returns-clause-wiped c =
    let a = c.loop-row.invariant.at in
    let done = finished c.args.table.now.shape c.args.seat.now.me.0 _ a.0 c.loop-row.row (ap (λ x. x.0) a.1) in
    subst (λ us. IsWiped c.args.table.now.shape c.args.seat.now.me.0 us) (sym (ap (λ x. x.0) c.finish.ensures.view)) done
