use Rattle.std.proofs.Common.{◌≡◌, arith}
use Rattle.rh_play_run.proofs.Following.{nothing_shown, one_cell_more}
use Rattle.rh_play_run.proofs.orders.show.Goals as goal

pub loop-cell-init : goal.loop-cell-init
loop-cell-init c = nothing_shown _ _

pub loop-cell-preserved : goal.loop-cell-preserved
loop-cell-preserved c = one_cell_more _ _ _ _ _ _ c.raw.ensures c.loop-cell.invariant c.in_ok-push_raw.ensures

pub returns : goal.returns
returns c =
    let all : c.loop-cell.cell ≡ c.args.cells = omega arith in
    rw (c.requires, ← all) c.loop-cell.invariant
