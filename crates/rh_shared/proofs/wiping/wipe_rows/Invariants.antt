use Rattle.std.proofs.Common.{◌≡◌, ◌≤◌, []}
use Rattle.rh_rule.specs.Wipes.{row_total, wiping_view}
use Rattle.rh_rule.specs.Seats.{AreMade, all_views}
use Rattle.rh_shared.proofs.wiping.wipe_rows.Given as goal

abbrev pub invariant-loop-row : goal.invariant-loop-row
invariant-loop-row l = record {
  within : l.row ≤ row_total l.table.shape;
  own : l.seat.table_id ≡ l.fn.seat.table_id;
  at : ((m : AreMade l.table.shape l.fn.seat.me.0) × (l.seat.me ≡ (all_views (wiping_view m.cells l.row) l.fn.seat.me.0, [])));
}
