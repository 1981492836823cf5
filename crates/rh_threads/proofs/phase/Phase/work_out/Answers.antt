use Rattle.std.proofs.Common.{subst}
use Rattle.rh_threads.specs.Made.{AreNew, opened}
use Rattle.rh_threads.proofs.Beginning.{can_begin, comes_first, is_value}
use Rattle.rh_threads.proofs.phase.Phase.work_out.Goals as goal

pub make-requires-clause-values : goal.make-requires-clause-values
make-requires-clause-values g c cell inside = is_value c.args.self.now.shape.bits c.args.cells.now cell c.requires.layout inside

pub rounds-requires-clause-can : goal.rounds-requires-clause-can
rounds-requires-clause-can g c lifetimes lives =
    let p = c.args.self.now in
    let e = c.in_ok-table.ensures in
    can_begin (opened p c.args.cells.now) c.in_ok-table.table (record { seat = c.in_ok-table.seat; hands = c.in_ok-hands.hands }) e.shape e.all e.fresh e.views
    (subst (λ n. AreNew p.shape p.kind n c.in_ok-hands.hands) c.positions.ensures c.in_ok-hands.ensures) p.list p.keys_are

pub returns-clause-worked : goal.returns-clause-worked
returns-clause-worked g c =
    let p = c.args.self.now in
    let ph = opened p c.args.cells.now in
    let e = c.in_ok-table.ensures in
    let h = c.in_ok-crew.ensures.done in
    record {
      shape_is = e.shape;
      done = h.done;
      comes = h.comes ph (comes_first ph c.in_ok-table.table (record { seat = c.in_ok-table.seat; hands = c.in_ok-hands.hands }) e.shape e.all e.fresh e.views
          (subst (λ n. AreNew p.shape p.kind n c.in_ok-hands.hands) c.positions.ensures c.in_ok-hands.ensures) p.list p.keys_are c.requires.layout.size);
    }
