use Rattle.std.proofs.Common.{◌≡◌, ◌∙◌, length, ap, sym}
use Rattle.rh_ledger.specs.declared.tally.Kind.{Kind}
use Rattle.rh_threads.specs.Made.{markable, opened}
use Rattle.rh_threads.proofs.Closing.{are_answered, worked_made, whole}
use Rattle.rh_threads.proofs.phase.Phase.ask.Goals as goal

pub returns-clause-found : goal.returns-clause-found
returns-clause-found g c =
    let ph = opened c.args.self.now c.args.cells.now in
    let d = c.discard.ensures in
    let e = c.mark_all.ensures in
    let made = worked_made ph c.in_ok-table.table c.in_ok-table.crew d.0 c.in_ok-table.ensures.worked d.1 c.requires.room.layout c.requires.room.room in
    let found : c.as_mut_slice.result.now ≡ c.in_ok-found.found.items = c.as_mut_slice.ensures.value in
    let long = e.long ∙ ap length found in
    whole c.in_ok-found.found.len c.mark_all.new.found c.in_ok-found.found.items (long ∙ sym c.in_ok-found.found.ok.0) (sym c.in_ok-found.found.ok.0)
    ∙ are_answered ph d.0 c.in_ok-table.crew.hands c.as_mut_slice.result.now c.mark_all.new.found c.requires.kind made (ap (λ (kind : Kind). markable kind (length ph.keys)) c.requires.kind) (found ∙ c.in_ok-found.ensures.items_if_clones_equal (λ x h. h)) e
