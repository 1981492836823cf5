use Rattle.std.proofs.Common.{◌≡◌, ◌∙◌, List, ℕ, ◌++◌, length, take, drop, ap, subst, sym, arith}
use Rattle.rh_layout.specs.Layout.{IsLayout, keys_of}
use Rattle.rh_layout.proofs.LayoutLemmas.{layout_keys, layout_own}
use Rattle.rh_ledger.specs.Phase.{set_after}
use Rattle.rh_runner.proofs.CellsLemmas.{only_cells}
use Rattle.rh_ledger.specs.Tally.{tally_by}
use Rattle.rh_threads.specs.Made.{IsWorkedOut, opened}
use Rattle.rh_threads.specs.Rounds.{all_changed}
use Rattle.rh_threads.proofs.Closing.{worked_made, whole}
use Rattle.rh_threads.proofs.phase.Phase.change.Goals as goal

pub returns-clause-changed : goal.returns-clause-changed
returns-clause-changed g c =
    let p = c.args.self.now in
    let cells = c.args.cells.now in
    let keys = p.keys.now in
    let b = p.shape.bits in
    let new = c.close.new.cells in
    let made = worked_made (opened p cells.items) c.in_ok-table.table c.in_ok-table.crew new
    (subst (λ (l : List ℕ). IsWorkedOut (opened p l) c.in_ok-table.table c.in_ok-table.crew) c.as_slice.ensures.value c.in_ok-table.ensures.worked) c.close.ensures c.requires.room.layout c.requires.room.room in
    let same = whole cells.len new cells.items (made.layout.size ∙ sym c.requires.room.layout.size ∙ sym cells.ok.0) (sym cells.ok.0) in
    let few = made.few c.requires.kind in
    let changed : c.all_changed.result ≡ all_changed c.in_ok-table.crew.hands = let is = c.all_changed.ensures in omega (arith, few, is) in
    let after = take cells.len (new ++ drop (length new) cells.items) in
    let layout : IsLayout b after = subst (λ (l : List ℕ). IsLayout b l) (sym same) (layout_own new _ _ made.layout) in
    let keys_are : keys_of after ≡ set_after p.kind (keys_of cells.items) keys = ap keys_of same ∙ sym (layout_keys new _ _ made.layout) in
    record {
      layout = layout;
      keys_are = keys_are;
      cells_are = only_cells p.kind b keys cells.items after layout keys_are c.requires.room.room;
      tally = c.tally_by.ensures ∙ ap (tally_by p.kind (length keys)) changed ∙ made.tally c.requires.kind;
    }
