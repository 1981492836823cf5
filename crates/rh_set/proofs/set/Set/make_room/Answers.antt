use Rattle.std.proofs.Common.{◌≡◌, ◌∙◌, ap, arith}
use Rattle.std.specs.FinSet as set
use Rattle.rh_edit.specs.Held.{Held}
use Rattle.rh_layout.specs.Layout.{keys_of}
use Rattle.rh_layout.proofs.LayoutLemmas.{layout_own}
use Rattle.rh_set.proofs.KeyLemmas.{fits_below, keys_kept}
use Rattle.rh_set.proofs.set.Set.make_room.Goals as goal

same : (c : goal.In-Ok) → keys_of c.in-Ok.cells.items ≡ c.self.inside.table.keys
same c = keys_kept c.cells.result.now c.in-Ok.cells.items c.in-Some.size c.self.inside.table.keys c.cells.ensures.keys c.in-Ok.ensures

pub from_cells-requires-clause-layout : goal.from_cells-requires-clause-layout
from_cells-requires-clause-layout c =
    layout_own c.in-Ok.cells.items c.in-Some.size (keys_of c.cells.result.now) c.in-Ok.ensures

pub from_cells-requires-clause-free : goal.from_cells-requires-clause-free
from_cells-requires-clause-free c =
    omega (arith, ap set.len (same c), c.len.ensures, fits_below _ _ c.in-Some.ensures.capacity.fits)

pub returns-in-Ok-clause-keys : goal.returns-in-Ok-clause-keys
returns-in-Ok-clause-keys c =
    c.from_cells.ensures.keys ∙ keys_kept c.cells.result.now c.in-Ok.cells.items c.in-Some.size c.self.inside.table.keys c.cells.ensures.keys c.in-Ok.ensures
    ∙ ap (λ (h : Held). h.keys) c.self.view_is

pub returns-in-Ok-clause-room : goal.returns-in-Ok-clause-room
returns-in-Ok-clause-room c =
    let same = c.from_cells.ensures.keys ∙ keys_kept c.cells.result.now c.in-Ok.cells.items c.in-Some.size c.self.inside.table.keys c.cells.ensures.keys c.in-Ok.ensures in
    rw c.from_cells.ensures.bits (omega (arith, ap set.len same, c.len.ensures, fits_below _ _ c.in-Some.ensures.capacity.fits))
