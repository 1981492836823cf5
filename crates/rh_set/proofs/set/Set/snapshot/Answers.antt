use Rattle.std.proofs.Common.{◌^◌, ◌<◌, ◌∙◌, ap, subst}
use Rattle.std.specs.FinSet as set
use Rattle.rh_layout.specs.Layout.{Layout}
use Rattle.rh_edit.specs.Held.{Held}
use Rattle.rh_set.proofs.SnapshotLemmas.{is_snapshot}
use Rattle.rh_set.proofs.set.Set.snapshot.Goals as goal

pub returns : goal.returns
returns c =
    is_snapshot c.args.self.now c.bits.result c.cells.result.now c.new-bytes.result.items c.write_snapshot.new.out.items
    (c.bits.ensures.bits ∙ ap (λ (h : Held). h.bits) c.self.view_is)
    (subst (λ (h : Held). Layout c.cells.result.now h.bits h.keys) c.self.view_is c.cells.ensures.layout)
    (subst (λ (h : Held). set.len h.keys < 2 ^ h.bits) c.self.view_is c.cells.ensures.free)
    c.new-bytes.ensures.items c.in_ok-write_snapshot.ensures.appended
