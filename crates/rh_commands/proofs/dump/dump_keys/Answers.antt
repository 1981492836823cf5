use Rattle.rh_layout.proofs.LayoutLemmas.{layout_own}
use Rattle.rh_commands.proofs.dump.dump_keys.Goals as goal

pub write_dump-requires : goal.write_dump-requires
write_dump-requires g c =
    layout_own c.cells.result.now c.in-Some.bits c.in_ok-set.set.keys (rw c.in_ok-set.ensures.bits at c.cells.ensures.layout)
