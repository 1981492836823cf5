use Rattle.std.proofs.Common.{List, ℕ, subst, sym, take}
use Rattle.rh_worker.proofs.Plans.{AreValues, values_take}
use Rattle.rh_worker.proofs.scan_buffer.ScanBuffer.decide.Goals as goal

pub decide-requires-clause-values : goal.decide-requires-clause-values
decide-requires-clause-values c =
    subst (λ (l : List ℕ). AreValues (take c.args.count l)) (sym c.deref.ensures.value) (values_take c.args.count c.args.self.now.seen.items c.requires.room.values)
