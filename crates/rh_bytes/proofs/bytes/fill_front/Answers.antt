use Rattle.std.proofs.Common.{rules, subst, length, ◌-◌}
use Rattle.std.specs.Io.KnownBytes.{Consumes}
use Rattle.std.proofs.KnownBytes.{Consumes-trans}
use Rattle.rh_bytes.proofs.Filling.{filled_more}
use Rattle.rh_bytes.proofs.bytes.fill_front.Goals as goal

pub loop-count-preserved : goal.loop-count-preserved
loop-count-preserved g c =
    let from = c.loop-count.count in
    let within = c.loop-count.invariant.within in
    let joined = filled_more from (length c.loop-count.buf - from) c.in-Ok.n c.loop-count.buf c.read.new.buf within c.in-Ok.ensures.bound.0 in
    record {
      within = search rules;
      read = subst (Consumes _ _) joined (Consumes-trans _ _ _ _ _ c.loop-count.invariant.read c.in-Ok.ensures.bytes.0);
      fine = search rules;
    }
