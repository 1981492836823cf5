use Rattle.std.proofs.Common.{subst}
use Rattle.std.specs.Io.Buffered.{writer_contents}
use Rattle.rh_bytes.specs.Counting.{Writes, inner_of}
use Rattle.rh_bytes.proofs.Writing.{emitted_text}
use Rattle.rh_splitting.specs.Plan.{plan_text}
use Rattle.rh_streams.proofs.EndingLemmas.{ends_with, told_as_tells}
use Rattle.rh_pack_program.proofs.splitting.tell_plan.Goals as goal

pub returns : goal.returns
returns g c =
    let left = inner_of c.write_plan-planned.new.writer in
    ends_with g.W.Write.contents left c.into_inner.result _ _ _
    (subst (λ w. Writes (writer_contents g.W.Write.contents w) (writer_contents g.W.Write.contents left) (plan_text c.args.parts.now) c.write_plan-planned.result) c.new-writer.ensures.inner (emitted_text _ _ _ _ _ c.write_plan-planned.ensures))
    c.into_inner.ensures (told_as_tells _ _ _ c.planning.ensures) c.finish.ensures
