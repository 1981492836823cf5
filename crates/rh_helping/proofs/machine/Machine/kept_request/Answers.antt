use Rattle.std.proofs.Common.{subst}
use Rattle.rh_helping.specs.declared.machine.At.{At}
use Rattle.rh_helping.specs.Machine.{work_at}
use Rattle.rh_helping.specs.Work.{Stands}
use Rattle.rh_helping.proofs.Knowing.{task_desc}
use Rattle.rh_helping.proofs.machine.Machine.kept_request.Goals as goal

pub write_mark_desc-requires : goal.write_mark_desc-requires
write_mark_desc-requires c =
    let stands = subst (λ (a : At). Stands c.args.shape.now c.args.side.now.known.view (work_at a c.args.self.now)) c.in-MarkDesc.is c.requires.stands in
    task_desc _ _ c.requires.knows _ stands.0.goal.task
