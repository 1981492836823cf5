use Rattle.std.proofs.Common.{rules}
use Rattle.rh_worker.proofs.worker.Worker.step.Goals as goal

pub returns-in-Scan-clause-anew : goal.returns-in-Scan-clause-anew
returns-in-Scan-clause-anew g c before h = c.scan-done.ensures.anew before (search rules)
