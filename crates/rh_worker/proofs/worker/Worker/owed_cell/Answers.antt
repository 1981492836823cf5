use Rattle.std.proofs.Common.{subst, sym}
use Rattle.rh_helping.specs.Held.{IsHeld}
use Rattle.rh_helping.specs.Machine.{looking_of, work_of}
use Rattle.rh_helping.proofs.HeldCells.{looking_held, work_held}
use Rattle.rh_worker.specs.Worker.{Stays}
use Rattle.rh_worker.specs.declared.stage.KeyStage.{KeyStage}
use Rattle.rh_worker.proofs.worker.Worker.owed_cell.Goals as goal

pub returns-in-Scan : goal.returns-in-Scan
returns-in-Scan c z worker =
    let w = c.args.self.now in
    let v = w.side.known.view in
    let stays = subst (λ (p : KeyStage). Stays z v w.kind w.key w.buffer w.machine p) c.in-Scan.is worker.stays in
    subst (IsHeld v) (sym c.held_as.ensures) (looking_held z v (looking_of c.in-Scan.watch w.machine) stays.0)

pub returns-in-Swap : goal.returns-in-Swap
returns-in-Swap c z worker =
    let w = c.args.self.now in
    let v = w.side.known.view in
    let stays = subst (λ (p : KeyStage). Stays z v w.kind w.key w.buffer w.machine p) c.in-Swap.is worker.stays in
    subst (IsHeld v) (sym c.owed_cell.ensures) (work_held z v (work_of w.machine) stays.1)
