use Rattle.std.proofs.Common.{Bool, subst, sym}
use Rattle.rh_helping.specs.declared.looking.Watch.{Watch}
use Rattle.rh_helping.specs.Looking.{IsLooking}
use Rattle.rh_helping.specs.Machine.{left_on, looking_of, settling_of}
use Rattle.rh_helping.specs.Next.Looked.{On}
use Rattle.rh_helping.specs.Next.{Looking as looking}
use Rattle.rh_helping.specs.Settling.{LeadsOn}
use Rattle.rh_helping.specs.Stepping.{HasLooked}
use Rattle.rh_helping.proofs.Growing.{clear_grows}
use Rattle.rh_helping.proofs.machine.Machine.look.Goals as goal

pub returns-then-step : goal.returns-then-step
returns-then-step g c =
    let h = subst (λ (l : Watch). IsLooking c.args.shape.now c.args.side.now.known.view (looking_of l c.args.self.now)) c.in-Settle.is c.requires.looking in
    let on = subst (λ (b : Bool). LeadsOn c.args.side.now.known.view c.step.new.side.known.view (settling_of c.args.self.now.settling) (left_on b c.step.new.self)) c.if-step.true c.step.ensures.leads in
    subst (λ (l : Watch). HasLooked g.T.Steps.shows g.T.Steps.made c.args.shape.now c.args.cell (looking_of l c.args.self.now) c.args.table.now c.args.side.now.known.view (On (looking.Settle (settling_of c.step.new.self))) c.step.new.table c.step.new.side.known.view) (sym c.in-Settle.is)
    record { made = c.step.ensures.made; leads = (clear_grows _ _ c.step.ensures.grows h.0, on); ends = λ is. cc }

pub returns-else-step : goal.returns-else-step
returns-else-step g c =
    let h = subst (λ (l : Watch). IsLooking c.args.shape.now c.args.side.now.known.view (looking_of l c.args.self.now)) c.in-Settle.is c.requires.looking in
    let left = subst (λ (b : Bool). LeadsOn c.args.side.now.known.view c.step.new.side.known.view (settling_of c.args.self.now.settling) (left_on b c.step.new.self)) c.if-step.false c.step.ensures.leads in
    subst (λ (l : Watch). HasLooked g.T.Steps.shows g.T.Steps.made c.args.shape.now c.args.cell (looking_of l c.args.self.now) c.args.table.now c.args.side.now.known.view (On looking.Read) c.step.new.table c.step.new.side.known.view) (sym c.in-Settle.is)
    record { made = c.step.ensures.made; leads = clear_grows _ _ c.step.ensures.grows h.0; ends = λ is. left }
