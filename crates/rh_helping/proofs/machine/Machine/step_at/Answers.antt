use Rattle.std.proofs.Common.{◌≡◌, ◌∙◌, Some, rules, subst, sym}
use Rattle.rh_helping.specs.declared.machine.At.{At}
use Rattle.rh_helping.specs.Goal.{opened_by}
use Rattle.rh_helping.specs.Machine.{led, work_at}
use Rattle.rh_helping.specs.Stepping.{HasGoneOn}
use Rattle.rh_helping.proofs.machine.Machine.step_at.Goals as goal

pub returns-clause-goes : goal.returns-clause-goes
returns-clause-goes g c =
    let n = c.make.new in
    let stands : c.args.self.now.at ≡ c.args.at = search rules in
    subst
    (λ (a : At). HasGoneOn g.T.Steps.shows g.T.Steps.made c.args.shape.now (opened_by (Some c.args.own)) (work_at a c.args.self.now) c.args.table.now c.args.side.now.known.view (led c.make.result n.self) n.table n.side.known.view)
    (sym (stands ∙ c.requires.stage)) c.make.ensures
