use Rattle.std.proofs.Common.{◌≡◌, ◌∙◌, ◌+◌, ap, arith, subst}
use Rattle.std.specs.Prelude.{IfOk}
use Rattle.rh_combine_workers.specs.Groups.{IsGroup, group_edge, parts_of}
use Rattle.rh_combine_workers.proofs.group.group_at.Goals as goal

pub returns : goal.returns
returns g c = record {
  is = λ lists are.
      let cut = c.args.cut.now in
      let parts : c.parts-parts.result ≡ parts_of cut = omega (arith, c.parts-parts.ensures) in
      let from : c.edge-from.result ≡ group_edge c.args.first c.args.number c.args.size (parts_of cut) = c.edge-from.ensures ∙ ap (group_edge c.args.first c.args.number c.args.size) parts in
      let to : c.edge-to.result ≡ group_edge c.args.first (c.args.number + 1) c.args.size (parts_of cut) = c.edge-to.ensures ∙ ap (group_edge c.args.first (c.args.number + 1) c.args.size) parts in
      subst (λ q. IfOk c.group_of.result (IsGroup (g.Q.Question.answer c.args.question.now) c.args.form cut.borders.values.items (group_edge c.args.first c.args.number c.args.size (parts_of cut)) q lists)) to
      (subst (λ p. IfOk c.group_of.result (IsGroup (g.Q.Question.answer c.args.question.now) c.args.form cut.borders.values.items p c.edge-to.result lists)) from (c.group_of.ensures lists are));
}
