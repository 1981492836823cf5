use Rattle.std.proofs.Common.{arith}
use Rattle.rh_combine_workers.specs.Groups.{group_edge, parts_of}
use Rattle.rh_combine_workers.proofs.GroupLemmas.{no_round}
use Rattle.rh_combine_workers.proofs.writing.write_beside.Goals as goal

pub returns-then-next-parts-clause-next : goal.returns-then-next-parts-clause-next
returns-then-next-parts-clause-next g c =
    let cut = c.args.cut.now in
    rw c.new.ensures.items
    (no_round (g.Q.Question.answer c.args.question.now) c.args.form cut c.args.next (group_edge c.args.next c.args.team.now.workers.count c.args.size (parts_of cut)) (omega (arith, c.parts.ensures, c.if-next-parts.true)))
