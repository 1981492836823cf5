use Rattle.std.proofs.lemmas.Result.{IfOk-weaker}
use Rattle.rh_combine_workers.proofs.GroupLemmas.{round_bytes, round_count}
use Rattle.rh_combine_workers.proofs.group.round.Goals as goal

pub returns : goal.returns
returns g c =
    let answer = g.Q.Question.answer c.args.question.now in
    let by = c.by_number.ensures in
    let workers = c.args.team.now.workers.count in
    IfOk-weaker c.all_done.result _ _
    (λ v is. record {
      bytes = λ lists are. round_bytes answer by c.args.form c.args.cut.now lists are c.args.first c.args.size workers c.requires.first v.items c.in_ok-tried.tried.items is c.in_ok-tried.ensures.len c.in_ok-tried.ensures.each;
      count = λ lists are. round_count answer by c.args.form c.args.cut.now lists are c.args.first c.args.size workers c.requires.first v.items c.in_ok-tried.tried.items is c.in_ok-tried.ensures.len c.in_ok-tried.ensures.each;
    }) c.all_done.ensures
