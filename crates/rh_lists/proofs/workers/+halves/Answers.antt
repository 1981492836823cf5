use Rattle.std.proofs.Common.{sym}
use Rattle.std.proofs.lemmas.Result.{IfOk-at_ok}
use Rattle.rh_numbers.specs.declared.line_so_far.LineSoFar.TheVariants.{Start}
use Rattle.rh_lists.specs.Parts.{IsPartOf}
use Rattle.rh_lists.proofs.Joining.{both_read}
use Rattle.rh_lists.proofs.workers.+halves.Goals as goal

pub returns : goal.returns
returns g t c =
    let front = c.split_at.result.0.now in
    let back = c.split_at.result.1.now in
    let at = c.in-Some-line_from.at in
    both_read c.args.so_far c.args.bytes.now front back at c.in_ok-before.before c.in_ok-behind.behind c.then.result c.split_at.ensures.front c.split_at.ensures.back (sym c.split_at.ensures.by_index.0)
    c.in-Some-line_from.ensures.0 c.in-Some-line_from.ensures.1 c.in-Some-line_from.ensures.2
    (IfOk-at_ok (IsPartOf c.args.so_far front) c.in_ok-before.was c.both-before.ensures.first) (IfOk-at_ok (IsPartOf Start back) c.in_ok-behind.was c.both-before.ensures.second)
    c.then.ensures.read c.then.ensures.lines c.then.ensures.whole
