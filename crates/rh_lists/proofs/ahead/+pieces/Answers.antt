use Rattle.std.proofs.Common.{rules, sym}
use Rattle.rh_lists.proofs.Joining.{both_read}
use Rattle.rh_lists.proofs.ahead.+pieces.Goals as goal

pub returns-clause-part : goal.returns-clause-part
returns-clause-part g t c =
    let front = c.split_at.result.0.now in
    let back = c.split_at.result.1.now in
    both_read c.args.so_far c.args.block.now front back c.in-Some.at c.in-Ok-Ok.before c.in-Ok-Ok.behind c.then.result c.split_at.ensures.front c.split_at.ensures.back (sym c.split_at.ensures.by_index.0)
    c.in-Some.ensures.0 c.in-Some.ensures.1 c.in-Some.ensures.2
    (search rules) (search rules)
    c.then.ensures.read c.then.ensures.lines c.then.ensures.whole
