use Rattle.rh_lists.proofs.Joining.{one_behind_the_other}
use Rattle.rh_lists.proofs.part.ListPart.then.Goals as goal

pub returns-clause-read : goal.returns-clause-read
returns-clause-read c = λ so_far front back first second.
    one_behind_the_other so_far front back _ c.args.self.lines c.args.self.end first c.in_default.field-0 _ _ c.args.next.lines c.args.next.end c.in_default.is c.in_ok-append.ensures second
