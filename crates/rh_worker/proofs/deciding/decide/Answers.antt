use Rattle.std.proofs.Common.{subst, sym}
use Rattle.rh_ledger.specs.declared.tally.Kind.{Kind}
use Rattle.rh_worker.specs.Deciding.{Decides}
use Rattle.rh_worker.proofs.deciding.decide.Goals as goal

pub returns-in-Ask : goal.returns-in-Ask
returns-in-Ask c =
    let entries = c.args.entries.now in
    subst (λ (kind : Kind). Decides kind c.args.bits c.args.key c.args.seen.now entries c.answer.result) (sym c.in-Ask.is) (c.answer.ensures entries)
