use Rattle.std.specs.FinSet.{contains}
use Rattle.std.proofs.lemmas.List.{map-append}
use Rattle.rh_ledger.proofs.PhaseLemmas.{set_after-append, tally_of-append}
use Rattle.rh_ledger.proofs.laws.phase_in_parts.Goals as goal

pub returns-clause-set : goal.returns-clause-set
returns-clause-set c S = set_after-append c.args.kind S c.args.first.now c.args.rest.now

pub returns-clause-tally : goal.returns-clause-tally
returns-clause-tally c S = tally_of-append c.args.kind S c.args.first.now c.args.rest.now

pub returns-clause-look_ups : goal.returns-clause-look_ups
returns-clause-look_ups c S = map-append (contains S) c.args.first.now c.args.rest.now
