use Rattle.std.proofs.Common.{◌∙◌, ap, sym}
use Rattle.std.specs.FinSet.{contains}
use Rattle.rh_layout.specs.Layout.{Keys}
use Rattle.rh_combine.specs.Combine.{answer, meant}
use Rattle.rh_combine.proofs.Meaning.{listed, stands_is}
use Rattle.rh_combine.proofs.Rising.{of_rising, rising_increase}
use Rattle.rh_combine.proofs.laws.members.Goals as goal

pub returns-clause-held : goal.returns-clause-held
returns-clause-held c how lists k = stands_is k how lists

pub returns-clause-listed : goal.returns-clause-listed
returns-clause-listed c how lists k =
    sym (listed (answer how lists) k) ∙ ap (λ (S : Keys). contains S k) (of_rising (meant how lists)) ∙ stands_is k how lists

pub returns-clause-rising : goal.returns-clause-rising
returns-clause-rising c how lists = rising_increase (meant how lists)
