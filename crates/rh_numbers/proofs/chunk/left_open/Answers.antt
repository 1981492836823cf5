use Rattle.std.proofs.Common.{◌∙◌, ap}
use Rattle.rh_numbers.specs.Reading.{said_from}
use Rattle.rh_numbers.proofs.Head.{other_stays}
use Rattle.rh_numbers.proofs.chunk.left_open.Goals as goal

pub returns-in-Other-clause-on : goal.returns-in-Other-clause-on
returns-in-Other-clause-on c = λ keys line rest. ap (λ s. said_from keys line s rest) c.in-Other.is ∙ other_stays keys line rest
