use Rattle.std.proofs.Common.{arith}
use Rattle.rh_order.proofs.histories.plain_words.Goals as goal

pub returns : goal.returns
returns c = (λ value. omega arith, λ word h. omega arith)
