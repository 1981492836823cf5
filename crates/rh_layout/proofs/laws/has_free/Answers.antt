use Rattle.rh_layout.proofs.CountLemmas.{count_of_layout, free_from_len, two_from_len}
use Rattle.rh_layout.proofs.laws.has_free.Goals as goal

pub returns-clause-full : goal.returns-clause-full
returns-clause-full c S layout = count_of_layout c.args.cells.now c.args.bits S layout

pub returns-clause-one : goal.returns-clause-one
returns-clause-one c S layout less = free_from_len c.args.cells.now c.args.bits S layout less

pub returns-clause-two : goal.returns-clause-two
returns-clause-two c S layout less = two_from_len c.args.cells.now c.args.bits S layout less
