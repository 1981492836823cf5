use Rattle.std.proofs.Common.{◌++◌, ◌∷◌, suc, get_or, drop, ap, ◌∙◌, rules}
use Rattle.rh_numbers.specs.Search.{found_by}
use Rattle.rh_numbers.proofs.Parts.{at_place}
use Rattle.rh_numbers.proofs.search.Search.ends_in.Goals as goal

pub returns-then-ends_at-clause-found : goal.returns-then-ends_at-clause-found
returns-then-ends_at-clause-found c = λ ends rest.
    let i = c.loop-b.b-index in
    let bytes = c.args.bytes.now in
    ap (found_by c.args.self.now) (at_place bytes rest i (search rules))
    ∙ c.loop-b.invariant (get_or bytes i 0 ∷ (drop (suc i) bytes ++ rest))
    ∙ c.ends_at.ensures.found (search rules) (drop (suc i) bytes ++ rest)
