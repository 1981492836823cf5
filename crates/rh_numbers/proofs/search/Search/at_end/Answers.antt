use Rattle.std.proofs.Common.{◌≡◌, ◌≤◌, [], length, ap, ◌∙◌, arith}
use Rattle.std.proofs.lemmas.List.{length-take}
use Rattle.rh_numbers.specs.Excerpt.{held_by}
use Rattle.rh_numbers.specs.declared.excerpt.TheConstants.{HELD_BYTES}
use Rattle.rh_numbers.specs.Search.{found_in}
use Rattle.rh_numbers.proofs.Excerpts.{ends_with_text}
use Rattle.rh_numbers.proofs.search.Search.at_end.Goals as goal

pub returns-clause-found : goal.returns-clause-found
returns-clause-found c =
    let line = c.args.self.line in
    let none : c.args.self.feeds ≡ 0 = omega (arith, c.if-self-gt0.false) in
    let few : length (held_by line) ≤ HELD_BYTES = omega (arith, line.within, length-take line.length line.bytes) in
    (c.without_return.ensures, ap (λ n. found_in n (held_by line) []) none ∙ ends_with_text (held_by line) few)
