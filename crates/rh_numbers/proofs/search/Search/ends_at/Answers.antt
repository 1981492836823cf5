use Rattle.std.proofs.Common.{◌≡◌, ◌≤◌, ◌∷◌, length, ap, ◌∙◌, arith}
use Rattle.std.proofs.lemmas.List.{length-take}
use Rattle.rh_numbers.specs.Excerpt.{held_by}
use Rattle.rh_numbers.specs.declared.excerpt.TheConstants.{HELD_BYTES}
use Rattle.rh_numbers.specs.Search.{found_in}
use Rattle.rh_numbers.proofs.Excerpts.{byte_held, ends_here, full_here}
use Rattle.rh_numbers.proofs.search.Search.ends_at.Goals as goal
use Rattle.rh_numbers.proofs.search.Search.ends_at.Goals.{then-b-eq10-2-via-then-b-eq10-2, then-b-eq10-2-via-else-b-eq10-2+then-is_full}

pub returns-then-b-eq10-2-clause-found : goal.returns-then-b-eq10-2-clause-found
returns-then-b-eq10-2-clause-found c = λ ends rest.
    let search = c.args.self.now in
    let line = search.line in
    let none : search.feeds ≡ 0 = omega (arith, c.if-self-gt0.false) in
    let few : length (held_by line) ≤ HELD_BYTES = omega (arith, line.within, length-take line.length line.bytes) in
    ap (λ n. found_in n (held_by line) (c.args.b ∷ rest)) none
    ∙ elim c.then-b-eq10-2.branch [
      | then-b-eq10-2-via-then-b-eq10-2 w ↦ ap (λ b. found_in 0 (held_by line) (b ∷ rest)) w.if-b-eq10-2.true ∙ ends_here (held_by line) rest few
      | then-b-eq10-2-via-else-b-eq10-2+then-is_full w ↦ full_here (held_by line) c.args.b rest (w.is_full.ensures w.if-is_full.true)
    ]

pub returns-clause-going : goal.returns-clause-going
returns-clause-going c = λ going rest.
    let search = c.args.self.now in
    let none : search.feeds ≡ 0 = omega (arith, c.if-self-gt0.false) in
    byte_held search.feeds c.args.b (held_by search.line) (held_by c.push.new.self) rest c.if-b-eq10-2.false none c.push.ensures
