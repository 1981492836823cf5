use Rattle.std.proofs.Common.{◌≡◌, ◌≤◌, ◌<◌, ◌++◌, [], ◌∷◌, length, length-append, take, sym, ◌∙◌, rules, arith}
use Rattle.std.proofs.lemmas.List.{length-take, take_all, take-append-le, take_more_set}
use Rattle.rh_numbers.specs.declared.excerpt.TheConstants.{HELD_BYTES}
use Rattle.rh_numbers.proofs.excerpt.Excerpt.push.Goals as goal

pub returns-then-self-lt-HELD_BYTES : goal.returns-then-self-lt-HELD_BYTES
returns-then-self-lt-HELD_BYTES c =
    let e = c.args.self.now in
    let room : e.length < HELD_BYTES = c.if-self-lt-HELD_BYTES.true in
    let size : length e.bytes ≡ HELD_BYTES = search rules in
    let more = take_more_set e.bytes e.length c.args.b (omega (arith, room, size)) in
    let few : length (take e.length e.bytes ++ c.args.b ∷ []) ≤ HELD_BYTES = omega (arith, room, length-append (take e.length e.bytes) (c.args.b ∷ []), length-take e.length e.bytes) in
    more ∙ sym (take_all HELD_BYTES (take e.length e.bytes ++ c.args.b ∷ []) few)

pub returns-else-self-lt-HELD_BYTES : goal.returns-else-self-lt-HELD_BYTES
returns-else-self-lt-HELD_BYTES c =
    let e = c.args.self.now in
    let size : length e.bytes ≡ HELD_BYTES = search rules in
    let within : e.length ≤ HELD_BYTES = e.within in
    let full : length (take e.length e.bytes) ≡ HELD_BYTES = omega (arith, c.if-self-lt-HELD_BYTES.false, within, size, length-take e.length e.bytes) in
    sym (take-append-le HELD_BYTES (take e.length e.bytes) (c.args.b ∷ []) (omega (arith, full)) ∙ take_all HELD_BYTES (take e.length e.bytes) (omega (arith, full)))
