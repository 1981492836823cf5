use Rattle.std.proofs.Common.{◌≡◌, ◌≤◌, ◌<◌, ◌++◌, [], ◌∷◌, length, take, ap, refl, sym, ◌∙◌, append_assoc, rules, arith}
use Rattle.std.proofs.lemmas.Bool.{le-ltb, lt-ltb}
use Rattle.std.proofs.lemmas.Grind.{put_two}
use Rattle.std.proofs.lemmas.List.{length-take, take_all}
use Rattle.std.specs.Fmt.{HasWritten}
use Rattle.std.specs.List.{flat_map}
use Rattle.rh_numbers.specs.declared.excerpt.TheConstants.{HELD_BYTES, SHOWN_BYTES}
use Rattle.rh_numbers.specs.Excerpt.{held_by, shown_byte}
use Rattle.rh_numbers.proofs.Excerpts.{front_shown}
use Rattle.rh_numbers.proofs.excerpt.ExcerptDisplay.fmt.Goals as goal

pub returns-in_ok-write-4-clause-writes : goal.returns-in_ok-write-4-clause-writes
returns-in_ok-write-4-clause-writes g c = λ plain ok.
    let e = c.args.self.now in
    let size : length e.bytes ≡ HELD_BYTES = search rules in
    let many : SHOWN_BYTES < length (held_by e) = omega (arith, c.if-self-gt-SHOWN_BYTES.true, e.within, size, length-take e.length e.bytes) in
    let text = flat_map shown_byte (take SHOWN_BYTES (held_by e)) in
    let front = take c.min-count.result e.bytes in
    let all : take c.loop-b.b-index front ≡ take SHOWN_BYTES (held_by e) =
    take_all c.loop-b.b-index front (search rules) ∙ sym (front_shown SHOWN_BYTES e.length c.min-count.result e.bytes (search rules)) in
    let begun : HasWritten g.W.Write.write_str_gives c.args.f.now (34 ∷ text) c.loop-b.f =
    put_two g.W.Write.write_str_gives c.args.f.now c.write.new.self c.loop-b.f (34 ∷ []) text (34 ∷ text) (search rules) (rw all at (c.loop-b.invariant (search rules))) refl in
    let quoted : HasWritten g.W.Write.write_str_gives c.args.f.now (34 ∷ (text ++ 34 ∷ [])) c.write-2.new.self =
    put_two g.W.Write.write_str_gives c.args.f.now c.loop-b.f c.write-2.new.self (34 ∷ text) (34 ∷ []) (34 ∷ (text ++ 34 ∷ [])) begun (search rules) refl in
    rw (lt-ltb SHOWN_BYTES (length (held_by e)) many)
    (put_two g.W.Write.write_str_gives c.args.f.now c.write-2.new.self c.write-then-self-gt-SHOWN_BYTES.new.self (34 ∷ (text ++ 34 ∷ [])) (46 ∷ 46 ∷ []) _ quoted (search rules) (ap (λ l. 34 ∷ l) (append_assoc text (34 ∷ []) (46 ∷ 46 ∷ []))))

pub returns-else-self-gt-SHOWN_BYTES-clause-writes : goal.returns-else-self-gt-SHOWN_BYTES-clause-writes
returns-else-self-gt-SHOWN_BYTES-clause-writes g c = λ plain ok.
    let e = c.args.self.now in
    let size : length e.bytes ≡ HELD_BYTES = search rules in
    let few : length (held_by e) ≤ SHOWN_BYTES = omega (arith, c.if-self-gt-SHOWN_BYTES.false, size, length-take e.length e.bytes) in
    let text = flat_map shown_byte (take SHOWN_BYTES (held_by e)) in
    let front = take c.min-count.result e.bytes in
    let all : take c.loop-b.b-index front ≡ take SHOWN_BYTES (held_by e) =
    take_all c.loop-b.b-index front (search rules) ∙ sym (front_shown SHOWN_BYTES e.length c.min-count.result e.bytes (search rules)) in
    let begun : HasWritten g.W.Write.write_str_gives c.args.f.now (34 ∷ text) c.loop-b.f =
    put_two g.W.Write.write_str_gives c.args.f.now c.write.new.self c.loop-b.f (34 ∷ []) text (34 ∷ text) (search rules) (rw all at (c.loop-b.invariant (search rules))) refl in
    rw (le-ltb SHOWN_BYTES (length (held_by e)) few)
    (put_two g.W.Write.write_str_gives c.args.f.now c.loop-b.f c.write-2.new.self (34 ∷ text) (34 ∷ []) _ begun (search rules) refl)
