use Rattle.std.proofs.Common.{rules, ◌≡◌, ◌<◌, ◌+◌, ◌++◌, ℕ, length, drop, refl, sym, arith, ap, ◌∙◌}
use Rattle.rh_numbers.specs.declared.line_so_far.LineSoFar.TheVariants.{Start}
use Rattle.rh_numbers.specs.Chunks.{last_of, told}
use Rattle.rh_numbers.specs.Reading.{said_from}
use Rattle.rh_numbers.proofs.Chunks.{bad_line, last_of_rest, next_line, read_anywhere, to_the_end}
use Rattle.rh_numbers.proofs.chunk.read_chunk.Goals as goal

pub returns-then-length-rest-clause-read : goal.returns-then-length-rest-clause-read
returns-then-length-rest-clause-read c =
    let keys = c.loop-rest.keys.items in
    let lines = c.loop-rest.lines in
    let rest = c.loop-rest.rest.now in
    read_anywhere _ _ keys lines c.left_open.result
    (λ line more. c.loop-rest.invariant.read line more
    ∙ to_the_end keys (line + lines) c.loop-rest.so_far rest c.walk-said.result.length c.walk-said.ensures.one_line more c.walk-said.result.so_far c.walk-said.ensures.said c.if-length-rest.true
    ∙ c.left_open.ensures.on keys (line + lines) more)
    _ _ _ c.shrunk.ensures.keys c.shrunk.ensures.lines c.shrunk.ensures.end

pub returns-in-Some-clause-read : goal.returns-in-Some-clause-read
returns-in-Some-clause-read c =
    let keys = c.loop-rest.keys.items in
    let later = c.take_line.new.keys.items in
    let lines = c.loop-rest.lines in
    let rest = c.loop-rest.rest.now in
    let n = c.walk-said.result.length in
    let inside : n < length rest = omega arith in
    read_anywhere _ _ later lines _
    (λ line more. c.loop-rest.invariant.read line more
    ∙ bad_line keys (line + lines) c.loop-rest.so_far rest n c.walk-said.ensures.one_line more c.walk-said.result.so_far c.walk-said.ensures.said inside (c.walk-said.ensures.ends inside) later c.in-Some.bad
    (c.in_ok-bad.ensures.said (line + lines) ∙ ap (told later (line + lines)) c.in-Some.is))
    _ _ _ c.shrunk-in-Some.ensures.keys c.shrunk-in-Some.ensures.lines c.shrunk-in-Some.ensures.end

pub loop-rest-preserved : goal.loop-rest-preserved
loop-rest-preserved c =
    let keys = c.loop-rest.keys.items in
    let then = c.take_line.new.keys.items in
    let later = c.take_plain_lines.new.keys.items in
    let lines = c.loop-rest.lines in
    let rest = c.loop-rest.rest.now in
    let behind = c.split_at.result.1.now in
    let others = c.split_at-in-loop-rest.result.1.now in
    let n = c.walk-said.result.length in
    let plain = c.in_ok-plain.plain in
    let inside : n < length rest = omega arith in
    let back : behind ≡ drop (n + 1) rest = c.split_at.ensures.back in
    let after : others ≡ drop plain.length behind = c.split_at-in-loop-rest.ensures.back in
    let shorter : length behind + (n + 1) ≡ length rest = c.split_at.ensures.back_len in
    let shorter_still : length others + plain.length ≡ length behind = c.split_at-in-loop-rest.ensures.back_len in
    let count : (line : ℕ) → line + lines + 1 + plain.count ≡ line + (lines + (1 + plain.count)) = λ line. omega arith in
    record {
      read = λ line more. c.loop-rest.invariant.read line more
          ∙ next_line keys (line + lines) c.loop-rest.so_far rest n c.walk-said.ensures.one_line more c.walk-said.result.so_far c.walk-said.ensures.said inside (c.walk-said.ensures.ends inside) then
          (c.in_ok-bad.ensures.said (line + lines) ∙ ap (told then (line + lines)) c.in_default.is)
          ∙ ap (λ l. said_from then (line + lines + 1) Start (l ++ more)) (sym back)
          ∙ c.in_ok-plain.ensures.read (line + lines + 1) more
          ∙ (λ i. said_from later (count line i) Start (sym after i ++ more));
      in_range = c.take_plain_lines.ensures.in_range (search rules);
      lines = omega (arith, shorter, shorter_still, c.in_ok-plain.ensures.few);
      last = λ some. ap last_of after ∙ last_of_rest behind plain.length (omega (arith, shorter_still)) ∙ ap last_of back ∙ last_of_rest rest (n + 1) (omega (arith, shorter, shorter_still)) ∙ c.loop-rest.invariant.last (omega arith);
      ended = λ none some. refl;
    }
