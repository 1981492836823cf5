use Rattle.std.proofs.Common.{take, rules}
use Rattle.rh_bytes.specs.Counting.{inner_of}
use Rattle.rh_checks.proofs.Parts.{text_found}
use Rattle.rh_checks.proofs.text.find_text.Goals as goal

pub returns-then-count-lt-PART_BYTES : goal.returns-then-count-lt-PART_BYTES
returns-then-count-lt-PART_BYTES g c =
    let start = g.R.Read.remaining (inner_of c.args.reader.now) in
    let mid = g.R.Read.remaining (inner_of c.loop.reader) in
    let now = g.R.Read.remaining (inner_of c.fill_front-count.new.reader) in
    let part = take c.fill_front-count.result.count c.fill_front-count.new.buf in
    record {
      known = text_found c.args.begun.now part start mid now c.loop.walk c.read-in-loop-2.new.self c.loop.counter c.in_ok-found.found c.loop.invariant.going c.fill_front-count.ensures.bytes c.in_ok-read-2.ensures.on
          (c.fill_front-count.ensures.end (search rules) (search rules)) c.in_ok-found.ensures;
      silent = search rules;
      counts = search rules;
      long = search rules;
    }
