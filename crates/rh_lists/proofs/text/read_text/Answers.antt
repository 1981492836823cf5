use Rattle.std.proofs.Common.{◌≡◌, take, drop, length, sym, subst, ◌∙◌, rules, arith}
use Rattle.std.specs.Io.KnownBytes.{Consumes}
use Rattle.std.proofs.lemmas.List.{take_all, take_at}
use Rattle.rh_bytes.specs.Counting.{inner_of}
use Rattle.rh_numbers.specs.declared.limits.TheConstants.{MAX_BYTES}
use Rattle.rh_lists.proofs.Texts.{block_first, first_tested, has_more, only_read, only_tested}
use Rattle.rh_lists.proofs.text.read_text.Goals as goal

pub returns-then-count-min : goal.returns-then-count-min
returns-then-count-min g c =
    let start = g.R.Read.remaining (inner_of c.args.reader.now) in
    let now = g.R.Read.remaining (inner_of c.fill_front-count.new.reader) in
    let n = c.fill_front-count.result.count in
    let buf = c.fill_front-count.new.buf in
    let first = c.begin.new.self.block in
    let len : length buf ≡ first.len = search rules in
    let same : c.deref.result.now ≡ buf = c.deref.ensures.value ∙ take_at buf (drop (length buf) first.items) first.len len in
    let comes : Consumes start now (take n c.deref.result.now) = subst (λ l. Consumes start now (take n l)) (sym same) c.fill_front-count.ensures.bytes in
    record {
      known = only_read c.args.begun.now start now (take n c.deref.result.now) c.in-Ok.front c.fill_front-count.result.failed c.last_block.result c.in-Ok.ensures.read comes
          (λ fine. c.fill_front-count.ensures.end fine (search rules)) c.last_block.ensures.told c.last_block.ensures.fine;
      tested = λ failed. only_tested c.args.begun.now start now (take n c.deref.result.now) c.in-Ok.front c.in-Ok.ensures.read comes (c.last_block.ensures.tested failed);
      counts = search rules;
      long = search rules;
    }

pub returns-then-count-len : goal.returns-then-count-len
returns-then-count-len g c =
    let start = g.R.Read.remaining (inner_of c.args.reader.now) in
    let now = g.R.Read.remaining (inner_of c.fill_front-count.new.reader) in
    let n = c.fill_front-count.result.count in
    let buf = c.fill_front-count.new.buf in
    let first = c.begin.new.self.block in
    let len : length buf ≡ first.len = search rules in
    let last = c.deref-then-count-len.result.now in
    let same : last ≡ buf = c.deref-then-count-len.ensures.value ∙ take_at buf (drop (length buf) first.items) first.len len in
    let comes : Consumes start now (take n last) = subst (λ l. Consumes start now (take n l)) (sym same) c.fill_front-count.ensures.bytes in
    record {
      known = only_read c.args.begun.now start now (take n last) c.in-Ok.front c.fill_front-count.result.failed c.last_block-then-count-len.result c.in-Ok.ensures.read comes
          (λ fine. c.fill_front-count.ensures.end fine (search rules)) c.last_block-then-count-len.ensures.told c.last_block-then-count-len.ensures.fine;
      tested = λ failed. only_tested c.args.begun.now start now (take n last) c.in-Ok.front c.in-Ok.ensures.read comes (c.last_block-then-count-len.ensures.tested failed);
      counts = search rules;
      long = search rules;
    }

pub returns : goal.returns
returns g c =
    let start = g.R.Read.remaining (inner_of c.args.reader.now) in
    let now = g.R.Read.remaining (inner_of c.fill_front-count.new.reader) in
    let n = c.fill_front-count.result.count in
    let buf = c.fill_front-count.new.buf in
    let first = c.begin.new.self.block in
    let len : length buf ≡ first.len = search rules in
    let size : c.len-2.result ≡ length buf = search rules in
    let all : take n buf ≡ buf = take_all n buf (omega (arith, size)) in
    let same : take first.len _ ≡ buf = take_at buf (drop (length buf) first.items) first.len len in
    let comes = subst (Consumes start now) (all ∙ sym same) c.fill_front-count.ensures.bytes in
    let rest = c.read_blocks.ensures.read c.args.begun.now c.in-Ok.ensures.read in
    record {
      known = block_first c.args.begun.now start now _ _ c.read_blocks.result comes rest.known;
      tested = λ failed. first_tested c.args.begun.now start now _ _ comes (rest.tested failed);
      counts = search rules;
      long = λ is. has_more MAX_BYTES start now _ comes (rest.long is);
    }
