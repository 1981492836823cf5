use Rattle.std.proofs.Common.{◌≡◌, ◌≤◌, ◌<◌, take, drop, length, ap, sym, subst, ◌∙◌, rules, arith}
use Rattle.std.specs.Io.KnownBytes.{Consumes}
use Rattle.std.proofs.lemmas.List.{take_all, take_at, with_items_is}
use Rattle.std.proofs.lemmas.Result.{IfOk-at_ok, err_from_is_err_and}
use Rattle.rh_bytes.specs.Counting.{inner_of}
use Rattle.rh_lists.specs.Parts.{IsPartOf, IsReadTo, end_of_part}
use Rattle.rh_lists.proofs.Texts.{block_refused, going_on, last_read, last_tested, not_failed, taken_on}
use Rattle.rh_lists.proofs.text.read_blocks.Goals as goal

pub returns-in_err-text-clause-read : goal.returns-in_err-text-clause-read
returns-in_err-text-clause-read g c = λ before read.
    let p = err_from_is_err_and c.from_residual.result c.from_residual.ensures.1 in
    let text = c.loop-passed.text in
    let block = c.loop-passed.block.items in
    let part = c.in-Ok-part.part in
    let second = IfOk-at_ok (IsPartOf c.so_far.result c.deref.result.now) c.in-Ok-part.is c.read_ahead-part.ensures.part in
    let here : IsReadTo (end_of_part text) block part = subst (λ s. IsReadTo s block part) c.so_far.ensures (subst (λ l. IsReadTo c.so_far.result l part) c.deref.ensures.value second.read) in
    rw (p.1, p.2) (record {
      known = block_refused _ _ _ _ block text c.in_err-text.field-0.0 (c.loop-passed.invariant.going before read) (λ b rest r. c.in_err-text.ensures.read b block rest r here);
      tested = search rules;
      counts = search rules;
      long = search rules;
    })

pub returns-then-count-len-clause-read : goal.returns-then-count-len-clause-read
returns-then-count-len-clause-read g c = λ before read.
    let mid = g.R.Read.remaining (inner_of c.loop-passed.reader) in
    let now = g.R.Read.remaining (inner_of c.read_ahead-part.new.reader) in
    let text = c.loop-passed.text in
    let block = c.loop-passed.block.items in
    let part = c.in-Ok-part.part in
    let filled = c.read_ahead-part.result.1 in
    let next = c.read_ahead-part.new.next in
    let second = IfOk-at_ok (IsPartOf c.so_far.result c.deref.result.now) c.in-Ok-part.is c.read_ahead-part.ensures.part in
    let here : IsReadTo (end_of_part text) block part = subst (λ s. IsReadTo s block part) c.so_far.ensures (subst (λ l. IsReadTo c.so_far.result l part) c.deref.ensures.value second.read) in
    let len : length next ≡ c.lengthen.new.block.len = search rules in
    let short : filled.count < length next = search rules in
    let same : c.deref-then-count-len.result.now ≡ next = c.deref-then-count-len.ensures.value ∙ take_at next (drop (length next) c.lengthen.new.block.items) c.lengthen.new.block.len len in
    let last = take filled.count c.deref-then-count-len.result.now in
    let comes : Consumes mid now last = subst (λ l. Consumes mid now (take filled.count l)) (sym same) c.read_ahead-part.ensures.filled.bytes in
    let going = c.loop-passed.invariant.going before read in
    record {
      known = last_read _ _ mid now block last text c.in_ok-text.text filled.failed c.last_block.result going comes (λ fine. c.read_ahead-part.ensures.filled.end fine short)
          (λ b r. c.in_ok-text.ensures.read b block r here) c.last_block.ensures.told c.last_block.ensures.fine;
      tested = λ failed. last_tested _ _ mid now block last text c.in_ok-text.text going comes (λ b r. c.in_ok-text.ensures.read b block r here) (c.last_block.ensures.tested failed);
      counts = search rules;
      long = search rules;
    }

pub loop-passed-preserved : goal.loop-passed-preserved
loop-passed-preserved g c =
    let mid = g.R.Read.remaining (inner_of c.loop-passed.reader) in
    let now = g.R.Read.remaining (inner_of c.read_ahead-part.new.reader) in
    let text = c.loop-passed.text in
    let block = c.loop-passed.block.items in
    let part = c.in-Ok-part.part in
    let filled = c.read_ahead-part.result.1 in
    let next = c.read_ahead-part.new.next in
    let read = IfOk-at_ok (IsPartOf c.so_far.result c.deref.result.now) c.in-Ok-part.is c.read_ahead-part.ensures.part in
    let here : IsReadTo (end_of_part text) block part = subst (λ s. IsReadTo s block part) c.so_far.ensures (subst (λ l. IsReadTo c.so_far.result l part) c.deref.ensures.value read.read) in
    let len : length next ≡ c.lengthen.new.block.len = search rules in
    let size : c.len-in-loop-passed-2.result ≡ length next = search rules in
    let full : length next ≤ filled.count = search rules in
    let all : take filled.count next ≡ next = take_all filled.count next full in
    let long : length next ≡ length c.lengthen.new.block.items = search rules in
    let same : c.swap.new.x.items ≡ next = ap (λ v. v.items) c.swap.ensures.x_after ∙ with_items_is c.lengthen.new.block next len in
    let comes : Consumes mid now c.swap.new.x.items = subst (Consumes mid now) (all ∙ sym same) c.read_ahead-part.ensures.filled.bytes in
    record {
      going = λ before begun. going_on _ _ mid now block c.swap.new.x.items text c.in_ok-text.text (c.loop-passed.invariant.going before begun) comes (λ b r. c.in_ok-text.ensures.read b block r here);
      lines = omega (arith, c.in_ok-text.ensures.lines, c.loop-passed.invariant.lines, read.lines, ap length c.deref.ensures.value, ap length same, size);
      some = omega (arith, ap length same, long, c.in-Ok.ensures.long, c.behind.ensures.some);
      size = omega (arith, ap length same, long, c.in-Ok.ensures.long, c.behind.ensures.few, c.requires.most.1, c.loop-passed.invariant.room);
      room = omega (arith, ap (λ v. length v.items) c.swap.ensures.y_after, c.loop-passed.invariant.size);
      taken = taken_on _ mid now _ c.swap.new.x.items c.loop-passed.invariant.taken comes _ (ap length same ∙ sym size);
      fine = c.read_ahead-part.ensures.filled.fine (not_failed filled.failed filled.count (length next) c.read_ahead-part.ensures.filled.early full) ∙ c.loop-passed.invariant.fine;
    }
