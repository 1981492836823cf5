use Rattle.std.proofs.Common.{◌<◌, length, get_or, sym, subst, arith}
use Rattle.std.proofs.lemmas.List.Elements.{Contains-get_or}
use Rattle.rh_layout.specs.declared.entry.Entry.{Entry}
use Rattle.rh_tagword.specs.Word.{IsValue}
use Rattle.rh_worker.proofs.Plans.{nothing}
use Rattle.rh_worker.proofs.deciding.word_all.Goals as goal

pub plain_word-entry-requires : goal.plain_word-entry-requires
plain_word-entry-requires c =
    let i = c.loop-entry.entry-index in
    let inside : i < length c.args.entries.now = omega (arith, c.loop-entry-test.true, c.loop-entry.invariant.len) in
    subst (λ (x : Entry). IsValue x.old) (sym (c.loop-entry.invariant.kept i nothing (omega arith)))
    (c.requires (get_or c.args.entries.now i nothing) (Contains-get_or c.args.entries.now i nothing inside)).0

pub plain_word-entry-requires-in-loop-entry : goal.plain_word-entry-requires-in-loop-entry
plain_word-entry-requires-in-loop-entry c =
    let i = c.loop-entry.entry-index in
    let inside : i < length c.args.entries.now = omega (arith, c.loop-entry-test.true, c.loop-entry.invariant.len) in
    subst (λ (x : Entry). IsValue x.new) (sym (c.loop-entry.invariant.kept i nothing (omega arith)))
    (c.requires (get_or c.args.entries.now i nothing) (Contains-get_or c.args.entries.now i nothing inside)).1
