use Rattle.std.proofs.Common.{◌∙◌, ap, sym, rules}
use Rattle.rh_play_text.specs.Grammar.{numbers_after}
use Rattle.rh_play_text.proofs.Numerals.{no_more, one_more, one_refused}
use Rattle.rh_play_text.proofs.numbers.numbers.Goals as goal

pub returns-in_err-n : goal.returns-in_err-n
returns-in_err-n c =
    let refused =
    c.loop-word.invariant.1 ∙ ap (numbers_after c.loop-word.found.items) c.in-Some.ensures
    ∙ one_refused c.loop-word.found.items c.in_err-n.field-0.0 c.in-Some.word.now _ (sym c.in_err-n.was ∙ c.number.ensures) in
    rw refused (search rules)

pub loop-word-preserved : goal.loop-word-preserved
loop-word-preserved c = (
  search rules,
  c.loop-word.invariant.1 ∙ ap (numbers_after c.loop-word.found.items) c.in-Some.ensures
      ∙ one_more c.loop-word.found.items c.push.new.self.items c.in_ok-n.n c.in-Some.word.now _ (sym c.in_ok-n.was ∙ c.number.ensures) c.in_ok-push.ensures.items,
)

pub returns : goal.returns
returns c =
    c.loop-word.invariant.1 ∙ ap (numbers_after c.loop-word.found.items) c.in_default.ensures ∙ no_more c.loop-word.found.items
