use Rattle.std.proofs.Common.{◌∙◌, ◌+◌, ap, slice_index, subst, sym, length}
use Rattle.std.specs.Prelude.{map}
use Rattle.rh_layout.specs.Range.{stands}
use Rattle.rh_combine_workers.proofs.part.of_part.Goals as goal

pub ask-requires-clause-takes : goal.ask-requires-clause-takes
ask-requires-clause-takes g c =
    subst (g.Q.Question.takes c.args.question.now)
    (sym (ap length c.deref-2.ensures.value ∙ c.in_ok-slices.ensures.many ∙ ap length c.deref.ensures.value ∙ c.in_ok-mine.ensures.many)) c.requires.takes

pub ask-requires-clause-keys : goal.ask-requires-clause-keys
ask-requires-clause-keys g c = rw c.deref-2.ensures.value c.in_ok-slices.ensures.keys

pub returns : goal.returns
returns g c lists are =
    let answer = g.Q.Question.answer c.args.question.now in
    let by = g.met.Q.Question.by_number c.args.question.now in
    let borders = c.args.cut.now.borders.values.items in
    c.in_ok-found.ensures ∙ ap answer (ap (map (λ l. l.now)) c.deref-2.ensures.value ∙ c.in_ok-slices.ensures.same
    ∙ ap (map (λ l. l.items)) c.deref.ensures.value ∙ c.in_ok-mine.ensures.each lists are)
    ∙ by.of_part (stands (slice_index borders c.args.part) (slice_index borders (c.args.part + 1))) lists
