use Rattle.std.proofs.Common.{ℕ, ap, ◌∙◌, sym, subst}
use Rattle.rh_words.specs.View.{new_view}
use Rattle.rh_rule.specs.Seats.{Spans}
use Rattle.rh_shared.specs.Crews.{IsFresh}
use Rattle.rh_shared.proofs.Crews.{fresh_rows, half_alone}
use Rattle.rh_shared.proofs.Made.{made_half, made_head, opens}
use Rattle.rh_shared.proofs.ends.make.Goals as goal

pub of_words-requires : goal.of_words-requires
of_words-requires c =
    opens c.args.shape c.args.cells.now c.in_ok-words.words.items c.deref-2.result.now c.of.result.value.items c.words-room.result c.in_ok-words.words.len c.requires.sized c.in_ok-words.ensures
    c.words-room.ensures c.in_ok-words.words.ok.0 (c.deref-2.ensures.value ∙ c.in_ok-resize.ensures.items) (ap (λ v. v.items) c.of.ensures)

pub invariant_of-result-2 : goal.invariant_of-result-2
invariant_of-result-2 c =
    let z = c.args.shape in
    let plain = c.of.result.value.items in
    let me = c.in_ok-inner.ensures.4 in
    let half = made_half z plain c.in_ok-inner.seat.me.0 (ap (λ x. x.0) me) in
    let is = c.new-side.ensures.known ∙ ap (λ ws. new_view ws 0) (c.deref.ensures.value ∙ sym (ap (λ v. v.items) c.of.ensures)) ∙ made_head z plain c.in_ok-inner.seat.me.0 (ap (λ x. x.0) me) in record {
      some = z.some_worker;
      spans = subst (λ (w : ℕ). Spans c.in_ok-inner.seat.me.0 w z.workers) (sym c.new-side.ensures.worker) half.spans;
      empty = ap (λ x. x.1) me;
      alone = λ one. λ i. (half_alone IsFresh _ _ _ half c.new-side.result.known.view is one i, ap (λ x. x.1) me i);
    }

pub returns-clause-fresh : goal.returns-clause-fresh
returns-clause-fresh c = (made_half c.args.shape c.of.result.value.items c.in_ok-inner.seat.me.0 (ap (λ x. x.0) c.in_ok-inner.ensures.4)).each

pub returns-clause-rows : goal.returns-clause-rows
returns-clause-rows c = fresh_rows c.args.shape _ (made_half c.args.shape c.of.result.value.items c.in_ok-inner.seat.me.0 (ap (λ x. x.0) c.in_ok-inner.ensures.4)).each
