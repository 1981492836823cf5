use Rattle.std.proofs.Common.{ℕ, ◌+◌, ◌<◌, ◌++◌, [], ap, ◌∙◌, sym, subst, arith}
use Rattle.atomic_table.specs.Table.{Joins}
use Rattle.rh_words.specs.declared.shape.Shape.{Shape}
use Rattle.rh_rule.specs.Seats.{RuleHolds, NoSlot, Spans}
use Rattle.rh_rule.proofs.SeatsKept.{views_join}
use Rattle.rh_shared.proofs.Crews.{some_words, spans_append}
use Rattle.rh_shared.proofs.seats.join.Goals as goal

pub join_seat-requires : goal.join_seat-requires
join_seat-requires c =
    let t = c.args.table.now in
    let q = c.args.seat.now in
    let o = c.args.other in (
      c.requires.here.own,
      c.requires.other.own,
      o.empty,
      subst (λ (m : ℕ). 0 < m) (sym t.sized) (some_words t.shape),
      subst (λ (z : Shape). Joins {S = NoSlot} (RuleHolds z) q.inner.id q.inner.me.0 o.inner.id o.inner.me.0 (q.inner.me.0 ++ o.inner.me.0) []) (sym t.same) (views_join t.shape q.inner.id q.inner.me.0 o.inner.id o.inner.me.0),
    )

pub invariant_of-seat : goal.invariant_of-seat
invariant_of-seat c =
    let q = c.args.seat.now in
    let o = c.args.other in
    let me = c.join_seat.ensures.2 in record {
      some = omega (arith, q.some);
      spans = subst (λ x. Spans x.0 c.unused_side.result.worker (q.count + o.count)) (sym me)
          (subst (λ (w : ℕ). Spans (q.inner.me.0 ++ o.inner.me.0) w (q.count + o.count)) (sym c.unused_side.ensures)
          (spans_append q.inner.me.0 o.inner.me.0 q.side.worker q.count o.side.worker o.count c.requires.follows q.spans o.spans));
      empty = ap (λ x. x.1) me ∙ q.empty;
      alone = λ one. absurd (let a = q.some in let b = o.some in omega arith);
    }
