use Rattle.std.proofs.Common.{ℕ, ◌<◌, take, drop, sym, subst}
use Rattle.atomic_table.specs.Table.{Splits}
use Rattle.rh_words.specs.declared.shape.Shape.{Shape}
use Rattle.rh_rule.specs.Seats.{RuleHolds, NoSlot}
use Rattle.rh_rule.proofs.SeatsKept.{views_split}
use Rattle.rh_shared.proofs.Crews.{some_words}
use Rattle.rh_shared.proofs.seats.cut.Goals as goal

pub split_seat-requires : goal.split_seat-requires
split_seat-requires g c =
    let t = c.args.table.now in
    let q = c.args.seat.now in
    let n = g.B.Point.at in (
      c.requires,
      subst (λ (m : ℕ). 0 < m) (sym t.sized) (some_words t.shape),
      subst (λ (z : Shape). Splits {S = NoSlot} (RuleHolds z) q.id q.me.0 (take n q.me.0) (drop n q.me.0)) (sym t.same) (views_split t.shape q.id n q.me.0),
    )
