-- A seat that stays the same from step to step.
use Rattle.std.proofs.Common.{◌≡◌, refl, ◌∙◌}
use Rattle.rh_shared.specs.declared.on_table.OnTable.{OnTable}
use Rattle.rh_shared.specs.Sits.{Stays}

-- where it has the view that it had, it is what it was
pub unchanged : (t then : OnTable) → Stays t then → then.seat.now.me ≡ t.seat.now.me → then ≡ t
unchanged t then s me =
    let same : then.seat ≡ t.seat = s.lent ∙ (λ i. record t.seat { now = record { marker = t.seat.now.marker; table_id = s.seat i; id = s.id i; me = me i } }) in
    λ i. record { table = s.table i; seat = same i }

pub stays_first : (t : OnTable) → Stays t t
stays_first t = record { table = refl; seat = refl; id = refl; lent = refl }

pub stays_on : (s t u : OnTable) → Stays s t → Stays t u → Stays s u
stays_on s t u a b =
    let seat = u.seat.now in
    let lent : record t.seat { now = seat } ≡ record s.seat { now = seat } = λ i. record (a.lent i) { now = seat } in record {
      table = b.table ∙ a.table;
      seat = b.seat ∙ a.seat;
      id = b.id ∙ a.id;
      lent = b.lent ∙ lent;
    }
