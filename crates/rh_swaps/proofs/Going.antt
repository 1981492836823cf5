-- A worker that goes on with its own open descriptor, from step to step.
use Rattle.std.proofs.Common.{◌≡◌, Some, Bool, true, false, refl, sym, subst}
use Rattle.rh_words.specs.declared.shape.Shape.{Shape}
use Rattle.rh_words.specs.declared.side.Side.{Side}
use Rattle.rh_words.specs.View.{OwnDesc, View}
use Rattle.rh_helping.specs.declared.machine.Ended.{Ended}
use Rattle.rh_helping.specs.declared.machine.Machine.{Machine}
use Rattle.rh_helping.specs.Machine.{work_of}
use Rattle.rh_helping.specs.Next.{Work}
use Rattle.rh_helping.specs.Next.StageOutcome.{On}
use Rattle.rh_helping.specs.Stepping.{HasGoneOn, MayGoOn}
use Rattle.rh_shared.specs.Sits.{Sits, SeatSteps}
use Rattle.rh_shared.specs.declared.on_table.OnTable.{OnTable}
use Rattle.rh_shared.proofs.Lending.{stays_first, stays_on}
use Rattle.rh_swaps.specs.Swaps.{GoesOn, HasCarriedOut}
use Rattle.rh_swaps.proofs.Noting.{made_notes, noted_first, noted_on}

pub goes_first : {z : Shape} {own : OwnDesc} {w : Work} {t : OnTable} {v : View} → MayGoOn Sits Sits z (Some own) w t v → GoesOn z own t v w t v
goes_first {z} {own} {w} {t} {v} may = record { may = may; stays = stays_first t; noted = noted_first v }

-- where nothing was done
pub goes_same : {z : Shape} {own : OwnDesc} {m n : Machine} {t then : OnTable} {s r : Side} → n ≡ m → then ≡ t → r ≡ s → MayGoOn Sits Sits z (Some own) (work_of m) t s.known.view
    → GoesOn z own t s.known.view (work_of n) then r.known.view
goes_same {z} {own} {m} {n} {t} {then} {s} {r} machine table side may =
    subst (λ (r : Side). GoesOn z own t s.known.view (work_of n) then r.known.view) (sym side)
    (subst (λ (u : OnTable). GoesOn z own t s.known.view (work_of n) u s.known.view) (sym table)
    (subst (λ (n : Machine). GoesOn z own t s.known.view (work_of n) t s.known.view) (sym machine) (goes_first may)))

-- and then more
pub goes_then : {z : Shape} {own : OwnDesc} {x y : Work} {t u then : OnTable} {v w next : View} → GoesOn z own t v x u w → GoesOn z own u w y then next → GoesOn z own t v y then next
goes_then {z} {own} {x} {y} {t} {u} {then} {v} {w} {next} a b = record {
  may = b.may;
  stays = stays_on t u then a.stays b.stays;
  noted = noted_on v w next a.noted b.noted;
}

-- by one step
pub goes_by : {z : Shape} {own : OwnDesc} {x y : Work} {t then : OnTable} {v next : View} → HasGoneOn Sits SeatSteps z (Some own) x t v (On y) then next → GoesOn z own t v y then next
goes_by {z} {own} {x} {y} {t} {then} {v} {next} e =
    let m = e.made in record {
      may = record { relies = record { now = m.trusts; may = m.trusts.rows }; own = e.leads.0; stands = e.leads.1 };
      stays = m.steps.stays;
      noted = made_notes z _ t v then next m;
    }

-- by one step, or by none
pub goes_if : {z : Shape} {own : OwnDesc} {m n : Machine} {t then : OnTable} {s r : Side} (is_made : Bool) → (is_made ≡ false → (n ≡ m) × (then ≡ t) × (r ≡ s))
    → (is_made ≡ true → HasGoneOn Sits SeatSteps z (Some own) (work_of m) t s.known.view (On (work_of n)) then r.known.view) → MayGoOn Sits Sits z (Some own) (work_of m) t s.known.view
    → GoesOn z own t s.known.view (work_of n) then r.known.view
goes_if true same goes may = goes_by (goes refl)
goes_if false same goes may = let h = same refl in goes_same h.0 h.1 h.2 may

-- it is carried out in the end
pub carried_then : {z : Shape} {own : OwnDesc} {x : Work} {t u then : OnTable} {v w next : View} {k : Ended} → GoesOn z own t v x u w → HasCarriedOut z own u w k then next → HasCarriedOut z own t v k then next
carried_then {z} {own} {x} {t} {u} {then} {v} {w} {next} a e = record {
  stays = record { stays = stays_on t u then a.stays e.stays.stays; trusts = e.stays.trusts };
  rule_tells = e.rule_tells;
  noted = noted_on v w next a.noted e.noted;
  clear = e.clear;
  result = e.result;
  entry = e.entry;
}
