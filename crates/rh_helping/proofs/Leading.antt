-- What a step leads to, where the view after it is said by its definition.
use Rattle.std.proofs.Common.{◌≡◌, Option, refl, sym, subst}
use Rattle.rh_words.specs.declared.shape.Shape.{Shape}
use Rattle.rh_words.specs.View.{OwnDesc, View}
use Rattle.rh_helping.specs.Next.{StageOutcome, Work}
use Rattle.rh_helping.specs.Next.StageOutcome.{On}
use Rattle.rh_helping.specs.Stepping.{ComesTo}
use Rattle.rh_helping.specs.Work.{Leads}

pub lead : (z : Shape) (next said : View) (opens : Option OwnDesc) (o : StageOutcome) → next ≡ said → Leads z said opens o → Leads z next opens o
lead z next said opens o e h = subst (λ (v : View). Leads z v opens o) (sym e) h

-- the step leads to a next one, and no other is made
pub goes_on : {T : Type 0} {z : Shape} {opens : Option OwnDesc} {w on : Work} {t : T} {v : View} → Leads z v opens (On on) → ComesTo z opens w t v (On on) t
goes_on leads = record { same = refl; leads = leads; ends = tt }
