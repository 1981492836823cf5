-- What workers rely on follows from the rule.
use Rattle.std.proofs.Common.{ℕ, ◌<◌, List, sym, refl, subst}
use Rattle.rh_world.specs.World.{World, updated}
use Rattle.rh_world.proofs.Updated.{updated_here}
use Rattle.rh_words.specs.declared.shape.Shape.{Shape}
use Rattle.rh_words.specs.View.{View}
use Rattle.rh_rule.specs.Core.{Core, world_then}
use Rattle.rh_rule.specs.Represents.{IsOwn, Kept}
use Rattle.rh_rule.proofs.Soundness.{steps_find, views_are_sound}
use Rattle.rh_rule.proofs.StepLaw.{each_step_keeps}
use Rattle.rh_carrier.specs.Relies.{Shows, Trusts, WorkersRely}

module _ (w : World) (z : Shape) (words : List ℕ) (keep : ℕ → View) (who : ℕ) (core : Core w z words keep) (mine : who < z.workers) where
  kept : Kept z words w (core.side who) who (keep who)
  kept = core.represents.kept who mine

  pub trusts : Trusts Shows z words (keep who)
  trusts = record {
    knows = record { worker = subst (λ (u : ℕ). u < z.workers) (sym kept.worker) mine; still = kept.still; sound = views_are_sound w z words keep who core mine };
    rows = record { sized = core.represents.sized; written = λ q own. kept.written q (subst (λ (u : ℕ). IsOwn z u q) kept.worker own) };
  }

pub workers_may_rely : WorkersRely
workers_may_rely w z words keep who core mine = record {
  now = trusts w z words keep who core mine;
  may = record {
    finds = λ s may. steps_find w z words keep who s core mine may;
    then = λ s word later next may to.
        subst (λ (v : View). Trusts Shows z later v) (updated_here keep who who next refl)
        (trusts (world_then z w who (keep who) s) z later (updated keep who next) who (each_step_keeps w z words later keep who s word next core mine may to) mine);
  };
}
