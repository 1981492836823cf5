-- Stale descriptors.
use Rattle.std.proofs.Common.{◌≡◌, ℕ, ◌<◌, ◌≤◌, ap, ⊎_elim, arith, Some}
use Rattle.rh_world.specs.World.{IsDecided, IsOpened, Ref, World}
use Rattle.rh_world.specs.World.Cell.{plain}
use Rattle.rh_world.specs.Facts.{HoldsIn}
use Rattle.rh_world.specs.Facts.Fact.{stale}
use Rattle.rh_world.specs.Sides.{Side}
use Rattle.rh_world.specs.Rule.{Rule}
use Rattle.rh_world.specs.Laws.{LaterOnesTell}
use Rattle.rh_world.proofs.ActsKept.{chosen_old}

module _ (w : World) (side : ℕ → Side) (r : Rule w side) (d later : Ref) (opened : IsOpened (w.control d)) (then : IsOpened (w.control later)) (same : later.worker ≡ d.worker) (less : d.number < later.number) where
  -- it is not open any more, since the open one is the last
  not_open : (side d.worker).current ≡ Some d.number → ⊥
  not_open here = (let least : later.number ≤ d.number = r.rows.last d later here same then in absurd (omega arith))

  is_over : IsDecided (w.control d)
  is_over = ⊎_elim (λ x. x) (λ here. absurd (not_open here)) (r.rows.state d opened)

  is_stale : HoldsIn w (stale d)
  is_stale = (is_over, λ s c here. not_open (r.acts.standing c d here s).owed.current)

pub later_ones_tell : LaterOnesTell
later_ones_tell w side r = record {
  gone = λ d later opened then same less. (is_over w side r d later opened then same less, is_stale w side r d later opened then same less);
  released = λ d e gone here. ap plain (chosen_old (w.control d) (w.old d e) (w.new d e) (λ s. gone.1 s (w.target d e) here));
}
