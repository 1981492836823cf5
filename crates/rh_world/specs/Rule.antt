-- The rule: what holds of the world and of what the workers know, between any two steps.
use Rattle.std.specs.Prelude.{ℕ}
use Rattle.rh_world.specs.World.{World}
use Rattle.rh_world.specs.Sides.{Side}
use Rattle.rh_world.specs.Rows.{Rows}
use Rattle.rh_world.specs.Acts.{Acts}
use Rattle.rh_world.specs.Prefixes.{Prefixes}
use Rattle.rh_world.specs.Claims.{Claims}

pub record Rule (w : World) (side : ℕ → Side) : Type 0 where
  pub rows : Rows w side
  pub acts : Acts w side
  pub prefixes : Prefixes w side
  pub claims : Claims w side
