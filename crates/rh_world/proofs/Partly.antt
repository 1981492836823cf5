-- The first parts of the rule together: rows alone, with acts, or with acts and prefixes too. What is shown for any A and
-- P holds of each of the three, where a part asks only for those before it.
use Rattle.std.proofs.Common.{◌≡◌, ℕ}
use Rattle.rh_world.specs.World.{World}
use Rattle.rh_world.specs.Facts.{HoldsIn, Fact, part_of}
use Rattle.rh_world.specs.Facts.RulePart.{of_acts, of_prefixes, of_rows}
use Rattle.rh_world.specs.Sides.{Side}
use Rattle.rh_world.specs.Rows.{Rows}
use Rattle.rh_world.specs.Acts.{Acts}
use Rattle.rh_world.specs.Prefixes.{Prefixes}

pub record Partly (A P : Type 0) (w : World) (side : ℕ → Side) : Type 0 where
  pub rows : Rows w side
  pub acts : A → Acts w side
  pub prefixes : A → P → Prefixes w side

-- the fact holds, as far as the parts can say
pub record Noted (A P : Type 0) (w : World) (n : Fact) : Type 0 where
  pub rows : part_of n ≡ of_rows → HoldsIn w n
  pub acts : A → part_of n ≡ of_acts → HoldsIn w n
  pub prefixes : A → P → part_of n ≡ of_prefixes → HoldsIn w n

pub noted : (A P : Type 0) (w : World) (n : Fact) → HoldsIn w n → Noted A P w n
noted A P w n t = record { rows = λ p. t; acts = λ a p. t; prefixes = λ a b p. t }
