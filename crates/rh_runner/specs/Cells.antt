-- The cells that a set of keys makes.
use Rattle.std.specs.Prelude.{◌≡◌, ℕ, List}
use Rattle.rh_layout.specs.Layout.{Keys, Layout}

-- The cells are the one layout of these keys: whoever lays them out in so many bits, in whatever order, makes these cells.
pub record AreTheCells (bits : ℕ) (S : Keys) (cells : List ℕ) : Type 0 where
  pub layout : Layout cells bits S
  pub only : (other : List ℕ) → Layout other bits S → other ≡ cells
