-- The rule of a table between two steps: there is a world that the words and what is kept of the workers represent, and which
-- meets the rule of the worlds.
use Rattle.std.specs.Prelude.{ℕ, ◌<◌, List}
use Rattle.rh_world.specs.World.{World, updated}
use Rattle.rh_world.specs.Sides.{Side}
use Rattle.rh_world.specs.Rule.{Rule}
use Rattle.rh_words.specs.declared.shape.Shape.{Shape}
use Rattle.rh_words.specs.View.{View}
use Rattle.rh_world.specs.Moves.{world_after}
use Rattle.rh_world.specs.Moves.Move.{opens, places, settles, decides, releases, claims}
use Rattle.rh_words.specs.Steps.{Step, Allowed, StepsTo, decided_so, entries_of, is_none, next_entries}
use Rattle.rh_rule.specs.Represents.{Represents}

-- the table is ruled by this world
pub record Core (w : World) (z : Shape) (words : List ℕ) (keep : ℕ → View) : Type 0 where
  pub side : ℕ → Side
  pub rule : Rule w side
  pub represents : Represents z words keep w side

-- it is ruled by some world
abbrev pub Ruled : Shape → List ℕ → (ℕ → View) → Type 0
Ruled z words keep = (w : World) × Core w z words keep

-- the world after a step of a worker, of whom this is kept: a Write changes words of rows that are no part of the world
abbrev pub world_then : Shape → World → (who : ℕ) → View → Step → World
world_then z w who v (Step.writes p u) = w
world_then z w who v (Step.opens size) = world_after w who (opens (entries_of (next_entries v size)))
world_then z w who v (Step.reads r) = w
world_then z w who v (Step.places d e c old) = world_after w who (places d e)
world_then z w who v (Step.settles x c d e old) = world_after w who (settles x c (is_none old))
world_then z w who v (Step.decides d k) = world_after w who (decides d (decided_so z v d k))
world_then z w who v (Step.releases d e c k value) = world_after w who (releases d e)
world_then z w who v Step.claims = world_after w who claims

-- Each allowed step of a worker of the table keeps the rule, and takes the world to the next one.
abbrev pub EachStepOnWordsKeeps : Type 0
EachStepOnWordsKeeps = (w : World) (z : Shape) (words then : List ℕ) (keep : ℕ → View) (who : ℕ) (s : Step) (word : ℕ) (next : View)
    → Core w z words keep → who < z.workers → Allowed z (keep who) s → StepsTo z s words (keep who) word then next
    → Core (world_then z w who (keep who) s) z then (updated keep who next)
