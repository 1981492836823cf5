-- What is so while a cell is read until it holds a value.
use Rattle.std.specs.Prelude.{◌≡◌, ℕ, ◌≤◌, ◌⊎◌, None, List, ◌∷◌}
use Rattle.rh_world.specs.World.{In}
use Rattle.rh_world.specs.Facts.Fact.{stale}
use Rattle.rh_world.specs.Sides.{KeptRead}
use Rattle.rh_words.specs.declared.shape.Shape.{Shape}
use Rattle.rh_words.specs.declared.steps.StepKind.{StepKind}
use Rattle.rh_words.specs.declared.steps.StepKind.TheVariants as kind
use Rattle.rh_words.specs.View.{View}
use Rattle.rh_words.specs.Words.{IsPlain, ref_of}
use Rattle.rh_helping.specs.Next.{Looked, Looking}
use Rattle.rh_helping.specs.Next.{Looking as looking}
use Rattle.rh_helping.specs.Next.Looked.{On, Sees, Spent}
use Rattle.rh_carrier.specs.Own.{IsClear, KnowsOwn}
use Rattle.rh_helping.specs.Settling.{EndsSettling, IsSettling, kind_of_settling}
use Rattle.rh_helping.specs.Work.{ReleasesLast, Stands, desc_of, kind_of_work}

abbrev pub kind_of_looking : Looking → StepKind
kind_of_looking looking.Read = kind.Read
kind_of_looking (looking.Settle s) = kind_of_settling s
kind_of_looking (looking.Help w) = kind_of_work w

abbrev pub IsLooking : Shape → View → Looking → Type 0
IsLooking z v looking.Read = IsClear v
IsLooking z v (looking.Settle s) = IsClear v × IsSettling v s
IsLooking z v (looking.Help w) = KnowsOwn v None × Stands z v w

-- what is kept as read after a step: a plain word that is seen, in front of all that was kept: the newest stands first
abbrev pub reads_after : View → (c : ℕ) → Looked → List KeptRead
reads_after v c (On l) = v.side.reads
reads_after v c (Sees word) = record { cell = c; word = word; acts = 0; next_number = v.next_number } ∷ v.side.reads
reads_after v c Spent = v.side.reads

abbrev pub LooksOn : Shape → View → Looked → Type 0
LooksOn z v (On l) = IsLooking z v l
LooksOn z v (Sees word) = IsClear v × IsPlain word
LooksOn z v Spent = IsClear v × (z.rooms.marks ≤ v.marks_used)

-- The step ends the work on what stood in the cell.
abbrev pub EndsLooking : (v next : View) → Looking → Type 0
EndsLooking v next looking.Read = ⊥
EndsLooking v next (looking.Settle s) = EndsSettling v next s
EndsLooking v next (looking.Help w) = ReleasesLast w ⊎ In (stale (ref_of (desc_of w))) next.side.facts

-- Where marks are left, the cell is not read again before that.
abbrev pub MayLookOn : (v next : View) → Looking → Looked → Type 0
MayLookOn v next l r = r ≡ On looking.Read → EndsLooking v next l
