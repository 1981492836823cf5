-- What a read says of the acts of all workers.
use Rattle.std.specs.Prelude.{suc, ◌≡◌, ℕ, ◌<◌, ◌≤◌, Some, List, ◌∷◌, ◌++◌, length, map}
use Rattle.rh_layout.specs.declared.entry.Entry.{Entry}
use Rattle.rh_world.specs.World.{World, In}
use Rattle.rh_world.specs.Facts.{IsPrefix}
use Rattle.rh_world.specs.Sides.{KeptRead, Side}
use Rattle.rh_world.specs.Acts.{cells_after}
use Rattle.rh_words.specs.declared.shape.Shape.{Shape}
use Rattle.rh_words.specs.View.{View}
use Rattle.rh_words.specs.Steps.{AreEntries, entry_of}
use Rattle.rh_rule.specs.Erased.{erased_read}
use Rattle.rh_rule.specs.Rest.{WorldTells}
use Rattle.rh_swaps.specs.Swaps.{HasReadCell, Swaps}
use Rattle.rh_swaps.specs.declared.swapping.Outcome.TheVariants.{Done}

-- A worker of whom v was kept read this word in cell c. After so many acts the cell held the word. Among these are all acts that
-- the worker had made, and no other one of it; and they are not fewer than those at anything that it had read before.
pub record HasReadSo (w : World) (side : ℕ → Side) (c word : ℕ) (v : View) : Type 0 where
  pub acts : ℕ
  pub holds : cells_after w acts c ≡ word
  pub prefix : IsPrefix w v.worker v.next_number acts
  -- what it read is kept so in the world: what it read before, this word, and what it read later
  pub earlier : List KeptRead
  pub later : List KeptRead
  pub reads : (side v.worker).reads ≡ later ++ (record { cell = c; word = word; acts = acts; next_number = v.next_number } ∷ earlier)
  pub earlier_are : map erased_read earlier ≡ v.side.reads
  pub in_order : (k : KeptRead) → In k earlier → k.acts ≤ acts

-- So it is at the end of the call and at any later moment of the round, of which the rule tells.
abbrev pub ReadsTell : Type 0
ReadsTell = (w : World) (z : Shape) (keep : ℕ → View) (side : ℕ → Side) → WorldTells w z keep side → (c word : ℕ) (v next : View) (newer : List KeptRead)
    → v.worker < z.workers → HasReadCell z c v next (Some word) → (keep v.worker).side.reads ≡ newer ++ next.side.reads → HasReadSo w side c word v

-- ---- a read of an own change

-- A worker swapped entries by its descriptor of this number, and read this word in the cell of one of them after it. Its act is
-- among the first ones after which the cell held the word: so that is the new one, unless an act of another worker came between.
pub record HasReadBack (w : World) (worker number : ℕ) (x : Entry) (word : ℕ) : Type 0 where
  pub own : ℕ
  pub acts : ℕ
  pub act : w.act own ≡ record { worker = worker; number = number }
  pub earlier : own < acts
  pub changed : cells_after w (suc own) x.cell ≡ x.new
  pub holds : cells_after w acts x.cell ≡ word
  pub unless_other : ((i : ℕ) → own < i → i < acts → (w.act i).worker ≡ worker) → word ≡ x.new

-- So it is at the end of the read, for any number of workers.
abbrev pub OwnChangesAreRead : Type 0
OwnChangesAreRead = (w : World) (z : Shape) (keep : ℕ → View) (side : ℕ → Side) → WorldTells w z keep side → (es : List Entry) (e word : ℕ) (v then next : View)
    → AreEntries z es → e < length es → Swaps z es v then Done → HasReadCell z (entry_of es e).cell then next (Some word)
    → next.worker < z.workers → keep next.worker ≡ next → HasReadBack w next.worker v.next_number (entry_of es e) word
