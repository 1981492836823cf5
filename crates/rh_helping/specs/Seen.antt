-- What a Read of a cell leads to, by the word that it saw there.
use Rattle.std.specs.Prelude.{ℕ}
use Rattle.rh_world.specs.World.{Cell, Ref}
use Rattle.rh_world.specs.World.Cell.{plain, mark, desc}
use Rattle.rh_words.specs.declared.reference.Ref.{Ref as Reference}
use Rattle.rh_words.specs.Words.{cell_in}
use Rattle.rh_helping.specs.declared.looking.Seen.{Seen}
use Rattle.rh_helping.specs.declared.looking.Seen.TheVariants as saw
use Rattle.rh_helping.specs.Next.{Looked, Looking}
use Rattle.rh_helping.specs.Next.{Looked as seen}
use Rattle.rh_helping.specs.Next.{Looking as looking}
use Rattle.rh_helping.specs.Next.{Settles as settles}
use Rattle.rh_helping.specs.Next.{Work as work}

-- a reference of the world, as workers keep it
abbrev pub reference : Ref → Reference
reference r = record { worker = r.worker; number = r.number }

-- the next step of who met this in cell c; where a value stands there is nothing but to read it
abbrev pub looking_at : Cell → (c : ℕ) → Looking
looking_at (plain word) c = looking.Read
looking_at (mark x) c = looking.Settle (settles.Desc (reference x) c)
looking_at (desc d) c = looking.Help (work.Control (reference d))

-- what the Read of cell c led to
abbrev pub looked_at : Seen → (c : ℕ) → Looked
looked_at (saw.Value word) c = seen.Sees word
looked_at (saw.Other word) c = seen.On (looking_at (cell_in word) c)
