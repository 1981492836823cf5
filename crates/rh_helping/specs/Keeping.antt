-- The stages after which there is one next stage: a word that is read there is kept, or a word of an own row is written.
use Rattle.std.specs.Prelude.{ℕ}
use Rattle.rh_helping.specs.Next.{Work}
use Rattle.rh_helping.specs.Next.{Work as work}

abbrev pub IsKept : Work → Type 0
IsKept (work.Length d k) = Unit {0}
IsKept (work.EntryCell t) = Unit {0}
IsKept (work.EntryOld t c) = Unit {0}
IsKept (work.EntryNew t c o) = Unit {0}
IsKept (work.MarkSerial g) = Unit {0}
IsKept (work.MarkDesc g) = Unit {0}
IsKept (work.MarkEntry g) = Unit {0}
IsKept (work.WriteReason t) = Unit {0}
IsKept other = ⊥

-- the stage after it, with the word that it found
abbrev pub kept : Work → (word : ℕ) → Work
kept (work.Length d k) word = work.LengthSerial d k word
kept (work.EntryCell t) word = work.EntryOld t word
kept (work.EntryOld t c) word = work.EntryNew t c word
kept (work.EntryNew t c old) word = work.EntrySerial (record { task = t; cell = c; old = old; new = word })
kept (work.MarkSerial g) word = work.MarkDesc g
kept (work.MarkDesc g) word = work.MarkEntry g
kept (work.MarkEntry g) word = work.Place g
kept (work.WriteReason t) word = work.Fail t
kept other word = other
