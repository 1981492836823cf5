-- A Side without the numbers of acts, and without the entries at which descriptors failed, which no control tells: they are
-- 0.
use Rattle.std.specs.Prelude.{map}
use Rattle.rh_world.specs.Facts.{Fact}
use Rattle.rh_world.specs.Facts.Fact.{decided, mismatch}
use Rattle.rh_world.specs.Sides.{KeptRead, Side}
use Rattle.rh_words.specs.Words.{without_entry}

-- So what a step notes is a function of the word that it found. That there are such numbers the rule says.
abbrev pub erased_fact : Fact → Fact
erased_fact (decided d k) = decided d (without_entry k)
erased_fact (mismatch d e n) = mismatch d e 0
erased_fact fact = fact

abbrev pub erased_read : KeptRead → KeptRead
erased_read k = record k { acts = 0 }

abbrev pub erased : Side → Side
erased s = record s { facts = map erased_fact s.facts; reads = map erased_read s.reads }
