-- What a worker reads after its own swap.
use Rattle.std.specs.Prelude.{ℕ, List}
use Rattle.rh_layout.specs.declared.entry.Entry.{Entry}
use Rattle.rh_words.specs.declared.shape.Shape.{Shape}
use Rattle.rh_words.specs.View.{View}
use Rattle.rh_words.specs.Steps.{entry_of}
use Rattle.rh_rule.specs.Rest.{RuleTells}
use Rattle.rh_kcas.specs.Reads.{HasReadBack}

-- the word is the new one of the entry, unless an act of another worker came between
abbrev pub ReadsBack : Shape → List Entry → (entry : ℕ) → (v next : View) → (word : ℕ) → Type 0
ReadsBack z es e v next word = (t : RuleTells z next) × HasReadBack t.w next.worker v.next_number (entry_of es e) word
