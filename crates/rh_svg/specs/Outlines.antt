-- The outline of each kind of step, round the point 0 0.
use Rattle.std.specs.Prelude.{ℕ, List, codes}
use Rattle.rh_words.specs.declared.steps.StepKind.{StepKind}
use Rattle.rh_words.specs.declared.steps.StepKind.TheVariants.{Write, Open, Read, Place, Settle, Decide, Release, Claim}

abbrev pub outline : StepKind → List ℕ
outline Write = codes "M-5-5H5V5H-5Z"
outline Open = codes "M-6 7V-2A6 6 0 0 1 6-2V7Z"
outline Read = codes "M-5 0A5 5 0 0 1 5 0A5 5 0 0 1-5 0Z"
outline Place = codes "M0-8L8 6H-8Z"
outline Settle = codes "M0-9L8 0L0 9L-8 0Z"
outline Decide = codes "M0-11L3-4L11-4L5 1L7 9L0 4L-7 9L-5 1L-11-4L-3-4Z"
outline Release = codes "M0 8L8-6H-8Z"
outline Claim = codes "M-3-8H3V-3H8V3H3V8H-3V3H-8V-3H-3Z"

-- how an element names it
abbrev pub reference : StepKind → List ℕ
reference Write = codes "#write"
reference Open = codes "#open"
reference Read = codes "#read"
reference Place = codes "#place"
reference Settle = codes "#settle"
reference Decide = codes "#decide"
reference Release = codes "#release"
reference Claim = codes "#claim"
