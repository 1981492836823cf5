-- The steps as values of the program.
use Rattle.std.specs.Prelude.{ℕ, ◌+◌, ◌%◌, ◌^◌, option_map}
use Rattle.rh_words.specs.declared.steps.Request.{Request}
use Rattle.rh_words.specs.declared.steps.Request.TheVariants as request
use Rattle.rh_words.specs.declared.steps.Effect.{Effect}
use Rattle.rh_words.specs.declared.steps.Effect.TheVariants as effect
use Rattle.rh_words.specs.Steps.{Step, swapped}
use Rattle.rh_words.specs.Words.{control_of, ref_of}

abbrev pub step_asked : Request → Step
step_asked (request.Write p u) = Step.writes p u
step_asked (request.Open size) = Step.opens size
step_asked (request.Read r) = Step.reads r
step_asked (request.Place p old) = Step.places (ref_of p.desc) p.entry p.cell old
step_asked (request.Settle x p old) = Step.settles (ref_of x) p.cell (ref_of p.desc) p.entry old
step_asked (request.Decide d k) = Step.decides (ref_of d) (control_of k)
step_asked (request.Release p k value) = Step.releases (ref_of p.desc) p.entry p.cell (option_map control_of k) value
step_asked request.Claim = Step.claims

-- the word after, by the word before
abbrev pub changed : Effect → (word : ℕ) → ℕ
changed effect.Keep n = n
changed (effect.Put u) n = u
changed (effect.Swap old new) n = swapped old new n
changed effect.Count n = (n + 1) % 2 ^ 64
