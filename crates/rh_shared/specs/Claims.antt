-- What a Claim tells.
use Rattle.std.specs.Prelude.{◌≡◌, ℕ, ◌<◌, ◌≤◌, Option, Some, None, ◌∷◌}
use Rattle.rh_words.specs.declared.shape.Shape.{Shape}
use Rattle.rh_words.specs.Steps.{Step, noted}
use Rattle.rh_rule.specs.declared.rule.Sitter.{Sitter}
use Rattle.rh_rule.specs.Traces.{touched}

-- One Claim was made; it found a position of the list, or its end.
abbrev pub IsClaimed : Shape → (position : ℕ) → Option ℕ → Type 0
IsClaimed z n None = z.keys ≤ n
IsClaimed z n (Some p) = (n < z.keys) × (p ≡ n)

pub record ClaimsOne (z : Shape) (k next : Sitter) (claimed : Option ℕ) : Type 0 where
  pub position : ℕ
  pub view_is : next.view ≡ noted z k.view Step.claims position
  pub trace_is : next.trace ≡ touched z k.view Step.claims position ∷ k.trace
  pub is : IsClaimed z position claimed
