-- What comes of appending a text.
use Rattle.std.specs.Prelude.{◌≡◌, ℕ, List, ◌++◌, Result, MatchResult}
use Rattle.std.specs.List.{flat_map}
use Rattle.std.specs.Borrow.{Bor}

-- texts one after the other
abbrev pub joined : List (Bor (List ℕ)) → List ℕ
joined texts = flat_map (λ text. text.now) texts

-- The text was appended to what was there, or, where that failed, nothing was.
abbrev pub Prints : {X E : Type 0} → (old new text : List ℕ) → Result X E → Type 0
Prints old new text r = MatchResult r (λ _. new ≡ old ++ text) (λ _. new ≡ old)
