-- The front of what a reader has.
use Rattle.std.proofs.Common.{◌≡◌, ◌∙◌, ap, sym, ℕ, ◌≤◌, List, ◌++◌, length, take, Option, Some, None, IfSome, append-nil}
use Rattle.std.specs.Io.KnownBytes.{Consumes, IsAtEnd}
use Rattle.std.proofs.lemmas.List.{take_all, take_at}

-- all of it, where no more is allowed
pub all_taken : (start now : Option (List ℕ)) (text : List ℕ) (most : ℕ) → Consumes start now text → length text ≤ most → IsAtEnd now → IfSome start (λ bytes. text ≡ take most bytes)
all_taken None now text most read within end = tt
all_taken (Some bytes) None text most read within end = absurd read
all_taken (Some bytes) (Some rest) text most read within end =
    let whole : bytes ≡ text = read ∙ ap (λ l. text ++ l) end ∙ append-nil text in
    sym (ap (take most) whole ∙ take_all most text within)

-- as much as is allowed
pub most_taken : (start now : Option (List ℕ)) (text : List ℕ) (most : ℕ) → Consumes start now text → length text ≡ most → IfSome start (λ bytes. text ≡ take most bytes)
most_taken None now text most read all = tt
most_taken (Some bytes) None text most read all = absurd read
most_taken (Some bytes) (Some rest) text most read all = sym (ap (take most) read ∙ take_at text rest most all)
