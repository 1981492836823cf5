-- More is read.
use Rattle.std.proofs.Common.{⊎_elim, List, ◌++◌}
use Rattle.std.specs.List.{Contains}
use Rattle.std.proofs.lemmas.List.Elements.{Contains-append_cases, Contains-append_left, Contains-append_right}

pub more_behind : {X : Type 0} (first xs ys : List X) → ((x : X) → Contains xs x → Contains ys x) → (x : X) → Contains (first ++ xs) x → Contains (first ++ ys) x
more_behind first xs ys more x h =
    ⊎_elim (Contains-append_left first ys x) (λ i. Contains-append_right first ys x (more x i)) (Contains-append_cases first xs x h)
