-- The line that tells how far work is.
use Rattle.std.proofs.Common.{◌++◌, [], ℕ, List, Option, ap, append-nil, subst}
use Rattle.rh_bytes.specs.declared.counted.Counted.{Counted}
use Rattle.rh_cli.specs.Progress.{Went}

-- two texts that went one after the other
pub in_turn : {W : Type 0} (contents : W → Option (List ℕ)) (old new : Counted W) (first second : List ℕ) → Went contents old new (first ++ (second ++ [])) → Went contents old new (first ++ second)
in_turn contents old new first second went = subst (Went contents old new) (ap (λ t. first ++ t) (append-nil second)) went
