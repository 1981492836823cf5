use Rattle.std.proofs.Common.{ℕ, ◌<◌, Option, Some, None, IfSome, ⊎_elim, subst, arith}
use Rattle.rh_world.specs.World.{In}
use Rattle.rh_words.specs.declared.shape.Shape.{Shape}
use Rattle.rh_words.specs.View.{View}
use Rattle.rh_rule.specs.declared.rule.Sitter.{Sitter}
use Rattle.rh_shared.specs.Claims.{ClaimsOne, IsClaimed}
use Rattle.rh_kcas_tests.proofs.tables.next_place.Goals as goal

abbrev IsWithin : Shape → View → Type 0
IsWithin z v = (n : ℕ) → In n v.side.claims → n < z.keys

goes_on : (z : Shape) (k next : Sitter) (found : Option ℕ) → ClaimsOne z k next found → IsWithin z k.view → IfSome found (λ _. IsWithin z next.view)
goes_on z k next None c within = tt
goes_on z k next (Some p) c within = λ n i.
    let is : IsClaimed z c.position (Some p) = c.is in
    ⊎_elim (λ q. let less = is.0 in omega (arith, q, less)) (λ j. within n j) (subst (λ (x : View). In n x.side.claims) c.view_is i)

pub returns-clause-keys : goal.returns-clause-keys
returns-clause-keys c = goes_on c.args.table.now.shape _ _ c.claim.result c.claim.ensures.claims c.requires.keys
