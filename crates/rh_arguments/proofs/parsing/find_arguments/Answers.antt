use Rattle.std.proofs.Common.{◌≡◌, ◌&&◌, Bool, true, false, refl}
use Rattle.clap.specs.Words.{app_of, is_simple}
use Rattle.rh_arguments.proofs.parsing.find_arguments.Goals as goal

first_holds : (a b : Bool) → (a && b) ≡ true → a ≡ true
first_holds true b both = refl
first_holds false b both = both

pub returns-clause-found : goal.returns-clause-found
returns-clause-found c =
    (c.in_ok-try_get_matches_from.ensures.matches (first_holds (is_simple (app_of c.args.command)) _ c.requires)).1
