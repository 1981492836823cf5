use Rattle.std.proofs.Common.{◌≡◌, ℕ, List, [], ◌∷◌, Option, arith, length, refl, subst}
use Rattle.std.specs.Prelude.{map, string_bytes}
use Rattle.std.proofs.lemmas.List.{length-map}
use Rattle.rh_cutting.specs.Pieces.{keys_in}
use Rattle.rh_lists.specs.Files.{GiveEach}
use Rattle.rh_shelf.specs.Shelf.{Files}
use Rattle.rh_list_commands.proofs.combining.combine_files.Goals as goal

as_many : (files : Option Files) (paths : List (List ℕ)) (old new : Option (List ℕ)) (lists : List (List ℕ)) → GiveEach files paths old new lists → length lists ≡ length paths
as_many files [] old new [] each = refl
as_many files [] old new (numbers ∷ lists) each = absurd each
as_many files (path ∷ paths) old new [] each = absurd each
as_many files (path ∷ paths) old new (numbers ∷ lists) (mid, gives, others) = omega (arith, as_many files paths mid new lists others)

pub write_lists-requires-clause-takes : goal.write_lists-requires-clause-takes
write_lists-requires-clause-takes g c lifetimes bounds =
    let lists = c.in_ok-lists.lists in
    let read : length (map keys_in lists.items) ≡ length (map string_bytes c.args.job.now.paths.now) = as_many _ _ _ _ _ c.in_ok-lists.ensures.lists.read in
    subst (g.Q.Question.takes c.args.question.now) (omega (arith, read, length-map lists.items keys_in, length-map c.args.job.now.paths.now string_bytes)) c.requires.takes
