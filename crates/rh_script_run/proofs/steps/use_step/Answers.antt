use Rattle.std.proofs.Common.{◌≡◌, ◌∙◌, ◌∷◌, ◌++◌, [], sym, subst, rules, Some}
use Rattle.std.proofs.lemmas.Result.{err_from_is_err_and}
use Rattle.rh_operations.specs.declared.key_lists.KeyList.{KeyList}
use Rattle.rh_operations.specs.declared.key_lists.Source.TheVariants.{Path}
use Rattle.rh_operations.specs.KeyLists.{Stands}
use Rattle.rh_script_run.specs.Steps.{ListsStand}
use Rattle.rh_script_run.proofs.FileLemmas.{known_files, same_keys}
use Rattle.rh_script_run.proofs.ListLemmas.{one_longer, one_more_stands, paths_more}
use Rattle.rh_script_run.proofs.StepLemmas.{found_refused, uses_is}
use Rattle.rh_script_run.proofs.steps.use_step.Goals as goal

pub returns-in_err-count-clause-made : goal.returns-in_err-count-clause-made
returns-in_err-count-clause-made g c set named files has stand =
    let p = err_from_is_err_and c.from_residual.result c.from_residual.ensures.1 in
    let known = known_files files (g.S.Lender.state c.args.shelf.now).files has in
    let same = same_keys files (g.S.Lender.state c.args.shelf.now).files known.0 known.1 has c.args.path.now in
    rw (p.1, p.2) (found_refused _ _ _ _ same (c.in_err-count.ensures.refused known.0 known.1))

pub returns-clause-made : goal.returns-clause-made
returns-clause-made g c set named files has stand =
    let name = c.args.name.now in
    let path = c.args.path.now in
    let before = (g.S.Lender.state c.args.shelf.now).files in
    let known = known_files files before has in
    let same = same_keys files before known.0 known.1 has path in
    let used = c.in_ok-count.ensures.used known.0 known.1 in
    let list : KeyList = record { source = Path c.args.path; count = c.in_ok-count.count } in
    let new : Stands (Some known.0) list used.0 = (used.1, used.2) in
    let here : Stands before list used.0 = subst (λ now. Stands now list used.0) (sym known.1) new in
    let pushed : c.push.new.self.items ≡ c.args.lists.now.items ++ list ∷ [] = search rules in
    let stands = subst (λ lists. ListsStand before lists (named ++ (name, used.0) ∷ [])) (sym pushed) (one_more_stands before c.args.lists.now.items named list name used.0 stand here) in
    (_, uses_is set named files name path used.0 c.in_ok-count.count (sym same ∙ used.1) used.2, stands)

pub returns-clause-grow : goal.returns-clause-grow
returns-clause-grow g c =
    let list : KeyList = record { source = Path c.args.path; count = c.in_ok-count.count } in
    let pushed : c.push.new.self.items ≡ c.args.lists.now.items ++ list ∷ [] = search rules in
    record { more = one_longer c.args.lists.now.items _ list pushed; paths = paths_more c.args.lists.now.items _ list pushed }
