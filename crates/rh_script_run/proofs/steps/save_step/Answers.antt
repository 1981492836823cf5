use Rattle.std.proofs.Common.{◌≡◌, ◌∙◌, ◌∷◌, ◌++◌, [], ap, sym, subst, rules, Ok}
use Rattle.rh_edit.specs.Rising.{rising_keys}
use Rattle.rh_report.specs.Account.{Saved}
use Rattle.rh_operations.specs.KeyLists.{Stands, paths_of}
use Rattle.rh_script_run.specs.Steps.{ListsStand, world_of}
use Rattle.rh_script_run.proofs.ListLemmas.{one_longer, one_more_stands, paths_more}
use Rattle.rh_script_run.proofs.steps.save_step.Goals as goal

pub returns-clause-made : goal.returns-clause-made
returns-clause-made c named files before now known stand =
    let name = c.args.name.now in
    let keys = rising_keys c.args.set.now.keys in
    let w = world_of c.args.set.now (named ++ (name, keys) ∷ []) files in
    let pushed : c.push.new.self.items ≡ c.args.lists.now.items ++ c.in_ok-list.list ∷ [] = search rules in
    let saved = subst (λ files. Stands files c.in_ok-list.list keys) (sym known) (c.in_ok-list.ensures.saved now) in
    let stands = subst (λ lists. ListsStand before lists (named ++ (name, keys) ∷ [])) (sym pushed) (one_more_stands before c.args.lists.now.items named c.in_ok-list.list name keys stand saved) in
    (_, (λ i. Ok (w, Saved name (sym c.in_ok-list.ensures.count i))), stands)

pub returns-clause-grow : goal.returns-clause-grow
returns-clause-grow c =
    let pushed : c.push.new.self.items ≡ c.args.lists.now.items ++ c.in_ok-list.list ∷ [] = search rules in
    record {
      more = one_longer c.args.lists.now.items _ c.in_ok-list.list pushed;
      paths = paths_more c.args.lists.now.items _ c.in_ok-list.list pushed ∙ ap (λ paths. paths_of c.args.lists.now.items ++ paths) c.in_ok-list.ensures.no_path;
    }
