use Rattle.std.proofs.Common.{◌≡◌, ◌∙◌, ◌++◌, [], ap, sym, length, rules}
use Rattle.rh_edit.specs.Rising.{rising_keys}
use Rattle.rh_key_files.specs.declared.version.Version.TheVariants.{Second}
use Rattle.rh_key_files.specs.KeyFile.{spelling}
use Rattle.rh_operations.proofs.SavedLemmas.{spelled_in_memory}
use Rattle.rh_operations.proofs.operations.save.Goals as goal

pub returns-clause-saved : goal.returns-clause-saved
returns-clause-saved c files =
    let keys = c.in_ok-keys.keys.items in
    let rising = rising_keys c.args.set.now.keys in
    let empty : c.new-file.result.inner.items ≡ [] = search rules in
    let written : c.into_inner.result.items ≡ c.new-file.result.inner.items ++ spelling Second keys = ap (λ v. v.items) c.into_inner.ensures ∙ c.in-Ok.ensures.appended ∙ ap (λ k. c.new-file.result.inner.items ++ spelling Second k) c.deref.ensures.value in
    let many : length rising ≡ c.len.result = ap length (sym c.in_ok-keys.ensures.items) ∙ search rules in
    (spelled_in_memory keys rising c.new-file.result.inner.items c.into_inner.result.items empty written c.in_ok-keys.ensures.keys c.in_ok-keys.ensures.few c.in_ok-keys.ensures.items, many)
