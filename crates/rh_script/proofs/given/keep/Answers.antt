use Rattle.std.proofs.Common.{◌≡◌, true, string_bytes}
use Rattle.std.proofs.lemmas.Map.Text.{btree_set_updates_text}
use Rattle.std.proofs.lemmas.Result.{IfOk-at_ok}
use Rattle.std.specs.Str.{bytes_eq}
use Rattle.std.specs.BTreeSet.{contains_text}
use Rattle.rh_script.proofs.Naming.{one_more}
use Rattle.rh_script.proofs.given.keep.Goals as goal

-- the key has the text's bytes
pub returns-clause-kept : goal.returns-clause-kept
returns-clause-kept c = λ other.
    let key_is_text = IfOk-at_ok (λ s. string_bytes s ≡ c.args.text.now) c.in_ok-text.was c.from_str.ensures.ok in
    let sets = btree_set_updates_text (string_bytes c.in_ok-text.text) c.args.texts.now c.insert.new.self true c.in_ok-insert.ensures.updates other in
    one_more (contains_text c.insert.new.self other) (contains_text c.args.texts.now other) (bytes_eq c.args.text.now other) (rw key_is_text at sets)
