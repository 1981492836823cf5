use Rattle.std.proofs.Common.{◌≡◌, ◌+◌, ◌∙◌, None, Some, ap, btree_map_len, string_bytes}
use Rattle.std.specs.BTreeMap.{get_by_text}
use Rattle.std.proofs.lemmas.Map.Text.{btree_map_updates_text}
use Rattle.std.proofs.lemmas.Result.{IfOk-at_ok}
use Rattle.rh_script.proofs.Positions.{is_new, missing, new_name, old_name, places_kept}
use Rattle.rh_script.proofs.given.give_list.Goals as goal

pub returns-then-contains_key-clause-new : goal.returns-then-contains_key-clause-new
returns-then-contains_key-clause-new c = λ given has _.
    old_name c.args.name.now given (is_new c.args.lists.now given c.args.name.now _ has c.if-contains_key.ensures)

pub returns-clause-new : goal.returns-clause-new
returns-clause-new c = λ given has.
    new_name c.args.name.now given c.len-list.result (is_new c.args.lists.now given c.args.name.now _ has c.if-contains_key.ensures) (c.len-list.ensures.len ∙ has.many)

pub returns-clause-kept : goal.returns-clause-kept
returns-clause-kept c = λ given has.
    let name_is = IfOk-at_ok (λ s. string_bytes s ≡ c.args.name.now) c.in_ok-name.was c.from_str.ensures.ok in
    let none : get_by_text c.args.lists.now c.args.name.now ≡ None = missing _ c.if-contains_key.ensures in
    let old : c.in_ok-insert.field-0 ≡ None = c.in_ok-insert.ensures.old ∙ ap (get_by_text c.args.lists.now) name_is ∙ none in
    let more : btree_map_len c.insert.new.self ≡ btree_map_len c.args.lists.now + 1 = rw old at c.in_ok-insert.ensures.len in
    let updated = btree_map_updates_text (string_bytes c.in_ok-name.name) c.args.lists.now c.insert.new.self (Some c.len-list.result) c.in_ok-insert.ensures.updates in
    places_kept c.args.lists.now c.insert.new.self given c.args.name.now c.len-list.result none has c.len-list.ensures.len more (rw name_is at updated)
