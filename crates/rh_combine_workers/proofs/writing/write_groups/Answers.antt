use Rattle.std.proofs.Common.{◌≡◌, ◌∙◌, ap, arith, subst, suc, drop, get_or, take}
use Rattle.std.specs.List.{flat_map}
use Rattle.std.proofs.lemmas.Result.{err_from_is_err_and}
use Rattle.rh_bytes.specs.Counting.{EmittedFront}
use Rattle.rh_bytes.proofs.Writing.{emitting_stops, split_at_place}
use Rattle.rh_combine_workers.proofs.writing.write_groups.Goals as goal

pub returns-in_err-write_text : goal.returns-in_err-write_text
returns-in_err-write_text g c =
    let p = err_from_is_err_and c.from_residual.result c.from_residual.ensures.1 in
    let i = c.loop-group.group-index in
    let groups = c.args.groups.now in
    let d = c.group-item.result in
    let bytes : c.deref.result.now ≡ (get_or groups i d).bytes.items = c.deref.ensures.value ∙ ap (λ v. v.bytes.items) c.group-item.is in
    rw p.1
    (emitting_stops _ _ _ (flat_map (λ x. x.bytes.items) (take i groups)) (get_or groups i d).bytes.items (flat_map (λ x. x.bytes.items) (drop (suc i) groups)) (flat_map (λ x. x.bytes.items) groups)
    (split_at_place (λ x. x.bytes.items) groups i d (omega arith)) c.loop-group.invariant (subst (EmittedFront _ _ _) bytes c.in_err-write_text.ensures))
