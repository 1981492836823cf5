use Rattle.std.proofs.Common.{rules, ◌≡◌, ◌∙◌, ◌+◌, ap, length, refl, subst, sym}
use Rattle.std.proofs.lemmas.List.Elements.{All-filter}
use Rattle.std.proofs.lemmas.Result.{err_from_is_err_and}
use Rattle.std.specs.Prelude.{All}
use Rattle.std.specs.FinSet as set
use Rattle.rh_layout.specs.Key.{IsKey}
use Rattle.rh_ledger.specs.Phase.{set_after, tally_of}
use Rattle.rh_ledger.specs.declared.tally.Kind.TheVariants.{Insert, Remove}
use Rattle.rh_report.specs.declared.lines.Change.TheVariants.{Flipped}
use Rattle.rh_runner.specs.declared.chosen.Chosen.TheVariants.{Absent}
use Rattle.rh_runner.specs.Lists.{chosen}
use Rattle.rh_operations.specs.Actions.{Changed, flips, table}
use Rattle.rh_operations.specs.Sets.{flipped}
use Rattle.rh_operations.specs.Size.{size_for}
use Rattle.rh_operations.proofs.Making.{chosen_of, sized}
use Rattle.rh_operations.proofs.Refusing.{not_made, phase_failed}
use Rattle.rh_operations.proofs.sets.flip_keys.Goals as goal

pub returns-in_err-rest : goal.returns-in_err-rest
returns-in_err-rest g c =
    let p = err_from_is_err_and c.from_residual-in_err-rest.result c.from_residual-in_err-rest.ensures.1 in
    record {
      done = search rules;
      refused = rw (p.1, p.2) (phase_failed _ _ _ _ _ _ _ _ c.in_ok-taken.ensures.runner.fine c.in_err-rest.ensures.refused);
      unchanged = search rules;
      told = search rules;
      own = search rules;
      runner = search rules;
    }

pub with_keys-requires-after_bounds : goal.with_keys-requires-after_bounds
with_keys-requires-after_bounds g c κs within =
    let S = c.args.set.now.keys in
    let chose = chosen_of Absent S c.as_mut_slice-list.ensures.value c.deref.ensures.value c.in_ok-taken.ensures.found c.choose-many.ensures.moved in
    subst (All IsKey) (sym chose) (All-filter _ IsKey c.in_ok-taken.taken.items c.in_ok-taken.ensures.took.in_range)

pub returns-in_err-flipped : goal.returns-in_err-flipped
returns-in_err-flipped g c =
    let p = err_from_is_err_and c.from_residual-in_err-flipped.result c.from_residual-in_err-flipped.ensures.1 in
    let S = c.args.set.now.keys in
    let value = c.as_mut_slice-list.ensures.value in
    let chose = chosen_of Absent S c.as_mut_slice-list.ensures.value c.deref.ensures.value c.in_ok-taken.ensures.found c.choose-many.ensures.moved in
    let left = c.in_ok-rest.ensures.held ∙ ap (set_after Remove S) value in
    record {
      done = search rules;
      refused = rw (p.1, p.2) (not_made c.args.set.now.bits (flips c.args.set.now) _ _ _ _ c.in_ok-taken.taken.items _ _ _ _ _ c.in_ok-taken.ensures.took (λ i. size_for (c.in_ok-rest.ensures.size i) (set.len (left i) + length (chose i))) refl (c.in_ok-rest.ensures.runner.fine ∙ c.in_ok-taken.ensures.runner.fine) c.in_err-flipped.ensures.refused);
      unchanged = search rules;
      told = search rules;
      own = search rules;
      runner = search rules;
    }

pub returns : goal.returns
returns g c =
    let S = c.args.set.now.keys in
    let keys = c.in_ok-taken.taken.items in
    let value = c.as_mut_slice-list.ensures.value in
    let chose = chosen_of Absent S c.as_mut_slice-list.ensures.value c.deref.ensures.value c.in_ok-taken.ensures.found c.choose-many.ensures.moved in
    let left = c.in_ok-rest.ensures.held ∙ ap (set_after Remove S) value in
    let size : size_for c.in_ok-rest.rest.bits _ ≡ size_for c.args.set.now.bits (set.len (set_after Remove S keys) + length (chosen Absent S keys)) = (λ i. size_for (c.in_ok-rest.ensures.size i) (set.len (left i) + length (chose i))) in
    let held : c.in_ok-flipped.flipped.keys ≡ flipped S keys = c.in_ok-flipped.ensures.held ∙ (λ i. set_after Insert (left i) (chose i)) in
    let dropped : c.in_ok-rest.dropped ≡ tally_of Remove S keys = c.in_ok-rest.ensures.tally ∙ ap (tally_of Remove S) value in
    let added : c.in_ok-flipped.added ≡ tally_of Insert (set_after Remove S keys) (chosen Absent S keys) = c.in_ok-flipped.ensures.tally ∙ (λ i. tally_of Insert (left i) (chose i)) in
    let bits = c.in_ok-flipped.flipped.bits in
    record {
      done = (keys, c.in_ok-taken.ensures.took, sized _ bits _ _ (sym size ∙ c.in_ok-flipped.ensures.size) (λ i. (table bits (sym held i), Changed (Flipped (sym dropped i).removed (sym added i).added))));
      refused = search rules;
      unchanged = search rules;
      told = search rules;
      own = search rules;
      runner = search rules;
    }
