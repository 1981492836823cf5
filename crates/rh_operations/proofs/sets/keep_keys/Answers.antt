use Rattle.std.proofs.Common.{rules, ◌≡◌, ◌∙◌, ◌+◌, ap, arith, length, length-take-le, refl, subst, sym, take}
use Rattle.std.proofs.lemmas.List.Elements.{All-filter}
use Rattle.std.proofs.lemmas.Result.{err_from_is_err_and}
use Rattle.std.specs.Prelude.{All}
use Rattle.std.specs.FinSet as set
use Rattle.rh_layout.specs.Key.{IsKey}
use Rattle.rh_ledger.specs.Phase.{set_after}
use Rattle.rh_ledger.specs.declared.tally.Kind.TheVariants.{Insert}
use Rattle.rh_report.specs.declared.lines.Change.TheVariants.{Kept}
use Rattle.rh_runner.specs.declared.chosen.Chosen.TheVariants.{Present}
use Rattle.rh_runner.specs.Lists.{chosen}
use Rattle.rh_operations.specs.Actions.{Changed, keeps, table}
use Rattle.rh_operations.specs.Sets.{kept}
use Rattle.rh_operations.specs.Size.{size_for}
use Rattle.rh_operations.proofs.Making.{chosen_of, nothing_held, sized}
use Rattle.rh_operations.proofs.Refusing.{no_memory, not_made}
use Rattle.rh_operations.proofs.sets.keep_keys.Goals as goal

pub returns-in_err-empty : goal.returns-in_err-empty
returns-in_err-empty g c =
    let p = err_from_is_err_and c.from_residual-in_err-empty.result c.from_residual-in_err-empty.ensures.1 in
    record {
      done = search rules;
      refused = rw p.1 (no_memory _ _ _ _ _ _ _ p.2);
      unchanged = search rules;
      told = search rules;
      own = search rules;
      runner = search rules;
    }

pub with_keys-requires-after_bounds : goal.with_keys-requires-after_bounds
with_keys-requires-after_bounds g c κs within =
    let S = c.args.set.now.keys in
    let chose = chosen_of Present S c.as_mut_slice-list.ensures.value c.deref.ensures.value c.in_ok-taken.ensures.found c.choose-many.ensures.moved in
    subst (All IsKey) (sym chose) (All-filter _ IsKey c.in_ok-taken.taken.items c.in_ok-taken.ensures.took.in_range)

pub returns-in_err-kept : goal.returns-in_err-kept
returns-in_err-kept g c =
    let p = err_from_is_err_and c.from_residual-in_err-kept.result c.from_residual-in_err-kept.ensures.1 in
    let S = c.args.set.now.keys in
    let chose = chosen_of Present S c.as_mut_slice-list.ensures.value c.deref.ensures.value c.in_ok-taken.ensures.found c.choose-many.ensures.moved in
    let many : set.len c.in_ok-empty.empty.keys + length (take c.choose-many.result c.choose-many.new.keys) ≡ length (chosen Present S c.in_ok-taken.taken.items) =
    omega (arith, nothing_held c.in_ok-empty.empty.keys c.in_ok-empty.ensures.keys, ap length chose) in
    record {
      done = search rules;
      refused = rw (p.1, p.2) (not_made c.args.set.now.bits (keeps c.args.set.now) _ _ _ _ c.in_ok-taken.taken.items _ _ _ _ _ c.in_ok-taken.ensures.took (λ i. size_for (c.in_ok-empty.ensures.bits i) (many i)) refl c.in_ok-taken.ensures.runner.fine c.in_err-kept.ensures.refused);
      unchanged = search rules;
      told = search rules;
      own = search rules;
      runner = search rules;
    }

pub returns : goal.returns
returns g c =
    let S = c.args.set.now.keys in
    let keys = c.in_ok-taken.taken.items in
    let chose = chosen_of Present S c.as_mut_slice-list.ensures.value c.deref.ensures.value c.in_ok-taken.ensures.found c.choose-many.ensures.moved in
    let many : set.len c.in_ok-empty.empty.keys + length (take c.choose-many.result c.choose-many.new.keys) ≡ length (chosen Present S keys) =
    omega (arith, nothing_held c.in_ok-empty.empty.keys c.in_ok-empty.ensures.keys, ap length chose) in
    let found : c.choose-many.result ≡ length (chosen Present S keys) = sym (length-take-le _ _ c.choose-many.ensures.few) ∙ ap length chose in
    let held : c.in_ok-kept.kept.keys ≡ kept S keys = c.in_ok-kept.ensures.held ∙ (λ i. set_after Insert (c.in_ok-empty.ensures.keys i) (chose i)) in
    let bits = c.in_ok-kept.kept.bits in
    record {
      done = (keys, c.in_ok-taken.ensures.took, sized _ bits _ _ (sym (λ i. size_for (c.in_ok-empty.ensures.bits i) (many i)) ∙ c.in_ok-kept.ensures.size) (λ i. (table bits (sym held i), Changed (Kept (sym found i)))));
      refused = search rules;
      unchanged = search rules;
      told = search rules;
      own = search rules;
      runner = search rules;
    }
