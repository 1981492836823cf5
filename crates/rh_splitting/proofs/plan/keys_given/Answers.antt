use Rattle.std.proofs.Common.{◌≡◌, Some, length, refl, rules}
use Rattle.std.specs.Prelude.{slice_get}
use Rattle.std.proofs.lemmas.Option.{slice_get_read}
use Rattle.rh_splitting.proofs.Plans.{part_counted}
use Rattle.rh_splitting.proofs.plan.keys_given.Goals as goal

pub loop-part-preserved : goal.loop-part-preserved
loop-part-preserved g c =
    let parts = c.args.parts.now in
    let there : slice_get parts c.loop-part.part-index ≡ Some c.part-item.result = slice_get_read parts (length parts) _ _ refl (search rules) c.part-item.is in
    record {
      keys = part_counted parts c.loop-part.part-index _ _ _ there c.loop-part.invariant.keys (search rules);
      few = search rules;
    }
