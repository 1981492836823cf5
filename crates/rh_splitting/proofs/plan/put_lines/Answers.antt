use Rattle.std.proofs.Common.{◌≡◌, Some, length, refl, rules}
use Rattle.std.specs.Prelude.{slice_get}
use Rattle.std.proofs.lemmas.Option.{slice_get_read}
use Rattle.std.proofs.lemmas.Result.{err_from_is_err_and}
use Rattle.rh_bytes.specs.Counting.{Emitted, EmittedFront}
use Rattle.rh_splitting.specs.Parts.{part_count}
use Rattle.rh_splitting.specs.Plan.{part_line}
use Rattle.rh_splitting.proofs.Plans.{line_goes_on, line_stops}
use Rattle.rh_splitting.proofs.plan.put_lines.Goals as goal

pub returns-in_err-put_line : goal.returns-in_err-put_line
returns-in_err-put_line g c =
    let p = err_from_is_err_and c.from_residual.result c.from_residual.ensures.1 in
    let parts = c.args.parts.now in
    let there : slice_get parts c.loop-part.part-index ≡ Some c.part-item.result = slice_get_read parts (length parts) _ _ refl (search rules) c.part-item.is in
    let line : EmittedFront g.W.Write.contents c.loop-part.writer c.put_line.new.writer (part_line c.loop-part.part-index (part_count c.part-item.result)) =
    rw (← c.loop-part.invariant.number, ← c.count.ensures.count) c.in_err-put_line.ensures in
    rw p.1 (line_stops _ _ _ parts c.loop-part.part-index _ there c.loop-part.invariant.written line)

pub loop-part-preserved : goal.loop-part-preserved
loop-part-preserved g c =
    let parts = c.args.parts.now in
    let there : slice_get parts c.loop-part.part-index ≡ Some c.part-item.result = slice_get_read parts (length parts) _ _ refl (search rules) c.part-item.is in
    let line : Emitted g.W.Write.contents c.loop-part.writer c.put_line.new.writer (part_line c.loop-part.part-index (part_count c.part-item.result)) =
    rw (← c.loop-part.invariant.number, ← c.count.ensures.count) c.in_ok-put_line.ensures in
    record {
      number = search rules;
      written = line_goes_on _ _ _ parts c.loop-part.part-index _ there c.loop-part.invariant.written line;
    }
