use Rattle.std.proofs.Common.{[], rules, subst, sym}
use Rattle.std.specs.Prelude.{All}
use Rattle.std.proofs.lemmas.List.Elements.{All-append, All-cons, All-nil}
use Rattle.rh_splitting.specs.Parts.{IsBegun}
use Rattle.rh_splitting.proofs.files.PartFiles.begin_all.Goals as goal

pub loop-number-preserved : goal.loop-number-preserved
loop-number-preserved g c = record {
  made = search rules;
  whole = search rules;
  placed = search rules;
  parts = search rules;
  begun = subst (All IsBegun) (sym c.in-Ok.ensures.items) (All-append IsBegun _ _ c.loop-number.invariant.begun (All-cons IsBegun c.in_ok-part.part [] c.in_ok-part.ensures.begun (All-nil IsBegun)));
}
