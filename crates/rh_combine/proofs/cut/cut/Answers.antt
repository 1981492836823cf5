use Rattle.std.proofs.Common.{◌∙◌, arith, inl, inr, refl, slice_index_or, vec_len}
use Rattle.std.proofs.lemmas.Bool.{cases_eq}
use Rattle.rh_combine.proofs.CutLemmas.{key_elsewhere, key_more, key_nowhere}
use Rattle.rh_combine.proofs.cut.cut.Goals as goal
use Rattle.rh_combine.proofs.cut.cut.Goals.{in-Some+in_ok-put, in_default}

pub loop-key-preserved : goal.loop-key-preserved
loop-key-preserved c =
    elim c.match-part_of.branch [
      | in-Some+in_ok-put w ↦ record {
        len = (λ j. vec_len (w.parts-is j)) ∙ w.put.ensures.len ∙ c.loop-key.invariant.len;
        parts = λ p d inside.
            (λ j. (slice_index_or (w.parts-is j).items p d).items)
            ∙ elim (cases_eq p w.in-Some.part) [
              | inl here ↦ key_more c.args.grid.now c.args.keys.now c.loop-key.key-index (omega arith) p w.in-Some.part c.part_of.result _ _ c.part_of.ensures.part w.in-Some.is here (c.loop-key.invariant.parts p d inside) (rw here (w.in_ok-put.ensures.there d))
              | inr there ↦ key_elsewhere c.args.grid.now c.args.keys.now c.loop-key.key-index (omega arith) p w.in-Some.part c.part_of.result _ _ c.part_of.ensures.part w.in-Some.is there (c.loop-key.invariant.parts p d inside) (w.put.ensures.others p d there)
            ];
      }
      | in_default w ↦ record {
        len = (λ j. vec_len (w.parts-is j)) ∙ c.loop-key.invariant.len;
        parts = λ p d inside. (λ j. (slice_index_or (w.parts-is j).items p d).items) ∙ key_nowhere c.args.grid.now c.args.keys.now c.loop-key.key-index (omega arith) p c.part_of.result _ _ c.part_of.ensures.part w.in_default.is (c.loop-key.invariant.parts p d inside) refl;
      }
    ]
