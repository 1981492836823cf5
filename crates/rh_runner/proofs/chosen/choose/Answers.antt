use Rattle.std.proofs.Common.{refl, sym, ◌∙◌, arith, true, false}
use Rattle.rh_runner.proofs.ChosenLemmas.{moves_more, moves_none}
use Rattle.rh_runner.proofs.chosen.choose.Goals as goal
use Rattle.rh_runner.proofs.chosen.choose.Goals.{then-takes, else-takes}

pub loop-i-preserved : goal.loop-i-preserved
loop-i-preserved c =
    elim c.if-takes.branch [
      | then-takes w ↦ record {
        behind = omega (arith, w.n-is);
        moved = λ S is. moves_more c.args.which S c.args.keys.now c.loop-i.keys c.args.found.now c.loop-i.n c.loop-i.i true (c.loop-i.invariant.moved S is) (omega arith) is (sym c.takes.ensures ∙ w.if-takes.true) c.if-takes.keys c.if-takes.n refl w.keys-is w.n-is;
      }
      | else-takes w ↦ record {
        behind = omega (arith, w.n-is);
        moved = λ S is. moves_none c.args.which S c.args.keys.now c.loop-i.keys c.args.found.now c.loop-i.n c.loop-i.i false (c.loop-i.invariant.moved S is) (omega arith) is (sym c.takes.ensures ∙ w.if-takes.false) c.if-takes.keys c.if-takes.n refl w.keys-is w.n-is;
      }
    ]
