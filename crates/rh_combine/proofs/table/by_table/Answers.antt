use Rattle.std.proofs.Common.{◌∙◌, arith, sym, subst}
use Rattle.rh_combine.specs.Table.{TakesLater}
use Rattle.rh_combine.proofs.TableLemmas.{few_at_first, few_in_slice, first_slice, later_slice, takes_later, takes_still}
use Rattle.rh_combine.proofs.table.by_table.Goals as goal
use Rattle.rh_combine.proofs.table.by_table.Goals.{then-i-eq0+in_ok-set-2, else-i-eq0+in_ok-set-3}

pub first_set-requires-clause-few : goal.first_set-requires-clause-few
first_set-requires-clause-few c = few_at_first (λ k. k.now) c.args.lists.now c.loop-i.i _ (omega arith) c.args.most c.requires.few

pub with_list-requires-clause-few : goal.with_list-requires-clause-few
with_list-requires-clause-few c =
    few_in_slice (λ k. k.now) c.args.lists.now c.loop-i.i _ (omega arith) c.args.most c.args.how _ c.loop-i.invariant.keys c.requires.few

pub loop-i-preserved : goal.loop-i-preserved
loop-i-preserved c =
    elim c.if-i-eq0.branch [
      | then-i-eq0+in_ok-set-2 w ↦ record {
        room = λ _. subst (TakesLater c.args.how c.args.most) (sym (λ j. (w.set-is j).bits)) (takes_later c.args.how c.args.most _ _ w.in_ok-set-2.ensures.size);
        keys = (λ j. (w.set-is j).keys) ∙ (first_slice (λ k. k.now) c.args.lists.now c.loop-i.i _ (omega arith) c.args.how _ w.if-i-eq0.true w.in_ok-set-2.ensures.keys);
      }
      | else-i-eq0+in_ok-set-3 w ↦ record {
        room = λ _. subst (TakesLater c.args.how c.args.most) (sym (λ j. (w.set-is j).bits)) (takes_still c.args.how c.args.most _ _ _ _ w.in_ok-set-3.ensures.size (c.loop-i.invariant.room (omega (arith, w.if-i-eq0.false))));
        keys = (λ j. (w.set-is j).keys) ∙ (later_slice (λ k. k.now) c.args.lists.now c.loop-i.i _ (omega arith) c.args.how _ _ (omega (arith, w.if-i-eq0.false)) c.loop-i.invariant.keys w.in_ok-set-3.ensures.keys);
      }
    ]
