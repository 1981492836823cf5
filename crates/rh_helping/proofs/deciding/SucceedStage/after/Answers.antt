use Rattle.std.proofs.Common.{refl}
use Rattle.rh_tagword.specs.declared.control.State.TheVariants.{Succeeded}
use Rattle.rh_helping.proofs.Decisions.{task_serial}
use Rattle.rh_helping.proofs.deciding.SucceedStage.after.Goals as goal

pub decided_word-control-requires : goal.decided_word-control-requires
decided_word-control-requires g c = let f = c.requires in (task_serial _ _ f.knows c.args.machine.now.task f.stands.0, tt)

pub after_decide-requires-clause-follows : goal.after_decide-requires-clause-follows
after_decide-requires-clause-follows g c =
    let f = c.requires in record {
      before = f.before;
      knows = f.knows;
      own = f.own;
      task = f.stands.0;
      owes = f.stands.3;
      state = Succeeded;
      over = tt;
      fits = tt;
      word = c.args.found;
      finds = f.finds;
      view_is = f.view_is;
      control_is = c.decided_word-control.ensures;
    }

pub returns : goal.returns
returns g c = c.after_decide.ensures _ refl
