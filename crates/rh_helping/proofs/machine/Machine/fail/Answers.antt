use Rattle.std.proofs.Common.{ℕ, ap, refl, subst, sym}
use Rattle.rh_tagword.specs.declared.control.State.TheVariants.{Failed}
use Rattle.rh_world.specs.World.Control.{failed}
use Rattle.rh_words.specs.Words.{ref_of}
use Rattle.rh_words.specs.Steps.{Allowed, Step}
use Rattle.rh_helping.specs.Next.{Work as work}
use Rattle.rh_helping.proofs.Decisions.{fail_control, undecided_owes}
use Rattle.rh_helping.proofs.Requesting.{asked_made, may_request, of_work}
use Rattle.rh_helping.proofs.machine.Machine.fail.Goals as goal

pub make-found-requires-clause-allowed : goal.make-found-requires-clause-allowed
make-found-requires-clause-allowed g c =
    let t = c.args.self.now.task in
    subst (λ (w : ℕ). Allowed c.args.shape.now c.args.side.now.known.view (Step.decides (ref_of t.desc) (failed 0 w))) c.args.side.now.same_worker
    (may_request _ _ c.requires.relies.now.knows _ c.requires.own (work.Fail t) c.requires.stands)

pub decided_word-failed-requires : goal.decided_word-failed-requires
decided_word-failed-requires g c = fail_control _ _ c.requires.relies.now.knows c.args.self.now.task c.requires.stands.0.at.task c.args.side.now.worker c.args.side.now.same_worker

pub after_decide-requires-clause-follows : goal.after_decide-requires-clause-follows
after_decide-requires-clause-follows g c =
    let h = c.requires.stands.0 in
    let t = c.args.self.now.task in record {
      before = c.args.side.now.known.view;
      knows = c.requires.relies.now.knows;
      own = c.requires.own;
      task = h.at.task;
      owes = undecided_owes _ _ h.at h.undecided;
      state = Failed c.args.side.now.worker;
      over = tt;
      fits = (fail_control _ _ c.requires.relies.now.knows t h.at.task c.args.side.now.worker c.args.side.now.same_worker).1;
      word = c.make-found.result;
      finds = c.make-found.ensures.finds;
      view_is = c.make-found.ensures.view_is;
      control_is = c.decided_word-failed.ensures;
    }

pub returns : goal.returns
returns g c =
    let v = c.args.side.now.known.view in
    let t = c.args.self.now.task in
    let asks = ap (λ (w : ℕ). Step.decides (ref_of t.desc) (failed 0 w)) c.args.side.now.same_worker in
    let may = subst (λ (s : Step). Allowed c.args.shape.now v s) asks (may_request _ _ c.requires.relies.now.knows _ c.requires.own (work.Fail t) c.requires.stands) in
    let to = c.after_decide.ensures (work.Fail t) refl in
    record { made = asked_made _ _ _ _ _ _ _ _ _ _ (of_work v (work.Fail t)) (sym asks) to.same may c.make-found.ensures; leads = to.leads; ends = to.ends }
