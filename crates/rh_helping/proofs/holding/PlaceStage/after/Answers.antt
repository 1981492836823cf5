use Rattle.std.proofs.Common.{◌≡◌, ◌+◌, ◌-◌, ap, arith, inl, inr, refl, suc, sym, subst, ◌∙◌}
use Rattle.rh_world.specs.Facts.Fact.{found, installed, met, mismatch}
use Rattle.rh_words.specs.declared.reference.Ref.{Ref as Reference}
use Rattle.rh_words.specs.View.{View}
use Rattle.rh_words.specs.Words.{ref_of}
use Rattle.rh_helping.specs.Next.StageOutcome.{On}
use Rattle.rh_helping.specs.Next.{Work as work}
use Rattle.rh_helping.specs.Next.{Settles as settles}
use Rattle.rh_helping.specs.Next.{Settles}
use Rattle.rh_carrier.specs.Own.{KnowsOwn}
use Rattle.rh_helping.specs.Goal.{opened_by}
use Rattle.rh_helping.specs.Machine.{goal_of}
use Rattle.rh_helping.specs.Work.{IsNextTask, Leads}
use Rattle.rh_helping.proofs.Growing.{at_grows, nothing_grows, own_grows}
use Rattle.rh_helping.proofs.Leading.{goes_on, lead}
use Rattle.rh_helping.proofs.Marking.{at_goal, held_next, is_placed, names_grows, noted_next, placed_marks, saw_held, saw_mark, saw_other, saw_value, try_grows}
use Rattle.rh_helping.proofs.Rows.{grows_note}
use Rattle.rh_helping.proofs.holding.PlaceStage.after.Goals as goal

pub overflow_sub-machine : goal.overflow_sub-machine
overflow_sub-machine g c =
    let f = c.requires in
    let marks : c.args.side.now.marks_used ≡ suc f.before.marks_used = sym c.args.side.now.same_marks ∙ ap (λ (n : View). n.marks_used) f.view_is ∙ placed_marks c.args.shape.now f.before f.knows (goal_of c.args.machine.now) f.stands.0 c.args.found c.if-found-machine.true in
    omega (arith, marks)

pub returns-then-found-machine : goal.returns-then-found-machine
returns-then-found-machine g c =
    let f = c.requires in
    let marks : c.args.side.now.marks_used ≡ suc f.before.marks_used = sym c.args.side.now.same_marks ∙ ap (λ (n : View). n.marks_used) f.view_is ∙ placed_marks c.args.shape.now f.before f.knows (goal_of c.args.machine.now) f.stands.0 c.args.found c.if-found-machine.true in
    let x : Reference = record { worker = c.args.side.now.worker; number = c.args.side.now.marks_used - 1 } in
    goes_on (lead c.args.shape.now _ _ _ (On (work.MarkControl (record { goal = goal_of c.args.machine.now; mark = x }))) f.view_is
    (is_placed c.args.shape.now f.before f.knows (goal_of c.args.machine.now) f.stands.0 (opened_by c.args.opens) f.own c.args.found c.if-found-machine.true x (sym c.args.side.now.same_worker ∙ ap (λ (n : View). n.worker) f.view_is) (omega (arith, marks))))

pub at_entry-requires : goal.at_entry-requires
at_entry-requires g c =
    let f = c.requires in
    let n = installed (ref_of c.args.machine.now.task.desc) c.args.machine.now.task.entry in
    let t = c.args.machine.now.task in
    let n = installed (ref_of t.desc) t.entry in
    let g = grows_note f.before n refl in record {
      between = record { trusts = c.requires.trusts; own = subst (λ (x : View). KnowsOwn x (opened_by c.args.opens)) (sym (f.view_is ∙ noted_next c.args.shape.now f.before f.knows (goal_of c.args.machine.now) f.stands.0 c.args.found c.if-found-machine.false n (saw_held c.args.shape.now f.before f.knows (goal_of c.args.machine.now) f.stands.0 c.args.found (ref_of c.in-Desc.desc) c.in-Desc.ensures (sym c.if-eq.ensures)))) (own_grows _ _ (grows_note f.before n refl) _ f.own) };
      next = subst (IsNextTask c.args.side.now.known.view) (sym c.after-machine.ensures)
          (subst (λ (x : View). IsNextTask x (record { desc = t.desc; size = t.size; state = t.state; entry = t.entry + 1; owed = t.owed; reason = t.reason })) (sym (f.view_is ∙ noted_next c.args.shape.now f.before f.knows (goal_of c.args.machine.now) f.stands.0 c.args.found c.if-found-machine.false n (saw_held c.args.shape.now f.before f.knows (goal_of c.args.machine.now) f.stands.0 c.args.found (ref_of c.in-Desc.desc) c.in-Desc.ensures (sym c.if-eq.ensures))))
          (held_next f.before _ g.keeps g.failures (goal_of c.args.machine.now) f.stands.0.undecided f.stands.0.goal (nothing_grows _ _ g f.stands.0.owes) (inl refl)));
    }

pub returns-in-Value : goal.returns-in-Value
returns-in-Value g c =
    let f = c.requires in
    let t = c.args.machine.now.task in
    let n = mismatch (ref_of t.desc) t.entry 0 in
    let g = grows_note f.before n refl in
    goes_on (lead c.args.shape.now _ _ _ (On (work.WriteReason t)) (f.view_is ∙ noted_next c.args.shape.now f.before f.knows (goal_of c.args.machine.now) f.stands.0 c.args.found c.if-found-machine.false n (saw_value c.args.shape.now f.before f.knows (goal_of c.args.machine.now) f.stands.0 c.args.found c.if-found-machine.false c.in-Value.ensures))
    (own_grows _ _ g _ f.own, record { at = at_grows _ _ g _ (at_goal _ _ _ f.stands.0); undecided = f.stands.0.undecided; seen = inl refl }))

pub returns-in-Mark : goal.returns-in-Mark
returns-in-Mark g c =
    let f = c.requires in
    let n = found (ref_of c.in-Mark.mark) c.args.machine.now.change.cell in
    let g = grows_note f.before n refl in
    goes_on (subst (λ (s : Settles). Leads c.args.shape.now c.args.side.now.known.view (opened_by c.args.opens) (On (work.Settle s (goal_of c.args.machine.now)))) (sym c.met-machine.ensures)
    (lead c.args.shape.now _ _ _ (On (work.Settle (settles.Desc c.in-Mark.mark c.args.machine.now.change.cell) (goal_of c.args.machine.now))) (f.view_is ∙ noted_next c.args.shape.now f.before f.knows (goal_of c.args.machine.now) f.stands.0 c.args.found c.if-found-machine.false n (saw_mark c.args.shape.now f.before f.knows (goal_of c.args.machine.now) f.stands.0 c.args.found (ref_of c.in-Mark.mark) c.in-Mark.ensures))
    (own_grows _ _ g _ f.own, (try_grows c.args.shape.now _ _ g (goal_of c.args.machine.now) f.stands.0, names_grows c.args.shape.now _ _ g (goal_of c.args.machine.now) f.stands.1, inl refl))))

pub returns-else-eq : goal.returns-else-eq
returns-else-eq g c =
    let f = c.requires in
    let n = met (ref_of c.in-Desc.desc) in
    let g = grows_note f.before n refl in
    goes_on (lead c.args.shape.now _ _ _ (On (work.Control c.in-Desc.desc)) (f.view_is ∙ noted_next c.args.shape.now f.before f.knows (goal_of c.args.machine.now) f.stands.0 c.args.found c.if-found-machine.false n (saw_other c.args.shape.now f.before f.knows (goal_of c.args.machine.now) f.stands.0 c.args.found (ref_of c.in-Desc.desc) c.in-Desc.ensures (sym c.if-eq.ensures)))
    (own_grows _ _ g _ f.own, (nothing_grows _ _ g f.stands.0.owes, inr (inl refl))))

pub returns-then-eq : goal.returns-then-eq
returns-then-eq g c = c.at_entry.ensures _
