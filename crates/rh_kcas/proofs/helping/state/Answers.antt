use Rattle.std.proofs.Common.{ap}
use Rattle.rh_words.specs.View.{View}
use Rattle.rh_words.specs.Words.{ref_of}
use Rattle.rh_helping.proofs.Controls.{saw_control}
use Rattle.rh_helping.proofs.Starting.{may_read_control}
use Rattle.rh_kcas.proofs.Helped.{clear_saw, notes_saw, stands_saw}
use Rattle.rh_kcas.proofs.helping.state.Goals as goal

pub make-word-requires-clause-allowed : goal.make-word-requires-clause-allowed
make-word-requires-clause-allowed c = may_read_control _ _ c.requires.trusts.knows c.args.desc c.requires.known

pub returns-clause-clear : goal.returns-clause-clear
returns-clause-clear c =
    let v = c.args.side.now.known.view in
    clear_saw v _ (ref_of c.args.desc) c.state_by.result
    (saw_control v (ref_of c.args.desc) c.make-word.result (c.make-word.ensures.finds.1 c.requires.known) c.state_by.result c.state_by.ensures _ _ c.requires.known c.make-word.ensures.view_is).0 c.requires.clear

pub returns-clause-stands : goal.returns-clause-stands
returns-clause-stands c =
    let v = c.args.side.now.known.view in
    stands_saw v _ (ref_of c.args.desc) c.state_by.result
    (saw_control v (ref_of c.args.desc) c.make-word.result (c.make-word.ensures.finds.1 c.requires.known) c.state_by.result c.state_by.ensures _ _ c.requires.known c.make-word.ensures.view_is).0

pub returns-clause-facts : goal.returns-clause-facts
returns-clause-facts c =
    let v = c.args.side.now.known.view in
    notes_saw v _ (ref_of c.args.desc) c.state_by.result
    (saw_control v (ref_of c.args.desc) c.make-word.result (c.make-word.ensures.finds.1 c.requires.known) c.state_by.result c.state_by.ensures _ _ c.requires.known c.make-word.ensures.view_is).0
    (ap (λ (x : View). x.opening) c.make-word.ensures.view_is)
