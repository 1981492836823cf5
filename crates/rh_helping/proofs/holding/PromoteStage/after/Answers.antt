use Rattle.std.proofs.Common.{ap, eqb, None, ℕ}
use Rattle.rh_words.specs.Words.{ref_of}
use Rattle.rh_helping.specs.Next.StageOutcome.{On}
use Rattle.rh_helping.specs.Next.{Work as work}
use Rattle.rh_helping.specs.Machine.{goal_of}
use Rattle.rh_helping.proofs.Leading.{goes_on, lead}
use Rattle.rh_helping.proofs.Marking.{promoted, settled_own}
use Rattle.rh_helping.proofs.holding.PromoteStage.after.Goals as goal

pub mark_word-requires : goal.mark_word-requires
mark_word-requires g c = let f = c.requires in (f.knows.sound.marks (ref_of c.args.machine.now.mark) c.args.machine.now.change.cell f.stands.0.met).0

pub returns : goal.returns
returns g c =
    let f = c.requires in
    let word = c.args.found in
    goes_on (lead c.args.shape.now _ _ _ (On (work.Recheck (goal_of c.args.machine.now) (eqb word c.mark_word.result))) f.view_is (
      settled_own _ _ f.stands.0 _ f.own None word,
      promoted _ _ f.stands.0 word (eqb word c.mark_word.result) (ap (λ (n : ℕ). eqb word n) c.mark_word.ensures),
    ))
