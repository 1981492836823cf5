use Rattle.std.proofs.Common.{None, inr, refl, subst, sym}
use Rattle.rh_world.specs.World.{In}
use Rattle.rh_world.specs.Facts.Fact.{stale}
use Rattle.rh_words.specs.Words.{ref_of}
use Rattle.rh_words.specs.View.{View}
use Rattle.rh_words.specs.View.RowWord.{length_word}
use Rattle.rh_carrier.specs.Own.{KnowsOwn, OwesNothing}
use Rattle.rh_helping.specs.Goal.{opened_by}
use Rattle.rh_helping.specs.Work.{Begins}
use Rattle.rh_helping.proofs.Growing.{met_grows, nothing_grows, own_grows}
use Rattle.rh_helping.proofs.Rows.{serial_stale, serial_grows, serial_tells}
use Rattle.rh_helping.proofs.Starting.{begins_first}
use Rattle.rh_helping.proofs.entering.LengthSerialStage.after.Goals as goal

pub resume-requires-clause-own : goal.resume-requires-clause-own
resume-requires-clause-own g c = let f = c.requires in subst (λ (n : View). KnowsOwn n (opened_by c.args.opens)) (sym f.view_is) (own_grows _ _ (serial_grows f.before (ref_of c.args.machine.now.task.desc) c.args.found) _ f.own)

pub resume-requires-clause-owes : goal.resume-requires-clause-owes
resume-requires-clause-owes g c = let f = c.requires in subst (λ (n : View). OwesNothing n) (sym f.view_is) (nothing_grows _ _ (serial_grows f.before (ref_of c.args.machine.now.task.desc) c.args.found) f.stands.0)

pub returns-then-found-task : goal.returns-then-found-task
returns-then-found-task g c = let f = c.requires in record { same = refl; leads = c.resume.ensures.leads _; ends = c.resume.ensures.ends _ (inr (subst (λ (n : View). In (stale (ref_of c.args.machine.now.task.desc)) n.side.facts) (sym f.view_is) (serial_stale f.before (ref_of c.args.machine.now.task.desc) c.args.found c.if-found-task.true).1)) }

pub begin-requires : goal.begin-requires
begin-requires g c =
    let f = c.requires in
    let t = c.args.machine.now.task in
    let grown = (serial_grows f.before (ref_of t.desc) c.args.found) in record {
      between = record { trusts = c.requires.trusts; own = subst (λ (n : View). KnowsOwn n (opened_by c.args.opens)) (sym f.view_is) (own_grows _ _ (serial_grows f.before (ref_of c.args.machine.now.task.desc) c.args.found) _ f.own) };
      begins = subst (Begins c.args.side.now.known.view) (sym c.new-machine.ensures)
          (subst (λ (n : View). Begins n (record { desc = t.desc; size = t.size; state = t.state; entry = 0; owed = None; reason = None })) (sym f.view_is)
          (begins_first _ t.desc t.state t.size (serial_tells f.before (ref_of t.desc) c.args.found c.if-found-task.false (length_word t.size) f.stands.3) (met_grows _ _ grown (ref_of t.desc) t.state 0 f.stands.1) (nothing_grows _ _ grown f.stands.0)));
    }

pub returns : goal.returns
returns g c = c.begin.ensures _
