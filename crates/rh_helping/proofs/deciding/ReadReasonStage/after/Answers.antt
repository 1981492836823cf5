use Rattle.std.proofs.Common.{refl, sym, subst}
use Rattle.rh_words.specs.View.{View}
use Rattle.rh_words.specs.Words.{ref_of}
use Rattle.rh_world.specs.Facts.Fact.{failed_at}
use Rattle.rh_carrier.specs.Own.{KnowsOwn}
use Rattle.rh_helping.specs.Goal.{opened_by}
use Rattle.rh_helping.proofs.Decisions.{reason_next}
use Rattle.rh_helping.proofs.Growing.{own_grows}
use Rattle.rh_helping.proofs.Rows.{grows_note}
use Rattle.rh_helping.proofs.deciding.ReadReasonStage.after.Goals as goal

pub at_entry-requires-clause-between : goal.at_entry-requires-clause-between
at_entry-requires-clause-between g c = let f = c.requires in record { trusts = f.trusts; own = subst (λ (n : View). KnowsOwn n (opened_by c.args.opens)) (sym f.view_is) (own_grows _ _ (grows_note f.before (failed_at (ref_of c.args.machine.now.task.desc) c.args.found) refl) _ f.own) }

pub at_entry-requires-clause-next : goal.at_entry-requires-clause-next
at_entry-requires-clause-next g c = let f = c.requires in reason_next _ f.before _ c.args.machine.now.task c.args.machine.now.decider c.args.found c.requires.trusts.knows f.view_is f.stands.0

pub returns : goal.returns
returns g c = c.at_entry.ensures _
