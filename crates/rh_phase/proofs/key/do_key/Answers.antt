use Rattle.std.proofs.Common.{rules, ⊎_elim, length, subst}
use Rattle.rh_threads.specs.Keys.{IsTriedSo}
use Rattle.rh_threads.specs.declared.key.Tried.{Tried}
use Rattle.rh_threads.specs.declared.key.Tried.TheVariants.{Again, Longer}
use Rattle.rh_threads.proofs.Keying.{done_on, stays_on, undone_on}
use Rattle.rh_phase.proofs.key.do_key.Goals as goal

pub returns-in-Done-clause-done : goal.returns-in-Done-clause-done
returns-in-Done-clause-done g c = (done_on c.loop.invariant.undone c.in-Done.ensures.tries).so

pub loop-preserved : goal.loop-preserved
loop-preserved g c =
    let h = c.loop.invariant in
    let e = c.try_key.ensures in
    let tried = λ (t : Tried). IsTriedSo (record { rt = c.args.rt; table = c.args.table; kind = c.args.kind; key = c.args.key; is_key = c.requires.key }) (length c.loop.seen) c.loop.seat c.try_key.new.seat t in
    record {
      stays = stays_on h.stays.same e.stays;
      undone = undone_on h.undone
          (⊎_elim (λ is. let t : tried Again = subst tried is e.tries in t.0) (λ is. let t : tried Longer = subst tried is e.tries in t.0) c.in-Again.is);
      seen = search rules;
      entries = search rules;
    }
