use Rattle.std.proofs.Common.{refl}
use Rattle.rh_threads.proofs.Gathering.{wiped_can, wiped_comes, worked_all, worked_comes}
use Rattle.rh_threads.proofs.rounds.rounds.Goals as goal

pub returns-then-are_finished-clause-done : goal.returns-then-are_finished-clause-done
returns-then-are_finished-clause-done g c =
    let t = c.args.table.now in
    let h = c.loop.invariant in
    let w = c.in_ok-crew.ensures.worked in record {
      done = record { crew = w.crew; all = worked_all t c.args.keys.now c.loop.crew c.in_ok-crew.crew h.all w; quiet = w.quiet; finished = c.if-are_finished.ensures.0 refl };
      comes = λ ph was. worked_comes t c.args.keys.now c.loop.crew c.in_ok-crew.crew h.all w ph (h.comes ph was);
    }

pub loop-preserved : goal.loop-preserved
loop-preserved g c =
    let t = c.args.table.now in
    let h = c.loop.invariant in
    let w = c.in_ok-crew.ensures.worked in
    let e = c.wipe.ensures in record {
      can = wiped_can t c.args.keys.now c.loop.crew c.in_ok-crew.crew h.all w c.wipe.new.seat e.all e.wiped e.fresh;
      all = e.all;
      comes = λ ph was. wiped_comes t c.args.keys.now c.loop.crew c.in_ok-crew.crew h.all w c.wipe.new.seat e.all e.wiped e.fresh ph (h.comes ph was);
    }
