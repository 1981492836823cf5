use Rattle.std.proofs.Common.{refl}
use Rattle.rh_script_run.specs.Files.{with_snapshot}
use Rattle.rh_script_run.proofs.FileLemmas.{now_has, now_stand}
use Rattle.rh_script_run.proofs.steps.snapshot_step.Goals as goal

pub returns-clause-made : goal.returns-clause-made
returns-clause-made g c lists named files has stand apart =
    let path = c.args.path.now in
    let put = c.in_ok-put_snapshot.ensures.put in
    rw c.table_of-table.ensures (record {
      named = named;
      files = with_snapshot files path c.args.set.now;
      is = refl;
      stand = now_stand files _ _ path put.0 c.args.set.now put.1 has put.2 lists named apart stand;
      has = now_has files _ _ path put.0 c.args.set.now put.1 has put.2;
    })
