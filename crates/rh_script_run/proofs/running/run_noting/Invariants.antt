use Rattle.std.proofs.Common.{◌≡◌, None, Some, length, take}
use Rattle.rh_script.specs.Names.{names_in}
use Rattle.rh_script.specs.Script.{steps_of}
use Rattle.rh_shelf.specs.Shelf.{Files}
use Rattle.rh_script_run.specs.Environment.{environment_of}
use Rattle.rh_script_run.specs.Reached.{Reached}
use Rattle.rh_script_run.proofs.running.run_noting.Given as goal

abbrev pub invariant-loop-step : goal.invariant-loop-step
invariant-loop-step g l = record {
  still_unknown : (g.S.Lender.state l.fn.shelf).files ≡ None → (g.S.Lender.state l.shelf).files ≡ None;
  fine : (g.S.Lender.state l.shelf).failures ≡ (g.S.Lender.state l.fn.shelf).failures;
  read : (g.S.Lender.state l.shelf).failed_reads ≡ (g.S.Lender.state l.fn.shelf).failed_reads;
  started : g.N.Runner.refused_starts l.runner ≡ g.N.Runner.refused_starts l.fn.runner;
  written : l.writer.failures ≡ l.fn.writer.failures;
  many : length l.workspace.lists.items ≡ length (names_in (take l.step-index (steps_of l.fn.script)));
  reached : (files : Files) → (g.S.Lender.state l.fn.shelf).files ≡ Some files
      → Reached files (take l.step-index (steps_of l.fn.script)) (environment_of g.S.Lender.state g.N.Runner.refused_starts g.W.Write.contents l.fn.shelf l.fn.runner l.fn.writer) (record {
        set = l.workspace.set;
        lists = l.workspace.lists.items;
        environment = environment_of g.S.Lender.state g.N.Runner.refused_starts g.W.Write.contents l.shelf l.runner l.writer;
      });
}
