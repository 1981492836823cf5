use Rattle.std.proofs.Common.{◌∙◌, ap, subst}
use Rattle.std.specs.Io.Buffered.{writer_contents}
use Rattle.rh_bytes.specs.Counting.{inner_of}
use Rattle.rh_script.specs.Script.{steps_of}
use Rattle.rh_script_run.specs.Ends.{Ends as Means}
use Rattle.rh_script_run.specs.Environment.{environment}
use Rattle.rh_streams.specs.ByLine.{lines_to}
use Rattle.rh_streams.proofs.EndingLemmas.{ends_with, ends_by, told_as_tells}
use Rattle.rh_set_program.specs.declared.status.Fault.TheVariants.{Program}
use Rattle.rh_set_program.proofs.script.run_out.Goals as goal

pub returns-clause-ends : goal.returns-clause-ends
returns-clause-ends g c files known =
    let left = inner_of c.run_noting-outcome.new.writer in
    (ends_with g.W.Write.contents (lines_to left) c.into_inner.result _ _ _
    (subst (λ w. Means files (steps_of c.args.script.now)
    (environment (g.S.Lender.state c.args.shelf.now) (g.N.Runner.refused_starts c.args.runner.now) (writer_contents g.W.Write.contents (lines_to w)))
    (environment (g.S.Lender.state c.run_noting-outcome.new.shelf) (g.N.Runner.refused_starts c.run_noting-outcome.new.runner) (writer_contents g.W.Write.contents (lines_to left))) c.run_noting-outcome.result.0)
    c.new-writer.ensures.inner (c.run_noting-outcome.ensures.meant files known))
    (c.into_inner.ensures ∙ ap lines_to c.into_inner-lines.ensures) (told_as_tells _ _ _ c.running.ensures) c.finish-ended.ensures).ends

pub returns-clause-cases : goal.returns-clause-cases
returns-clause-cases g c =
    let f = c.finish-ended.ensures in ends_by _ Program _ _ _ _ (told_as_tells _ _ _ c.running.ensures) f.fails f.ends
