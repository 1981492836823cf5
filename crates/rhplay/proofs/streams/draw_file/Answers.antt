use Rattle.std.proofs.Common.{inr}
use Rattle.rh_streams.proofs.EndingLemmas.{ends_by}
use Rattle.rhplay.specs.declared.status.Fault.TheVariants.{Program}
use Rattle.rhplay.proofs.streams.draw_file.Goals as goal

pub returns : goal.returns
returns g c =
    let e = c.draw_out-ended.ensures.ends in
    inr (ends_by _ Program e.outcome e.told e.written _ e.tells e.unwritten e.ends)
