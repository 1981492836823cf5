use Rattle.std.proofs.Common.{subst}
use Rattle.rh_streams.specs.Finishing.{EndsBy}
use Rattle.rh_streams.proofs.EndingLemmas.{ends_by}
use Rattle.rh_pack_program.specs.Told.{TellsFileAt, of_program}
use Rattle.rh_pack_program.proofs.streams.list_streams.Goals as goal

pub returns : goal.returns
returns g c =
    let e = c.list_out-ended.ensures.ends in
    subst (λ paths. EndsBy (TellsFileAt paths) of_program c.list_out-ended.result.0) c.in-Ok-Ok.ensures.named
    (ends_by _ of_program e.outcome e.told e.written _ e.tells e.unwritten e.ends)
