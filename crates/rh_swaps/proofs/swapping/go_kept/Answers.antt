use Rattle.rh_swaps.proofs.Going.{goes_if}
use Rattle.rh_swaps.proofs.swapping.go_kept.Goals as goal

pub returns : goal.returns
returns c =
    let e = c.step_kept_at.ensures in goes_if c.step_kept_at.result e.same (λ made. e.goes made _ c.requires.goes.own) c.requires.goes
