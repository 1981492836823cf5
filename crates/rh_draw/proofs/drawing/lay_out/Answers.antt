use Rattle.std.proofs.Common.{◌≡◌, ◌++◌, length, take, drop, arith}
use Rattle.std.proofs.lemmas.Grind.{common_steps}
use Rattle.rh_draw.proofs.drawing.lay_out.Goals as goal

pub returns-clause-columns : goal.returns-clause-columns
returns-clause-columns c =
    let same : take c.in_ok-flags.flags.len (c.flag_changes.new.flags ++ drop (length c.flag_changes.new.flags) c.in_ok-flags.flags.items) ≡ c.flag_changes.new.flags =
    grind (arith, common_steps) in
    rw same (λ cell lt. rw (c.deref_mut.ensures.value, c.in_ok-words.ensures) at (c.in_ok-flag_changes.ensures cell (grind (arith, common_steps))))
