use Rattle.std.proofs.Common.{rules, length, ◌-◌}
use Rattle.rh_lists.proofs.Skips.{fills}
use Rattle.rh_lists.proofs.skipping.Skipping.fill.Goals as goal

pub returns-clause-kept : goal.returns-clause-kept
returns-clause-kept g c =
    let s = c.args.self.now in
    fills s.is_known s.given s.held c.fill_front-count.result.count (length s.front - s.held) s.lines s.front c.fill_front-count.new.buf _ _ c.requires (s.none_given c.requires) (search rules) c.fill_front-count.ensures.bound c.fill_front-count.ensures.bytes
