use Rattle.std.proofs.Common.{ℕ, ◌+◌, ◌^◌, ◌<◌, drop, inr, subst, length, get_or}
use Rattle.rh_layout.specs.Round.{cell_ahead}
use Rattle.rh_probe.specs.Segment.{IsAway}
use Rattle.rh_acts.proofs.FrontLemmas.{remove_written, absence_written}
use Rattle.rh_acts.proofs.entries.remove_entries.Goals as goal

pub returns-in-Goes : goal.returns-in-Goes
returns-in-Goes c =
    absence_written c.args.bits c.args.key c.in-Goes.at c.home-first.result c.args.seen.now c.write_entries.new.entries (drop (c.in-Goes.at + 1) c.args.entries.now)
    c.requires.bits c.requires.within c.in-Goes.ensures c.home-first.ensures.value c.write_entries.ensures

pub returns-in_default : goal.returns-in_default
returns-in_default c =
    inr (c.in-Here.at, c.in-Here.ensures, subst (λ h. (p : ℕ) → c.in-Here.at < p → p < length c.args.seen.now → IsAway c.args.bits (cell_ahead (2 ^ c.args.bits) h p) (get_or c.args.seen.now p 0)) c.home-first.ensures.value c.in_default.ensures)

pub returns : goal.returns
returns c =
    remove_written c.args.bits c.args.key c.in-Here.at c.in-Some.last c.home-first.result c.args.seen.now c.write_entries-2.new.entries (drop (c.in-Some.last + 1) c.args.entries.now)
    c.requires.bits c.requires.within c.in-Here.ensures c.in-Some.ensures c.home-first.ensures.value c.write_entries-2.ensures
