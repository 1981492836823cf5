use Rattle.std.proofs.Common.{◌+◌, drop}
use Rattle.rh_acts.proofs.FrontLemmas.{insert_written}
use Rattle.rh_acts.proofs.entries.insert_entries.Goals as goal

pub returns : goal.returns
returns c =
    insert_written c.args.bits c.args.key c.in-Goes.at c.in-Some.last c.home.result c.args.seen.now c.write_entries.new.entries (drop (c.in-Some.last + 1) c.args.entries.now)
    c.requires.bits c.requires.key c.requires.within c.in-Goes.ensures c.in-Some.ensures c.home.ensures.value (rw c.cell_of-value.ensures at c.write_entries.ensures)
