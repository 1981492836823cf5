use Rattle.std.proofs.Common.{◌∙◌, rules}
use Rattle.rh_swaps.proofs.Carried.{made_same, over_same}
use Rattle.rh_swaps.proofs.reading.read.Goals as goal

pub returns : goal.returns
returns g c =
    let e = c.look.ensures in
    let r = e.reads in record {
      stays = record {
        same = search rules;
        rests = record {
          here = record { own = e.stays.seat ∙ c.requires.rests.here.own; alone = c.requires.rests.here.alone };
          knows = e.stays.knows;
          rested = record { clear = e.clear; over = over_same c.args.seat.now.side.known.view c.look.new.side.known.view r.worker r.facts e.stays.knows.sound.one_result c.requires.rests.rested r.opened };
        };
      };
      acts = made_same c.args.seat.now.side.known.view c.look.new.side.known.view r.worker r.facts e.stays.knows.sound.one_result c.requires.rests.rested r.opened;
      reads = r;
      rule_tells = e.rule_tells;
    }
