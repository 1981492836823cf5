use Rattle.std.proofs.Common.{◌∙◌, inr, refl, rules}
use Rattle.rh_swaps.proofs.Swapped.{is_swapped, swaps_so}
use Rattle.rh_swaps.proofs.swapping.kcas.Goals as goal

pub returns-in-Succeeded-clause-stays : goal.returns-in-Succeeded-clause-stays
returns-in-Succeeded-clause-stays g c =
    let e = c.in-Succeeded.ensures in
    let s = is_swapped c.args.table.now.shape c.args.entries.now c.args.seat.now.side.known.view _ c.carry_out.new.side.known.view _ _ c.args.seat.now.side.same_number e.stays.knows c.requires.rests.rested c.open.ensures.opens e in
    let own = e.stays.seat ∙ c.open.ensures.stays.seat ∙ c.requires.rests.here.own in
    record { same = search rules; rests = record { here = record { own = own; alone = c.requires.rests.here.alone }; knows = e.stays.knows; rested = s.rested } }

pub returns-in-Succeeded-clause-swaps : goal.returns-in-Succeeded-clause-swaps
returns-in-Succeeded-clause-swaps g c =
    let e = c.in-Succeeded.ensures in
    let s = is_swapped c.args.table.now.shape c.args.entries.now c.args.seat.now.side.known.view _ c.carry_out.new.side.known.view _ _ c.args.seat.now.side.same_number e.stays.knows c.requires.rests.rested c.open.ensures.opens e in
    swaps_so s (s.so, s.acts)

pub returns-in-Failed-clause-stays : goal.returns-in-Failed-clause-stays
returns-in-Failed-clause-stays g c =
    let e = c.in-Failed.ensures in
    let s = is_swapped c.args.table.now.shape c.args.entries.now c.args.seat.now.side.known.view _ c.carry_out.new.side.known.view _ _ c.args.seat.now.side.same_number e.stays.knows c.requires.rests.rested c.open.ensures.opens e in
    let own = e.stays.seat ∙ c.open.ensures.stays.seat ∙ c.requires.rests.here.own in
    record { same = search rules; rests = record { here = record { own = own; alone = c.requires.rests.here.alone }; knows = e.stays.knows; rested = s.rested } }

pub returns-in-Failed-clause-swaps : goal.returns-in-Failed-clause-swaps
returns-in-Failed-clause-swaps g c =
    let e = c.in-Failed.ensures in
    let s = is_swapped c.args.table.now.shape c.args.entries.now c.args.seat.now.side.known.view _ c.carry_out.new.side.known.view _ _ c.args.seat.now.side.same_number e.stays.knows c.requires.rests.rested c.open.ensures.opens e in
    swaps_so s (s.so, s.acts)

pub returns-in-Withdrawn-clause-stays : goal.returns-in-Withdrawn-clause-stays
returns-in-Withdrawn-clause-stays g c =
    let e = c.in-Withdrawn.ensures in
    let s = is_swapped c.args.table.now.shape c.args.entries.now c.args.seat.now.side.known.view _ c.carry_out.new.side.known.view _ _ c.args.seat.now.side.same_number e.stays.knows c.requires.rests.rested c.open.ensures.opens e in
    let own = e.stays.seat ∙ c.open.ensures.stays.seat ∙ c.requires.rests.here.own in
    record { same = search rules; rests = record { here = record { own = own; alone = c.requires.rests.here.alone }; knows = e.stays.knows; rested = s.rested } }

pub returns-in-Withdrawn-clause-swaps : goal.returns-in-Withdrawn-clause-swaps
returns-in-Withdrawn-clause-swaps g c =
    let e = c.in-Withdrawn.ensures in
    let s = is_swapped c.args.table.now.shape c.args.entries.now c.args.seat.now.side.known.view _ c.carry_out.new.side.known.view _ _ c.args.seat.now.side.same_number e.stays.knows c.requires.rests.rested c.open.ensures.opens e in
    swaps_so s (inr (s.spends refl), inr s.so, s.acts)
