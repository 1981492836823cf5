use Rattle.std.proofs.Common.{rules}
use Rattle.rh_key_files.proofs.Filled.{is_filled, part_refused, part_short, part_full}
use Rattle.rh_key_files.proofs.Interrupted.{part_cut}
use Rattle.rh_key_files.proofs.batch.read_part.Goals as goal

pub returns-in-Some-clause-run : goal.returns-in-Some-clause-run
returns-in-Some-clause-run g c =
    let filled = is_filled _ _ c.fill_front-count.result.count c.decode_numbers.ensures.spelled (search rules) c.fill_front-count.ensures.bound c.decode_numbers.ensures.fit in
    let known = part_refused c.args.version c.args.index _ _ _ _ c.fill_front-count.result.count _ c.in-Some.index _ filled c.in-Some.ensures.first c.fill_front-count.ensures.bytes in
    record { reads = record { known = known; takes = search rules; counts = search rules }; tested = search rules; no_memory = search rules }

pub returns-then-failed-clause-run : goal.returns-then-failed-clause-run
returns-then-failed-clause-run g c =
    let filled = is_filled _ _ c.fill_front-count.result.count c.decode_numbers.ensures.spelled (search rules) c.fill_front-count.ensures.bound c.decode_numbers.ensures.fit in
    let cut = part_cut c.args.version c.args.index _ _ _ _ c.fill_front-count.result.count _ filled (search rules) (c.fill_front-count.ensures.early c.if-failed.true) c.fill_front-count.ensures.bytes in
    record { reads = search rules; tested = λ _. cut; no_memory = search rules }

pub returns-then-count-part-clause-run : goal.returns-then-count-part-clause-run
returns-then-count-part-clause-run g c =
    let filled = is_filled _ _ c.fill_front-count.result.count c.decode_numbers.ensures.spelled (search rules) c.fill_front-count.ensures.bound c.decode_numbers.ensures.fit in
    let known = part_short c.args.version c.args.index _ _ _ _ c.fill_front-count.result.count _ _ filled (search rules) c.if-count-part.true c.fill_front-count.ensures.bytes (c.fill_front-count.ensures.end (search rules) c.if-count-part.true) in
    record { reads = record { known = known; takes = search rules; counts = search rules }; tested = search rules; no_memory = search rules }

pub returns-clause-run : goal.returns-clause-run
returns-clause-run g c =
    let filled = is_filled _ _ c.fill_front-count.result.count c.decode_numbers.ensures.spelled (search rules) c.fill_front-count.ensures.bound c.decode_numbers.ensures.fit in
    let known = part_full c.args.version c.args.index _ _ _ _ c.fill_front-count.result.count _ filled (search rules) c.if-count-part.false c.fill_front-count.ensures.bytes in
    record { reads = record { known = known; takes = search rules; counts = search rules }; tested = search rules; no_memory = search rules }
