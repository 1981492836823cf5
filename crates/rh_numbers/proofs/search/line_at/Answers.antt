use Rattle.std.proofs.Common.{◌≡◌, ◌≤◌, length, take, Some, inr, ◌∙◌, arith, rules}
use Rattle.rh_numbers.specs.declared.limits.TheConstants.{MAX_READS, PART_BYTES}
use Rattle.rh_numbers.specs.Excerpt.{held_by}
use Rattle.rh_numbers.specs.Search.{found_by}
use Rattle.rh_numbers.proofs.Searching.{Comes, IsWhole, end_answer, end_lacks, found_shows, long_lacks, looks_on, part_looked, whole_or_last}
use Rattle.rh_numbers.proofs.search.line_at.Goals as goal

pub returns-then-ends_in-clause-found : goal.returns-then-ends_in-clause-found
returns-then-ends_in-clause-found g c =
    let start = g.R.Read.remaining c.args.reader.now.inner in
    let mid = g.R.Read.remaining c.loop-at.reader.inner in
    let now = g.R.Read.remaining c.fill_front-count.new.reader.inner in
    let count = c.fill_front-count.result.count in
    let buf = c.fill_front-count.new.buf in
    let whole : IsWhole (take count buf) now = whole_or_last buf count now (search rules) (c.fill_front-count.ensures.end (search rules)) in
    let held = held_by c.ends_in.new.self.line in
    found_shows c.args.number held c.without_return.result c.without_return.ensures start now
    (part_looked c.args.number c.loop-at.at (take count buf) c.lines_of.result.now c.loop-at.search (λ rest. Some held) c.lines_of.ensures (c.ends_in.ensures.found (search rules)) start mid now c.loop-at.invariant.looks c.fill_front-count.ensures.bytes whole)

pub returns-then-count-lt-PART_BYTES-clause-found : goal.returns-then-count-lt-PART_BYTES-clause-found
returns-then-count-lt-PART_BYTES-clause-found g c =
    let start = g.R.Read.remaining c.args.reader.now.inner in
    let mid = g.R.Read.remaining c.loop-at.reader.inner in
    let now = g.R.Read.remaining c.fill_front-count.new.reader.inner in
    let count = c.fill_front-count.result.count in
    let buf = c.fill_front-count.new.buf in
    let whole : IsWhole (take count buf) now = whole_or_last buf count now (search rules) (c.fill_front-count.ensures.end (search rules)) in
    let new = c.ends_in.new.self in
    let comes : Comes c.args.number start now (found_by new) =
    part_looked c.args.number c.loop-at.at (take count buf) c.lines_of.result.now c.loop-at.search (found_by new) c.lines_of.ensures (c.ends_in.ensures.going (search rules)) start mid now c.loop-at.invariant.looks c.fill_front-count.ensures.bytes whole in
    end_answer c.args.number start now new c.at_end.result comes (c.fill_front-count.ensures.end (search rules) (search rules)) c.at_end.ensures.found

pub returns-then-count-lt-PART_BYTES-clause-none : goal.returns-then-count-lt-PART_BYTES-clause-none
returns-then-count-lt-PART_BYTES-clause-none g c = λ none.
    let start = g.R.Read.remaining c.args.reader.now.inner in
    let mid = g.R.Read.remaining c.loop-at.reader.inner in
    let now = g.R.Read.remaining c.fill_front-count.new.reader.inner in
    let count = c.fill_front-count.result.count in
    let buf = c.fill_front-count.new.buf in
    let whole : IsWhole (take count buf) now = whole_or_last buf count now (search rules) (c.fill_front-count.ensures.end (search rules)) in
    let new = c.ends_in.new.self in
    let comes : Comes c.args.number start now (found_by new) =
    part_looked c.args.number c.loop-at.at (take count buf) c.lines_of.result.now c.loop-at.search (found_by new) c.lines_of.ensures (c.ends_in.ensures.going (search rules)) start mid now c.loop-at.invariant.looks c.fill_front-count.ensures.bytes whole in
    inr (end_lacks c.args.number start now new comes (c.fill_front-count.ensures.end (search rules) (search rules)) (c.at_end.ensures.none none))

pub returns-clause-none : goal.returns-clause-none
returns-clause-none g c = λ none.
    let all : MAX_READS ≤ c.loop-at.at = search rules in
    inr (long_lacks c.args.number c.loop-at.at _ _ c.loop-at.search c.loop-at.invariant.looks (omega (arith, all)))

pub loop-at-preserved : goal.loop-at-preserved
loop-at-preserved g c =
    let start = g.R.Read.remaining c.args.reader.now.inner in
    let mid = g.R.Read.remaining c.loop-at.reader.inner in
    let now = g.R.Read.remaining c.fill_front-count.new.reader.inner in
    let count = c.fill_front-count.result.count in
    let buf = c.fill_front-count.new.buf in
    let whole : IsWhole (take count buf) now = whole_or_last buf count now (search rules) (c.fill_front-count.ensures.end (search rules)) in
    let new = c.ends_in.new.self in
    let comes : Comes c.args.number start now (found_by new) =
    part_looked c.args.number c.loop-at.at (take count buf) c.lines_of.result.now c.loop-at.search (found_by new) c.lines_of.ensures (c.ends_in.ensures.going (search rules)) start mid now c.loop-at.invariant.looks c.fill_front-count.ensures.bytes whole in
    let full : length (take count buf) ≡ PART_BYTES = search rules in
    record {
      looks = looks_on c.args.number c.loop-at.at (take count buf) new start mid now c.loop-at.search c.loop-at.invariant.looks c.fill_front-count.ensures.bytes full comes;
      fine = c.fill_front-count.ensures.counts.stays (search rules) ∙ c.loop-at.invariant.fine;
    }
