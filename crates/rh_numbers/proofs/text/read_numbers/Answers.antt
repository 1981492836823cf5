use Rattle.std.proofs.Common.{◌≡◌, ◌+◌, ◌*◌, subst, arith, rules}
use Rattle.std.proofs.lemmas.Result.{err_from_is_err_and}
use Rattle.rh_numbers.specs.declared.limits.TheConstants.{PART_BYTES}
use Rattle.rh_numbers.specs.Parts.{keys_read, line_reached, so_far_of}
use Rattle.rh_numbers.proofs.Meaning.{read_from}
use Rattle.rh_numbers.proofs.Parts.{GoesOn, finished, goes_on, good_before, nothing_taken, refused, whole_part, last_part}
use Rattle.rh_numbers.proofs.Taken.{Fresh, fresh_after, taken_good, taken_parts, taken_to_fault}
use Rattle.rh_numbers.proofs.text.read_numbers.Goals as goal

pub returns-in_err-read_part-clause-known : goal.returns-in_err-read_part-clause-known
returns-in_err-read_part-clause-known g c =
    let p = err_from_is_err_and c.from_residual.result c.from_residual.ensures.1 in
    let part = c.in_err-read_part.ensures.part in
    rw (p.1, p.2) (refused _ _ _ _ part.part c.loop.reading c.read_part.new.self _ c.in_err-read_part.field-0.0 c.loop.invariant.going part.taken (search rules) part.gives)

pub returns-in_err-read_part-clause-takes : goal.returns-in_err-read_part-clause-takes
returns-in_err-read_part-clause-takes g c =
    let p = err_from_is_err_and c.from_residual.result c.from_residual.ensures.1 in
    let part = c.read_part.ensures.part in
    rw p.1 (taken_to_fault _ _ _ _ part.part _ _ _ c.loop.invariant.fresh (search rules) part.taken part.short)

pub returns-in_err-read_part-clause-tested : goal.returns-in_err-read_part-clause-tested
returns-in_err-read_part-clause-tested g c =
    let p = err_from_is_err_and c.from_residual.result c.from_residual.ensures.1 in
    let part = c.in_err-read_part.ensures.part in
    rw (p.1, p.2) (λ read.
    let good = good_before part.part (g.R.Read.remaining c.read_part.new.reader.inner) c.loop.reading c.read_part.new.self c.in_err-read_part.field-0.0 read part.gives in
    (keys_read c.read_part.new.self, search rules, taken_good _ _ _ (8192 * c.loop.counter) part.part _ _ _ _ _ _ c.loop.invariant.fresh part.taken good))

pub returns-in_err-read_part-clause-memory : goal.returns-in_err-read_part-clause-memory
returns-in_err-read_part-clause-memory g c =
    let p = err_from_is_err_and c.from_residual.result c.from_residual.ensures.1 in
    let part = c.in_err-read_part.ensures.part in
    rw (p.1, p.2) (λ memory.
    let nothing = nothing_taken part.part (g.R.Read.remaining c.read_part.new.reader.inner) c.loop.reading c.read_part.new.self c.in_err-read_part.field-0.0 memory part.gives in
    (keys_read c.read_part.new.self, search rules, taken_parts _ _ _ c.loop.counter part.part _ _ _ _ _ _ c.loop.invariant.fresh part.taken nothing.0 nothing.1))

pub returns-then-not-branch-clause-known : goal.returns-then-not-branch-clause-known
returns-then-not-branch-clause-known g c =
    let part = c.in_ok-read_part.ensures.part in
    let last = last_part part.part (g.R.Read.remaining c.read_part.new.reader.inner) c.loop.reading c.read_part.new.self c.in_ok-read_part.field-0 (search rules) part.gives in
    finished _ _ _ _ part.part _ _ _ (λ v. v.items) c.into_keys.result c.loop.invariant.going part.taken last.0 c.into_keys.ensures.few (rw c.into_keys.ensures.keys last.1)

pub returns-then-not-branch-clause-spelled : goal.returns-then-not-branch-clause-spelled
returns-then-not-branch-clause-spelled g c = read_from _ _ (λ v. v.items) _ (returns-then-not-branch-clause-known g c)

pub loop-preserved : goal.loop-preserved
loop-preserved g c =
    let start = g.R.Read.remaining c.args.reader.now.inner in
    let now = g.R.Read.remaining c.read_part.new.reader.inner in
    let next = c.read_part.new.self in
    let part = c.in_ok-read_part.ensures.part in
    let whole = whole_part part.part now c.loop.reading next c.in_ok-read_part.field-0 (search rules) part.gives in
    let place : 8192 * c.loop.counter + PART_BYTES ≡ 8192 * (c.loop.counter + 1) = omega arith in
    record {
      going = subst (λ n. GoesOn start now n (keys_read next) (line_reached next) (so_far_of next)) place (goes_on _ _ _ (8192 * c.loop.counter) PART_BYTES part.part _ _ _ _ _ _ c.loop.invariant.going part.taken whole.0 whole.1);
      fresh = subst (λ n. Fresh start now n (keys_read next) (line_reached next) (so_far_of next)) place (fresh_after _ _ _ (8192 * c.loop.counter) PART_BYTES part.part _ _ _ _ _ _ c.loop.invariant.fresh part.taken whole.0 whole.1);
      line = omega (arith, c.loop.invariant.line, c.in_ok-read_part.ensures.line);
      fine = search rules;
    }
