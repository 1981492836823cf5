use Rattle.std.proofs.Common.{◌≡◌, ◌≤◌, ◌+◌, ◌*◌, ◌++◌, Err, subst, sym, arith, rules}
use Rattle.std.proofs.lemmas.Result.{err_from_is_err_and}
use Rattle.rh_bytes.specs.Counting.{inner_of}
use Rattle.rh_numbers.specs.declared.limits.TheConstants.{MAX_BYTES, PART_BYTES}
use Rattle.rh_numbers.specs.Parts.{keys_read, line_reached, so_far_of}
use Rattle.rh_numbers.proofs.Parts.{GoesOn}
use Rattle.rh_numbers.proofs.Taken.{Fresh}
use Rattle.rh_splitting.specs.Splitting.{PutsKeys, SayFirst}
use Rattle.rh_splitting.proofs.Given.{both_given}
use Rattle.rh_splitting.proofs.Texts.{part_first, refused_key, still_fresh, takes_all, takes_part, text_ends, text_goes_on, text_stops, text_too_long}
use Rattle.rh_splitting.proofs.splitting.split_text.Goals as goal

pub returns-in_err-split_keys-clause-split : goal.returns-in_err-split_keys-clause-split
returns-in_err-split_keys-clause-split g c =
    let p = err_from_is_err_and c.from_residual.result c.from_residual.ensures.1 in
    let start = g.R.Read.remaining (inner_of c.args.reader.now) in
    let given = c.loop.invariant.going in
    let next = c.read_part-outcome.new.self in
    let first : SayFirst start (given.0 ++ keys_read next) =
    part_first start _ _ (8192 * c.loop.counter) given.0 c.loop.reading next c.read_part-outcome.result given.1 c.loop.invariant.none c.read_part-outcome.ensures.part in
    let puts : PutsKeys {X = Unit {0}} g.W.Write.contents c.loop.parts c.split_keys.new.parts (keys_read next) (Err c.in_err-split_keys.field-0.0) = search rules in
    rw (p.1, p.2) (refused_key (Unit {0}) start (g.R.Read.remaining (inner_of c.read_part-outcome.new.reader)) g.W.Write.contents c.args.parts.now c.loop.parts c.split_keys.new.parts given.0 (keys_read next) c.in_err-split_keys.field-0.0 given.3 first puts)

pub returns-in_err-split_keys-clause-takes : goal.returns-in_err-split_keys-clause-takes
returns-in_err-split_keys-clause-takes g c =
    takes_part _ _ _ (8192 * c.loop.counter) _ c.loop.reading c.read_part-outcome.new.self c.read_part-outcome.result c.loop.invariant.going.2 c.read_part-outcome.ensures.part

pub returns-in_err-outcome-clause-split : goal.returns-in_err-outcome-clause-split
returns-in_err-outcome-clause-split g c =
    let p = err_from_is_err_and c.from_residual-in_err-outcome.result c.from_residual-in_err-outcome.ensures.1 in
    let start = g.R.Read.remaining (inner_of c.args.reader.now) in
    let given = c.loop.invariant.going in
    let next = c.read_part-outcome.new.self in
    let e = c.in_err-outcome.field-0.0 in
    rw (p.1, p.2) (
      given.0 ++ keys_read next,
      text_stops start _ _ c.loop.counter given.0 c.loop.reading next e given.1 given.2 c.loop.invariant.none c.in_err-outcome.ensures.part (search rules) (search rules),
      both_given _ c.args.parts.now c.loop.parts c.split_keys.new.parts given.0 (keys_read next) given.3 (search rules),
    )

pub returns-in_err-outcome-clause-takes : goal.returns-in_err-outcome-clause-takes
returns-in_err-outcome-clause-takes g c =
    takes_part _ _ _ (8192 * c.loop.counter) _ c.loop.reading c.read_part-outcome.new.self c.read_part-outcome.result c.loop.invariant.going.2 c.read_part-outcome.ensures.part

pub returns-then-not-branch-clause-split : goal.returns-then-not-branch-clause-split
returns-then-not-branch-clause-split g c =
    let given = c.loop.invariant.going in
    let next = c.read_part-outcome.new.self in (
      given.0 ++ keys_read next,
      text_ends (g.R.Read.remaining (inner_of c.args.reader.now)) _ _ (8192 * c.loop.counter) given.0 c.loop.reading next c.in_ok-outcome.field-0 (search rules) given.1 c.loop.invariant.none c.in_ok-outcome.ensures.part,
      both_given _ c.args.parts.now c.loop.parts c.split_keys.new.parts given.0 (keys_read next) given.3 (search rules),
    )

pub returns-then-not-branch-clause-takes : goal.returns-then-not-branch-clause-takes
returns-then-not-branch-clause-takes g c =
    takes_part _ _ _ (8192 * c.loop.counter) _ c.loop.reading c.read_part-outcome.new.self c.read_part-outcome.result c.loop.invariant.going.2 c.read_part-outcome.ensures.part

pub loop-preserved : goal.loop-preserved
loop-preserved g c =
    let start = g.R.Read.remaining (inner_of c.args.reader.now) in
    let now = g.R.Read.remaining (inner_of c.read_part-outcome.new.reader) in
    let given = c.loop.invariant.going in
    let next = c.read_part-outcome.new.self in
    let keys = given.0 ++ keys_read next in
    let goes = text_goes_on start _ now (8192 * c.loop.counter) given.0 c.loop.reading next c.in_ok-outcome.field-0 (search rules) given.1 c.loop.invariant.none c.in_ok-outcome.ensures.part in
    let fresh = still_fresh start _ now (8192 * c.loop.counter) given.0 c.loop.reading next c.in_ok-outcome.field-0 (search rules) given.2 c.loop.invariant.none c.in_ok-outcome.ensures.part in
    let place : 8192 * c.loop.counter + PART_BYTES ≡ 8192 * (c.loop.counter + 1) = omega arith in
    record {
      going = (
        keys,
        subst (λ n. GoesOn start now n keys (line_reached c.clear.new.self) (so_far_of c.clear.new.self)) place
            (subst (λ l. GoesOn start now (8192 * c.loop.counter + PART_BYTES) keys l (so_far_of c.clear.new.self)) (sym c.clear.ensures.line)
            (subst (λ s. GoesOn start now (8192 * c.loop.counter + PART_BYTES) keys (line_reached next) s) (sym c.clear.ensures.so_far) goes)),
        subst (λ n. Fresh start now n keys (line_reached c.clear.new.self) (so_far_of c.clear.new.self)) place
            (subst (λ l. Fresh start now (8192 * c.loop.counter + PART_BYTES) keys l (so_far_of c.clear.new.self)) (sym c.clear.ensures.line)
            (subst (λ s. Fresh start now (8192 * c.loop.counter + PART_BYTES) keys (line_reached next) s) (sym c.clear.ensures.so_far) fresh)),
        both_given _ c.args.parts.now c.loop.parts c.split_keys.new.parts given.0 (keys_read next) given.3 (search rules),
      );
      none = c.clear.ensures.keys;
      line = omega (arith, c.loop.invariant.line, c.in_ok-outcome.ensures.line, c.clear.ensures.line);
      fine = search rules;
    }

pub returns-clause-split : goal.returns-clause-split
returns-clause-split g c =
    let given = c.loop.invariant.going in
    let whole : MAX_BYTES ≤ 8192 * c.loop.counter = search rules in
    (given.0, text_too_long _ _ (8192 * c.loop.counter) given.0 _ _ given.1 whole, given.3)

pub returns-clause-takes : goal.returns-clause-takes
returns-clause-takes g c = takes_all _ _ (8192 * c.loop.counter) c.loop.invariant.going.0 _ _ c.loop.invariant.going.2
