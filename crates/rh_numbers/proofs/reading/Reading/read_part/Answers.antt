use Rattle.std.proofs.Common.{◌≡◌, ◌≤◌, List, ℕ, [], ◌++◌, length, take, refl, sym, ap, subst, ◌∙◌, arith, rules}
use Rattle.std.proofs.KnownBytes.{Consumes-nil}
use Rattle.std.proofs.lemmas.Result.{err_from_is_err_and}
use Rattle.rh_numbers.specs.declared.limits.TheConstants.{PART_BYTES}
use Rattle.rh_numbers.specs.Parts.{keys_read}
use Rattle.rh_numbers.specs.Reading.{Stops, said_from}
use Rattle.rh_numbers.proofs.Parts.{before_failure, end_stops, is_no_limit, is_no_read, part_ends, part_stops, stops_if_known}
use Rattle.rh_numbers.proofs.reading.Reading.read_part.Goals as goal

-- the same keys, with more room
pub returns-in_err-reserve-clause-part : goal.returns-in_err-reserve-clause-part
returns-in_err-reserve-clause-part g c =
    let p = err_from_is_err_and c.from_residual.result c.from_residual.ensures.1 in
    let old = c.args.self.now in
    rw (p.1, p.2) (record {
      part = [];
      taken = Consumes-nil _;
      short = omega arith;
      gives = (refl, λ rest. ap (λ (k : List ℕ). said_from k old.line old.so_far rest) (sym c.reserve.ensures.items));
    })

pub returns-in_err-read-clause-not_too_long : goal.returns-in_err-read-clause-not_too_long
returns-in_err-read-clause-not_too_long g c =
    let p = err_from_is_err_and c.from_residual-in_err-read.result c.from_residual-in_err-read.ensures.1 in
    is_no_limit c.in_err-read.field-0.0 _ _ c.from_residual-in_err-read.result (rw p.2 at p.1) (c.in_err-read.ensures.read [])

pub returns-in_err-read-clause-counts : goal.returns-in_err-read-clause-counts
returns-in_err-read-clause-counts g c =
    let p = err_from_is_err_and c.from_residual-in_err-read.result c.from_residual-in_err-read.ensures.1 in
    let fault : _ ≡ _ = rw p.2 at p.1 in
    record {
      rose = λ read. absurd (is_no_read c.in_err-read.field-0.0 _ _ c.from_residual-in_err-read.result fault (c.in_err-read.ensures.read []) read);
      stays = λ fine. absurd (before_failure c.in_err-read.field-0.0 _ _ c.from_residual-in_err-read.result fault (c.in_err-read.ensures.read []) fine);
    }

pub returns-in_err-read-clause-part : goal.returns-in_err-read-clause-part
returns-in_err-read-clause-part g c =
    let p = err_from_is_err_and c.from_residual-in_err-read.result c.from_residual-in_err-read.ensures.1 in
    let old = c.args.self.now in
    let part = take c.fill_front-count.result.count c.fill_front-count.new.buf in
    let few : length part ≤ PART_BYTES = search rules in
    let e = c.in_err-read.field-0.0 in
    let after = keys_read c.read.new.self in
    let stops : (rest : List ℕ) → Stops e after (said_from old.keys.items old.line old.so_far (part ++ rest)) =
    λ rest. subst (λ (k : List ℕ). Stops e after (said_from k old.line old.so_far (part ++ rest))) c.reserve.ensures.items (c.in_err-read.ensures.read rest) in
    rw (p.1, p.2) (record {
      part = part;
      taken = c.fill_front-count.ensures.bytes;
      short = few;
      gives = part_stops part _ old c.read.new.self e _ _ (stops []) (stops_if_known _ part _ _ _ _ e stops);
    })

pub returns-in_err-end_line-clause-part : goal.returns-in_err-end_line-clause-part
returns-in_err-end_line-clause-part g c =
    let p = err_from_is_err_and c.from_residual-in_err-end_line.result c.from_residual-in_err-end_line.ensures.1 in
    let old = c.args.self.now in
    let part = take c.fill_front-count.result.count c.fill_front-count.new.buf in
    let few : length part ≤ PART_BYTES = search rules in
    rw (p.1, p.2) (record {
      part = part;
      taken = c.fill_front-count.ensures.bytes;
      short = few;
      gives = part_stops part _ old c.end_line.new.self _ _ _ c.in_err-end_line.ensures.keys
          (end_stops _ part _ _ _ _ _ _ _ _ (c.fill_front-count.ensures.end (search rules) (search rules))
          (λ rest. ap (λ (k : List ℕ). said_from k old.line old.so_far (part ++ rest)) (sym c.reserve.ensures.items) ∙ c.in_ok-read.ensures.read rest) c.in_err-end_line.ensures.keys);
    })

pub returns-then-failed-clause-part : goal.returns-then-failed-clause-part
returns-then-failed-clause-part g c =
    let old = c.args.self.now in
    let part = take c.fill_front-count.result.count c.fill_front-count.new.buf in
    let few : length part ≤ PART_BYTES = search rules in
    record {
      part = part;
      taken = c.fill_front-count.ensures.bytes;
      short = few;
      gives = λ rest. ap (λ (k : List ℕ). said_from k old.line old.so_far (part ++ rest)) (sym c.reserve.ensures.items) ∙ c.in_ok-read.ensures.read rest;
    }

pub returns-then-count-lt-PART_BYTES-clause-part : goal.returns-then-count-lt-PART_BYTES-clause-part
returns-then-count-lt-PART_BYTES-clause-part g c =
    let old = c.args.self.now in
    let part = take c.fill_front-count.result.count c.fill_front-count.new.buf in
    let few : length part ≤ PART_BYTES = search rules in
    record {
      part = part;
      taken = c.fill_front-count.ensures.bytes;
      short = few;
      gives = (
        c.fill_front-count.ensures.end (search rules) (search rules),
        part_ends part _ _ _ _ _ _ (λ rest. ap (λ (k : List ℕ). said_from k old.line old.so_far (part ++ rest)) (sym c.reserve.ensures.items) ∙ c.in_ok-read.ensures.read rest) ∙ c.in_ok-end_line.ensures.keys,
      );
    }

pub returns-clause-part : goal.returns-clause-part
returns-clause-part g c =
    let old = c.args.self.now in
    let part = take c.fill_front-count.result.count c.fill_front-count.new.buf in
    let few : length part ≤ PART_BYTES = search rules in
    let whole : length part ≡ PART_BYTES = search rules in
    record {
      part = part;
      taken = c.fill_front-count.ensures.bytes;
      short = few;
      gives = (whole, λ rest. ap (λ (k : List ℕ). said_from k old.line old.so_far (part ++ rest)) (sym c.reserve.ensures.items) ∙ c.in_ok-read.ensures.read rest);
    }
