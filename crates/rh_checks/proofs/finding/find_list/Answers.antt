use Rattle.std.proofs.Common.{◌≡◌, ◌<◌, take, length, ap, subst, rules, arith}
use Rattle.std.specs.Prelude.{is_some}
use Rattle.std.specs.Io.KnownBytes.{Consumes}
use Rattle.std.proofs.lemmas.List.{take_all, length-take}
use Rattle.std.proofs.lemmas.Result.{err_from_is_err_and}
use Rattle.rh_bytes.specs.Counting.{inner_of}
use Rattle.rh_checks.proofs.Told.{file_refused, file_told, short_told, text_told}
use Rattle.rh_checks.proofs.finding.find_list.Goals as goal

pub returns-then-count-lt-MAGIC_BYTES : goal.returns-then-count-lt-MAGIC_BYTES
returns-then-count-lt-MAGIC_BYTES g c =
    let n = c.fill_front-count.result.count in
    let four = c.fill_front-count.new.buf in
    let len : length four ≡ 4 = search rules in
    let few : length (take n four) < 4 = omega (arith, length-take n four) in
    record {
      known = short_told (take n four) _ _ c.in-Ok.found few c.fill_front-count.ensures.bytes (c.fill_front-count.ensures.end c.if-failed.false (omega (arith, len))) c.in-Ok.ensures;
      text_read = search rules;
      keys_read = search rules;
      long = search rules;
      fine = search rules;
    }

pub returns-in_err-pieces : goal.returns-in_err-pieces
returns-in_err-pieces g c =
    let p = err_from_is_err_and c.from_residual.result c.from_residual.ensures.1 in
    let start = g.R.Read.remaining (inner_of c.args.reader.now) in
    let mid = g.R.Read.remaining (inner_of c.fill_front-count.new.reader) in
    let n = c.fill_front-count.result.count in
    let four = c.fill_front-count.new.buf in
    let len : length four ≡ 4 = search rules in
    let taken : Consumes start mid four = subst (Consumes start mid) (take_all n four (omega (arith, len))) c.fill_front-count.ensures.bytes in
    rw (p.1, p.2) (record {
      known = file_refused four c.in-Some.version c.in-Some.ensures.some start mid _ _ c.in_err-pieces.field-0.0 taken c.in_err-pieces.ensures.list.known;
      text_read = search rules;
      keys_read = search rules;
      long = search rules;
      fine = search rules;
    })

pub returns-in-Some : goal.returns-in-Some
returns-in-Some g c =
    let start = g.R.Read.remaining (inner_of c.args.reader.now) in
    let mid = g.R.Read.remaining (inner_of c.fill_front-count.new.reader) in
    let n = c.fill_front-count.result.count in
    let four = c.fill_front-count.new.buf in
    let len : length four ≡ 4 = search rules in
    let taken : Consumes start mid four = subst (Consumes start mid) (take_all n four (omega (arith, len))) c.fill_front-count.ensures.bytes in
    record {
      known = file_told four c.in-Some.version c.in-Some.ensures.some start mid _ _ c.in_ok-pieces.pieces (record { keys = c.of.result; bad = c.new.result; more = 0 }) taken c.in_ok-pieces.ensures.list.known (search rules);
      text_read = search rules;
      keys_read = search rules;
      long = search rules;
      fine = search rules;
    }

pub returns : goal.returns
returns g c =
    let start = g.R.Read.remaining (inner_of c.args.reader.now) in
    let mid = g.R.Read.remaining (inner_of c.fill_front-count.new.reader) in
    let n = c.fill_front-count.result.count in
    let four = c.fill_front-count.new.buf in
    let len : length four ≡ 4 = search rules in
    let taken : Consumes start mid four = subst (Consumes start mid) (take_all n four (omega (arith, len))) c.fill_front-count.ensures.bytes in
    record {
      known = text_told four (c.of_magic.ensures.none (ap is_some c.in_default-of_magic.is)) start mid _ c.in_ok-found.found taken c.in_ok-found.ensures.known;
      text_read = search rules;
      keys_read = search rules;
      long = search rules;
      fine = search rules;
    }
