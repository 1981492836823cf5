use Rattle.std.proofs.Common.{◌≡◌, ◌<◌, [], inl, inr, take, length, ap, subst, rules, arith}
use Rattle.std.specs.Prelude.{is_some}
use Rattle.std.specs.Io.KnownBytes.{Consumes}
use Rattle.std.proofs.lemmas.List.{take_all, length-take}
use Rattle.std.proofs.lemmas.Result.{err_from_is_err_and}
use Rattle.rh_bytes.specs.Counting.{inner_of}
use Rattle.rh_lists.proofs.Told.{file_fails, file_ok, long_fails, long_ok, magic_read, short_fails, short_ok}
use Rattle.rh_key_files.proofs.LongFile.{header_begins}
use Rattle.rh_key_files.proofs.Tested.{good_behind}
use Rattle.rh_lists.proofs.Texts.{first_tested}
use Rattle.rh_lists.proofs.reading.read_list.Goals as goal

pub returns-then-failed : goal.returns-then-failed
returns-then-failed g c =
    let n = c.fill_front-count.result.count in
    let four = c.fill_front-count.new.buf in
    let len : length four ≡ 4 = search rules in
    record {
      known = search rules;
      text_read = search rules;
      keys_read = search rules;
      text_tested = λ _. inl (record { taken = take n four; consumed = c.fill_front-count.ensures.bytes; few = omega (arith, length-take n four, len, c.fill_front-count.ensures.early c.if-failed.true) });
      keys_tested = search rules;
      memory = search rules;
      tested_too = search rules;
      long = search rules;
      fine = search rules;
    }

pub returns-in_err-keys : goal.returns-in_err-keys
returns-in_err-keys g c =
    let p = err_from_is_err_and c.from_residual.result c.from_residual.ensures.1 in
    let n = c.fill_front-count.result.count in
    let four = c.fill_front-count.new.buf in
    let len : length four ≡ 4 = search rules in
    let few : length (take n four) < 4 = omega (arith, length-take n four) in
    rw (p.1, p.2) (record {
      known = short_fails (take n four) few _ _ c.in_err-keys.field-0.0 c.fill_front-count.ensures.bytes (c.fill_front-count.ensures.end c.if-failed.false (omega (arith, len))) c.in_err-keys.ensures.told;
      text_read = search rules;
      keys_read = search rules;
      text_tested = search rules;
      keys_tested = search rules;
      memory = search rules;
      tested_too = search rules;
      long = search rules;
      fine = search rules;
    })

pub returns-then-count-lt-MAGIC_BYTES : goal.returns-then-count-lt-MAGIC_BYTES
returns-then-count-lt-MAGIC_BYTES g c =
    let n = c.fill_front-count.result.count in
    let four = c.fill_front-count.new.buf in
    let len : length four ≡ 4 = search rules in
    let few : length (take n four) < 4 = omega (arith, length-take n four) in
    record {
      known = short_ok (take n four) few _ _ c.in_ok-keys.keys c.fill_front-count.ensures.bytes (c.fill_front-count.ensures.end c.if-failed.false (omega (arith, len))) c.in_ok-keys.ensures.told;
      text_read = search rules;
      keys_read = search rules;
      text_tested = search rules;
      keys_tested = search rules;
      memory = search rules;
      tested_too = search rules;
      long = search rules;
      fine = search rules;
    }

pub returns-in_err-pieces : goal.returns-in_err-pieces
returns-in_err-pieces g c =
    let p = err_from_is_err_and c.from_residual-in_err-pieces.result c.from_residual-in_err-pieces.ensures.1 in
    let start = g.R.Read.remaining (inner_of c.args.reader.now) in
    let mid = g.R.Read.remaining (inner_of c.fill_front-count.new.reader) in
    let n = c.fill_front-count.result.count in
    let four = c.fill_front-count.new.buf in
    let len : length four ≡ 4 = search rules in
    let taken : Consumes start mid four = subst (Consumes start mid) (take_all n four (omega (arith, len))) c.fill_front-count.ensures.bytes in
    let magic = magic_read four c.in-Some.version c.in-Some.ensures.some start mid taken in
    rw (p.1, p.2) (record {
      known = file_fails four c.in-Some.version c.in-Some.ensures.some start mid _ _ c.in_err-pieces.field-0.0 taken c.in_err-pieces.ensures.list.known;
      text_read = search rules;
      keys_read = search rules;
      text_tested = search rules;
      keys_tested = λ failed. good_behind start mid _ c.in-Some.version magic (c.in_err-pieces.ensures.list.tested (search failed));
      memory = λ memory. header_begins start mid c.in-Some.version magic (c.in_err-pieces.ensures.list.memory (search memory));
      tested_too = λ memory. good_behind start mid _ c.in-Some.version magic (c.in_err-pieces.ensures.list.tested_too (search memory));
      long = search rules;
      fine = search rules;
    })

pub returns-in-Some : goal.returns-in-Some
returns-in-Some g c =
    let start = g.R.Read.remaining (inner_of c.args.reader.now) in
    let mid = g.R.Read.remaining (inner_of c.fill_front-count.new.reader) in
    let n = c.fill_front-count.result.count in
    let four = c.fill_front-count.new.buf in
    let len : length four ≡ 4 = search rules in
    let taken : Consumes start mid four = subst (Consumes start mid) (take_all n four (omega (arith, len))) c.fill_front-count.ensures.bytes in
    record {
      known = file_ok four c.in-Some.version c.in-Some.ensures.some start mid _ _ c.in_ok-pieces.pieces c.of.result taken c.in_ok-pieces.ensures.list.known c.of.ensures;
      text_read = search rules;
      keys_read = search rules;
      text_tested = search rules;
      keys_tested = search rules;
      memory = search rules;
      tested_too = search rules;
      long = search rules;
      fine = search rules;
    }

pub returns-in_err-keys-2 : goal.returns-in_err-keys-2
returns-in_err-keys-2 g c =
    let p = err_from_is_err_and c.from_residual-in_err-keys-2.result c.from_residual-in_err-keys-2.ensures.1 in
    let start = g.R.Read.remaining (inner_of c.args.reader.now) in
    let mid = g.R.Read.remaining (inner_of c.fill_front-count.new.reader) in
    let n = c.fill_front-count.result.count in
    let four = c.fill_front-count.new.buf in
    let len : length four ≡ 4 = search rules in
    let taken : Consumes start mid four = subst (Consumes start mid) (take_all n four (omega (arith, len))) c.fill_front-count.ensures.bytes in
    rw (p.1, p.2) (record {
      known = long_fails four (c.of_magic.ensures.none (ap is_some c.in_default.is)) start mid _ c.in_err-keys-2.field-0.0 taken c.in_err-keys-2.ensures.known;
      text_read = search rules;
      keys_read = search rules;
      text_tested = λ failed. inr (first_tested [] start mid _ four taken (c.in_err-keys-2.ensures.tested (search failed)));
      keys_tested = search rules;
      memory = search rules;
      tested_too = search rules;
      long = search rules;
      fine = search rules;
    })

pub returns : goal.returns
returns g c =
    let start = g.R.Read.remaining (inner_of c.args.reader.now) in
    let mid = g.R.Read.remaining (inner_of c.fill_front-count.new.reader) in
    let n = c.fill_front-count.result.count in
    let four = c.fill_front-count.new.buf in
    let len : length four ≡ 4 = search rules in
    let taken : Consumes start mid four = subst (Consumes start mid) (take_all n four (omega (arith, len))) c.fill_front-count.ensures.bytes in
    record {
      known = long_ok four (c.of_magic.ensures.none (ap is_some c.in_default.is)) start mid _ c.in_ok-keys-2.keys taken c.in_ok-keys-2.ensures.known;
      text_read = search rules;
      keys_read = search rules;
      text_tested = search rules;
      keys_tested = search rules;
      memory = search rules;
      tested_too = search rules;
      long = search rules;
      fine = search rules;
    }
