use Rattle.std.proofs.Common.{Err, Ok, Result, map, rules}
use Rattle.std.proofs.lemmas.Result.{err_from_is_err_and}
use Rattle.rh_cutting.specs.Pieces.{keys_in}
use Rattle.rh_list_commands.proofs.Written.{counted, not_counted, told_front}
use Rattle.rh_list_commands.proofs.combining.write_counted.Goals as goal

pub returns-in_err-count : goal.returns-in_err-count
returns-in_err-count g c =
    let p = err_from_is_err_and c.from_residual.result c.from_residual.ensures.1 in
    record {
      written = told_front _ _ _ c.from_residual.result p.0 p.1 (not_counted _ _ (g.Q.Question.answer c.args.question.now (map keys_in c.args.lists.items)) _ c.in_err-count.ensures.written.text);
      counts = search rules;
    }

pub returns-in_err-write_count : goal.returns-in_err-write_count
returns-in_err-write_count g c =
    let p = err_from_is_err_and c.from_residual-in_err-write_count.result c.from_residual-in_err-write_count.ensures.1 in
    let told : Result (Unit {0}) (Unit {0}) = Err tt in
    record {
      written = told_front _ _ _ c.from_residual-in_err-write_count.result p.0 p.1 (counted _ _ _ _ c.in_ok-count.count told c.in_ok-count.ensures.written.text c.in_ok-count.ensures.written.count c.in_err-write_count.ensures.front);
      counts = search rules;
    }

pub returns : goal.returns
returns g c =
    let told : Result (Unit {0}) (Unit {0}) = Ok tt in
    record {
      written = counted _ _ _ _ c.in_ok-count.count told c.in_ok-count.ensures.written.text c.in_ok-count.ensures.written.count c.in_ok-write_count.ensures.appended;
      counts = search rules;
    }
