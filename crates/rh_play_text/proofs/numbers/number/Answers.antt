use Rattle.std.proofs.Common.{◌∙◌, sym, rules, tests, arith}
use Rattle.std.specs.Char.{is_ascii_digit}
use Rattle.std.proofs.lemmas.Iterator.{YieldsList-from_slice}
use Rattle.std.proofs.lemmas.Iterator.Search.{all_from_yields_List}
use Rattle.rh_play_text.proofs.Numerals.{number_read, number_refused}
use Rattle.rh_play_text.proofs.numbers.number.Goals as goal

pub returns-in-Ok : goal.returns-in-Ok
returns-in-Ok c =
    let all = all_from_yields_List is_ascii_digit _ _ c.all.result c.all.ensures.ran (YieldsList-from_slice c.args.word.now cc) (λ x b q k. search (rules, tests)) in
    number_read c.args.word.now c.parse.result c.in-Ok.n c.parse.ensures.value.0 (omega arith) (sym all ∙ c.if-not-all.false) c.in-Ok.is

pub returns-in-Err : goal.returns-in-Err
returns-in-Err c =
    let all = all_from_yields_List is_ascii_digit _ _ c.all.result c.all.ensures.ran (YieldsList-from_slice c.args.word.now cc) (λ x b q k. search (rules, tests)) in
    number_refused c.args.word.now c.parse.result c.in-Err.field-0 c.parse.ensures.value.0 (omega arith) (sym all ∙ c.if-not-all.false) c.in-Err.is
