use Rattle.std.proofs.Common.{rules, ◌≡◌, ◌≤◌, ◌<◌, ◌-◌, true, take, length, get_or, arith, length-take}
use Rattle.std.specs.Char.{is_ascii_digit}
use Rattle.rh_numbers.proofs.FewDigits.{few_digits, one_more_digit}
use Rattle.rh_numbers.proofs.plain.Digits.with_next.Goals as goal

pub overflow_mul-result : goal.overflow_mul-result
overflow_mul-result c =
    let n = c.args.self.length in
    let small = few_digits (take n c.args.text.now) 2 c.requires.begin.are (omega (arith, length-take n c.args.text.now, c.requires.few)) in
    omega (arith, small, c.requires.begin.number)

pub overflow_add-result : goal.overflow_add-result
overflow_add-result c =
    let n = c.args.self.length in
    let small = few_digits (take n c.args.text.now) 2 c.requires.begin.are (omega (arith, length-take n c.args.text.now, c.requires.few)) in
    let one : c.from.result ≤ 9 = search rules in
    omega (arith, small, c.requires.begin.number, one)

pub returns-clause-begin : goal.returns-clause-begin
returns-clause-begin c =
    let text = c.args.text.now in
    let n = c.args.self.length in
    let begin = c.requires.begin in
    let there : n < length text = omega arith in
    let digit : is_ascii_digit (get_or text n 0) ≡ true = search rules in
    let value : c.from.result ≡ get_or text n 0 - 48 = search rules in
    let more = one_more_digit text n c.args.self.number c.from.result there begin.are begin.number digit value in
    record { within = omega (arith, there); are = more.0; number = more.1 }
