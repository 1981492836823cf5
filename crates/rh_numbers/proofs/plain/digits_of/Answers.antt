use Rattle.std.proofs.Common.{◌≡◌, ℕ, ◌≤◌, ◌+◌, ◌*◌, ◌%◌, ◌^◌, List, take, ap, arith, length-take}
use Rattle.std.specs.Str.Parse.{AllDigits, digits_value}
use Rattle.std.proofs.lemmas.List.{take-take}
use Rattle.core.proofs.dec2flt.Rows.{AllDigits-digits_len}
use Rattle.rh_numbers.proofs.FewDigits.{few_digits}
use Rattle.rh_numbers.proofs.plain.digits_of.Goals as goal

-- the number that was read of digits among a text's first bytes, so few that it does not wrap
number_read : (text : List ℕ) (most n m p k : ℕ) → n ≤ most → most ≤ 19 → AllDigits 10 (take n text) → m ≡ n → k ≡ (0 * p + digits_value 10 (take m (take most text))) % 2 ^ 64
    → k ≡ digits_value 10 (take n text)
number_read text most n m p k some few are same is =
    let small = few_digits (take n text) 19 are (omega (arith, length-take n text)) in
    let here = ap (λ i. digits_value 10 (take i (take most text))) same in
    omega (arith, is, small, here, ap (digits_value 10) (take-take n most text some))

pub returns-clause-begin : goal.returns-clause-begin
returns-clause-begin c =
    let text = c.args.text.now in
    let most = c.min-most.result in
    let n = c.read_digits-length.result.0 in
    let all : AllDigits 10 (take n (take most text)) = AllDigits-digits_len (take most text) n (omega (arith, c.read_digits-length.ensures.end)) in
    let some : n ≤ most = omega (arith, c.read_digits-length.ensures.within, length-take most text) in
    let are : AllDigits 10 (take n text) = rw (take-take n most text some) at all in
    record {
      within = omega (arith, some);
      are = are;
      number = number_read text most n _ _ _ some (omega arith) are (omega arith) c.read_digits-length.ensures.value;
    }
