use Rattle.std.proofs.Common.{◌∙◌, ◌^◌, ◌<◌, ap, false, get_or, subst, sym}
use Rattle.std.specs.Int.{bit_at}
use Rattle.std.proofs.lemmas.Bool.{le-ltb}
use Rattle.std.proofs.lemmas.Nat.Bits.{shr_and_one}
use Rattle.rh_questions.proofs.CodeLemmas.{digit, digit_above, is_digit}
use Rattle.rh_questions.proofs.value.stands_in.Goals as goal

pub returns-then-index-lt-MOST_LISTS : goal.returns-then-index-lt-MOST_LISTS
returns-then-index-lt-MOST_LISTS c row is =
    is_digit (get_or row c.args.index false) _ (shr_and_one c.args.lists c.args.index ∙ ap (λ n. bit_at n c.args.index) is ∙ digit row c.args.index)

pub returns-else-index-lt-MOST_LISTS : goal.returns-else-index-lt-MOST_LISTS
returns-else-index-lt-MOST_LISTS c row is =
    let behind = c.if-index-lt-MOST_LISTS.false in
    le-ltb c.args.index 64 behind ∙ sym (digit_above row c.args.index (subst (λ n. n < 2 ^ 64) is c.ranges.lists.fits) behind)
