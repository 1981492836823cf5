use Rattle.std.proofs.Common.{rules, subst}
use Rattle.std.specs.List.Sorted.{IsPermutation}
use Rattle.std.proofs.lemmas.List.Sorted.{IsNonDecreasingBy-from_sort_by_key}
use Rattle.rh_questions.specs.Rankings.{rank}
use Rattle.rh_questions.proofs.ranking.ranked.Goals as goal

pub returns : goal.returns
returns c = record {
  each = subst (λ found. IsPermutation found c.sort_unstable_by_key.new.self.items) c.in_ok-found.ensures c.sort_unstable_by_key.ensures.permutation;
  order = IsNonDecreasingBy-from_sort_by_key rank _ c.sort_unstable_by_key.ensures.sorted (λ a r q k. search rules);
}
