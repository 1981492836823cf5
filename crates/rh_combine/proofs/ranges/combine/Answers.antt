use Rattle.rh_combine.proofs.RangeLemmas.{all_keys}
use Rattle.rh_combine.proofs.ranges.combine.Goals as goal

pub of_lists-requires-clause-range : goal.of_lists-requires-clause-range
of_lists-requires-clause-range c = all_keys (λ k. k.now) c.args.lists.now c.requires
