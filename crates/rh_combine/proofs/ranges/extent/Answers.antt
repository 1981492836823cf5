use Rattle.std.proofs.Common.{arith, subst}
use Rattle.std.specs.Prelude.{map}
use Rattle.std.proofs.lemmas.List.{take_all}
use Rattle.rh_combine.specs.Combine.{AllWithin}
use Rattle.rh_combine.proofs.RangeLemmas.{one_within, within_more}
use Rattle.rh_combine.proofs.ranges.extent.Goals as goal

pub widen-requires-clause-all : goal.widen-requires-clause-all
widen-requires-clause-all c = one_within (λ k. k.now) c.args.from c.args.to c.args.lists.now c.loop-keys.keys-index _ (omega arith) c.requires.all

pub loop-keys-preserved : goal.loop-keys-preserved
loop-keys-preserved c = record {
  all = within_more (λ k. k.now) c.loop-keys.least c.loop-keys.past c.widen.result.0 c.widen.result.1 c.args.lists.now c.loop-keys.keys-index _ (omega arith) c.loop-keys.invariant.all c.widen.ensures.all c.widen.ensures.least c.widen.ensures.past;
  from = c.widen.ensures.from;
  to = c.widen.ensures.to;
}

pub returns-clause-all : goal.returns-clause-all
returns-clause-all c =
    subst (λ ls. AllWithin c.loop-keys.least c.loop-keys.past (map (λ k. k.now) ls)) (take_all c.loop-keys.keys-index c.args.lists.now (omega arith)) c.loop-keys.invariant.all
