use Rattle.std.proofs.Common.{◌≡◌, length, take}
use Rattle.std.specs.Prelude.{All, map}
use Rattle.rh_layout.specs.Key.{IsKey}
use Rattle.rh_combine_workers.proofs.part.slices_of.Given as goal

abbrev pub invariant-loop-keys : goal.invariant-loop-keys
invariant-loop-keys l = record {
  many : length l.slices.items ≡ l.keys-index;
  keys : All (λ k. All IsKey k.now) l.slices.items;
  same : map (λ k. k.now) l.slices.items ≡ map (λ k. k.items) (take l.keys-index l.lists);
}
