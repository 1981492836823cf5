use Rattle.std.proofs.Common.{◌≡◌, rules}
use Rattle.std.proofs.lemmas.List.Filters.{All-dedup, dedup_is}
use Rattle.std.proofs.lemmas.List.Kept.{Contains-dedup_nat, Contains-from_dedup}
use Rattle.std.proofs.lemmas.List.Sorted.{All-permutation, Contains-permutation, IsPermutation-sym}
use Rattle.std.proofs.lemmas.Map.Keys.{IsStrictlyIncreasing-dedup}
use Rattle.rh_layout.specs.Key.{IsKey}
use Rattle.rh_questions.proofs.RowLemmas.{same_has}
use Rattle.rh_questions.proofs.rows.sorted.Goals as goal

pub returns : goal.returns
returns c =
    let is = dedup_is _ _ _ c.dedup.ensures.filtered in
    let moved = c.sort_unstable.ensures.permutation in
    let all : c.extend_from_slice.new.self.items ≡ c.args.keys.now = search rules in
    record {
      order = rw is (IsStrictlyIncreasing-dedup _ c.sort_unstable.ensures.sorted);
      same = λ k. same_has _ _ k
          (λ h. rw all at (Contains-permutation _ _ k (IsPermutation-sym _ _ moved) (Contains-from_dedup _ _ k (rw is at h))))
          (λ h. rw is (Contains-dedup_nat _ k (Contains-permutation _ _ k moved (rw all h))));
      in_range = rw is (All-dedup _ IsKey _ (All-permutation IsKey _ _ moved (rw all c.requires)));
    }
