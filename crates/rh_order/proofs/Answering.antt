-- What was asked for is answered from the first set.
use Rattle.std.proofs.Common.{◌≡◌, refl, ap, subst, List, [], ◌∷◌, ◌++◌}
use Rattle.std.specs.List.{Contains}
use Rattle.rh_ledger.specs.declared.tally.Kind.{Kind}
use Rattle.rh_ledger.specs.declared.tally.Kind.TheVariants.{Ask}
use Rattle.rh_acts.specs.Act.{Act}
use Rattle.rh_acts.specs.Done.{Does, IsDone, Kept}
use Rattle.rh_acts.specs.Workers.{Made, acts_of, own}
use Rattle.rh_acts.proofs.ActLemmas.{contains_head}
use Rattle.rh_acts.proofs.PhaseLemmas.{held_without_acts, piece_asked}
use Rattle.rh_order.specs.History.{kept_of, own_acts_of}
use Rattle.rh_order.specs.Laws.{RunAnswers}
use Rattle.rh_order.specs.Run.{Run, RunInvariant}
use Rattle.rh_order.proofs.Standing.{all_made, each_does, was}

none_made : (made : List Made) → ((m : Made) → Contains made m → ⊥) → made ≡ []
none_made [] none = refl
none_made (m ∷ made) none = absurd (none m (contains_head m made))

module _ (r : Run) (run : RunInvariant r) (asks : r.kind ≡ Ask) where
  abbrev made : List Made
  made = all_made r run

  -- an act would do a key, and none is done by an act
  no_acts : made ≡ []
  no_acts = none_made made (λ m h. let one = each_does r run m h in subst (λ (k : Kind). Does k r.shape.bits one.0 one.2.0 m.act) asks one.2.1)

pub run_answers : RunAnswers
run_answers r S run layout asks v mine =
    let reads : List Kept = run.reads v ++ kept_of r.shape (r.keep v) in
    let acts : List Act = own v run.before ++ own_acts_of (r.keep v) in
    let made : List Made = all_made r run in
    let held = held_without_acts r.opening (acts_of made) reads (ap acts_of (no_acts r run asks)) (was r run v mine) in
    let is : IsDone Ask r.shape.bits reads (r.done v) acts (r.answers v) = subst (λ (k : Kind). IsDone k r.shape.bits reads (r.done v) acts (r.answers v)) asks (run.doing v mine).so_far in
    piece_asked r.shape.bits r.opening S reads (r.done v) acts (r.answers v) layout held is
