use Rattle.std.proofs.Common.{List, ◌≡◌, ◌∙◌, ℕ, length, subst, sym}
use Rattle.std.specs.Vec.{with_items}
use Rattle.std.proofs.lemmas.List.{with_items_is}
use Rattle.rh_words.specs.Requests.{step_asked}
use Rattle.rh_words.specs.Steps.{StepsTo}
use Rattle.rh_rule.specs.Sound.{Finds}
use Rattle.rh_carrier.specs.Relies.{Shows}
use Rattle.rh_carrier.proofs.words.VecU64Steps.make.Goals as goal

pub returns : goal.returns
returns c =
    let z = c.args.shape.now in
    let v = c.args.side.now.known.view in
    let next = c.make_step.new.side.known.view in
    let s = step_asked c.args.request in
    let word = c.make_step.result in
    let after = c.make_step.new.words in
    let size : length after ≡ c.args.self.now.len = c.make_step.auto.words ∙ c.as_mut_slice.ensures.len in
    let is : (with_items c.args.self.now after).items ≡ after = with_items_is c.args.self.now after size in
    let to = subst (λ (l : List ℕ). StepsTo z s l v word after next) c.as_mut_slice.ensures.value c.make_step.ensures in
    let t = c.requires.relies.may.then s word after next c.requires.allowed to in
    record {
      view_is = to.view_is;
      finds = subst (λ (n : ℕ). Finds z v s n) (sym to.found_is) (c.requires.relies.may.finds s c.requires.allowed);
      trusts = record { knows = t.knows; rows = subst (λ (l : List ℕ). Shows z l next) (sym is) t.rows };
      makes = subst (λ (l : List ℕ). StepsTo z s c.args.self.now.items v word l next) (sym is) to;
    }
