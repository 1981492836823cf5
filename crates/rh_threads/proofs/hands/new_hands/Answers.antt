use Rattle.std.proofs.Common.{◌≡◌, ◌∙◌, ◌++◌, ◌∷◌, [], List, All, length, ap, subst, sym, arith}
use Rattle.std.proofs.lemmas.List.{length_push}
use Rattle.std.proofs.lemmas.List.Elements.{All-push}
use Rattle.rh_threads.specs.declared.hand.Hand.{Hand}
use Rattle.rh_threads.specs.Made.{IsNew}
use Rattle.rh_threads.proofs.hands.new_hands.Goals as goal

pub loop-alloc-preserved : goal.loop-alloc-preserved
loop-alloc-preserved c =
    let h = c.loop-alloc.invariant in
    let more : c.push_back.new.self ≡ c.loop-alloc.hands ++ c.in_ok-hand.hand ∷ [] = c.in_ok-push_back.ensures.items in
    record {
      within = let long = ap length more ∙ length_push c.loop-alloc.hands c.in_ok-hand.hand in let less = c.loop-alloc-test.true in let len = c.len.ensures.value in omega (arith, long, less, len);
      each = subst (λ (l : List Hand). All (IsNew c.args.shape.now c.args.kind c.args.positions) l) (sym more)
          (All-push (IsNew c.args.shape.now c.args.kind c.args.positions) c.loop-alloc.hands c.in_ok-hand.hand h.each c.in_ok-hand.ensures);
    }
