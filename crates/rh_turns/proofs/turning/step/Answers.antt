use Rattle.std.proofs.Common.{Option, Bool, Some, None, ℕ, ◌+◌, set, ap, inl, inr, refl, subst, sym, ◌∙◌}
use Rattle.rh_order.specs.Advance.{Advances}
use Rattle.rh_worker.specs.Worker.{EndsAt}
use Rattle.rh_turns.proofs.Recorded.{makes_so, relies_so}
use Rattle.rh_turns.proofs.Turns.{at_key, busy_not_spent, byte_is, byte_small, key_same, next_of, share_done, share_same}
use Rattle.rh_turns.proofs.turning.step.Goals as goal

pub returns-in-Some-clause-hand : goal.returns-in-Some-clause-hand
returns-in-Some-clause-hand c =
    let idle = subst (λ (d : Option Bool). EndsAt d c.step-stepped.new.self.stage) c.in-Some.is c.step-stepped.ensures.ends in
    record {
      worker = c.step-stepped.ensures.worker;
      kind_is = c.step-stepped.ensures.keeps.kind ∙ c.requires.hand.kind_is;
      share = share_done c.args.shape.now c.args.keys.now c.args.hand.now _ c.requires.busy c.step-stepped.ensures.makes.claims c.args.hand.now.share refl refl refl idle c.requires.hand.share;
      key = inl idle;
      some = byte_small c.in-Some.answer c.from.result c.args.hand.now.changed c.args.hand.now.done c.from.ensures c.requires.hand.some;
    }

pub returns-in_default-clause-hand : goal.returns-in_default-clause-hand
returns-in_default-clause-hand c =
    let busy = subst (λ (d : Option Bool). EndsAt d c.step-stepped.new.self.stage) c.in_default.is c.step-stepped.ensures.ends in
    record {
      worker = c.step-stepped.ensures.worker;
      kind_is = c.step-stepped.ensures.keeps.kind ∙ c.requires.hand.kind_is;
      share = share_same c.args.shape.now c.args.keys.now c.args.hand.now _ c.requires.busy c.step-stepped.ensures.makes.claims c.args.hand.now.share refl refl refl busy c.requires.hand.share;
      key = inr (key_same c.args.shape.now c.args.keys.now c.args.hand.now _ c.requires.busy c.step-stepped.ensures.makes.claims refl refl c.step-stepped.ensures.keeps.key
          (at_key c.args.keys.now c.args.hand.now c.requires.busy c.requires.hand.key));
      some = c.requires.hand.some;
    }

pub returns-in-Some-clause-steps : goal.returns-in-Some-clause-steps
returns-in-Some-clause-steps c =
    let h = c.args.hand.now in
    let at = at_key c.args.keys.now h c.requires.busy c.requires.hand.key in
    record {
      unspent = busy_not_spent h.worker.stage c.requires.busy;
      within = at.within;
      next_key = next_of c.args.shape.now c.args.keys.now h c.requires.busy h.share c.requires.hand.share;
      makes = makes_so _ _ _ _ _ _ c.step-stepped.ensures.makes;
      done = Some c.in-Some.answer;
      advances = subst (λ (k : ℕ). Advances c.args.shape.now h.worker.kind k h.worker.side.known.view c.step-stepped.new.self.side.known.view (Some c.in-Some.answer)) (sym at.key)
          (subst (λ (d : Option Bool). Advances c.args.shape.now h.worker.kind h.worker.key h.worker.side.known.view c.step-stepped.new.self.side.known.view d) c.in-Some.is c.step-stepped.ensures.advances);
      gives_up = c.step-stepped.ensures.gives_up;
      share = refl;
      counts = (refl, ap (λ (n : ℕ). h.changed + n) (c.from.ensures ∙ byte_is c.in-Some.answer));
      answers_are = ap (λ (p : ℕ). set c.args.answers.now p (Some c.in-Some.answer)) c.position-position.ensures;
    }

pub returns-in_default-clause-steps : goal.returns-in_default-clause-steps
returns-in_default-clause-steps c =
    let h = c.args.hand.now in
    let at = at_key c.args.keys.now h c.requires.busy c.requires.hand.key in
    record {
      unspent = busy_not_spent h.worker.stage c.requires.busy;
      within = at.within;
      next_key = next_of c.args.shape.now c.args.keys.now h c.requires.busy h.share c.requires.hand.share;
      makes = makes_so _ _ _ _ _ _ c.step-stepped.ensures.makes;
      done = None;
      advances = subst (λ (k : ℕ). Advances c.args.shape.now h.worker.kind k h.worker.side.known.view c.step-stepped.new.self.side.known.view None) (sym at.key)
          (subst (λ (d : Option Bool). Advances c.args.shape.now h.worker.kind h.worker.key h.worker.side.known.view c.step-stepped.new.self.side.known.view d) c.in_default.is c.step-stepped.ensures.advances);
      gives_up = c.step-stepped.ensures.gives_up;
      share = refl;
      counts = (refl, refl);
      answers_are = refl;
    }

pub step-stepped-requires-clause-relies : goal.step-stepped-requires-clause-relies
step-stepped-requires-clause-relies c = relies_so _ _ _ c.requires.relies
