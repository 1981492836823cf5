-- The worked run is a run of allowed steps, and all are at rest at its end.
use Rattle.std.proofs.Common.{◌≡◌, ◌≢◌, ℕ, suc, ◌<◌, ◌≤◌, Bool, true, nat_le, ◌&&◌, List, [], ◌∷◌, sym, refl, ◌∙◌, subst, inl, inr, ⊎_elim, arith}
use Rattle.std.proofs.lemmas.Bool.{leb-true}
use Rattle.rh_world.specs.World.{In, World}
use Rattle.rh_world.specs.World.Control.{failed, succeeded, withdrawn}
use Rattle.rh_world.specs.Facts.{HoldsIn, Fact}
use Rattle.rh_world.specs.Facts.Fact.{size_is}
use Rattle.rh_world.specs.Sides.{AtRest, Side}
use Rattle.rh_world.specs.Moves.{IsAllowed, IsRowFact, side_after, sides_after, world_after}
use Rattle.rh_world.specs.Ends.{AllAtRest, Runs, WorldTurn, start_sides, start_world}
use Rattle.rh_world.specs.Ends.Runs.{goes, rests}
use Rattle.rh_world.specs.Example.{ARunToASuccess, first, helped_run}
use Rattle.rh_world.proofs.Tests.{both}
use Rattle.rh_world.proofs.Updated.{same_nat, updated_else}

-- the world and the Sides after the turns, whether they were allowed or not
abbrev world_at : World → (ℕ → Side) → List WorldTurn → World
world_at w side [] = w
world_at w side (t ∷ ts) = world_at (world_after w t.who t.move) (sides_after w side t.who t.move) ts

abbrev sides_at : World → (ℕ → Side) → List WorldTurn → ℕ → Side
sides_at w side [] = side
sides_at w side (t ∷ ts) = sides_at (world_after w t.who t.move) (sides_after w side t.who t.move) ts

abbrev AreAllowed : World → (ℕ → Side) → List WorldTurn → Type 0
AreAllowed w side [] = Unit {0}
AreAllowed w side (t ∷ ts) = IsAllowed w side t.who t.move × AreAllowed (world_after w t.who t.move) (sides_after w side t.who t.move) ts

runs_of : (w : World) (side : ℕ → Side) (ts : List WorldTurn) → AreAllowed w side ts
    → Runs w side ts (world_at w side ts) (sides_at w side ts)
runs_of w side [] a = rests
runs_of w side (t ∷ ts) a = goes t.who t.move a.0 (runs_of (world_after w t.who t.move) (sides_after w side t.who t.move) ts a.1)

below_two : (P : ℕ → Type 0) → P 0 → P 1 → (e : ℕ) → e < 2 → P e
below_two P p0 p1 e less = ⊎_elim (λ (q : e ≡ 0). subst P (sym q) p0) (λ (n : e ≢ 0). let q : e ≡ 1 = omega arith in subst P (sym q) p1) (same_nat e 0)

only_note : (w : World) (n : Fact) → IsRowFact n × HoldsIn w n → (m : Fact) → In m (n ∷ []) → IsRowFact m × HoldsIn w m
only_note w n h m i = ⊎_elim (λ (q : m ≡ n). subst (λ (k : Fact). IsRowFact k × HoldsIn w k) (sym q) h) (λ j. absurd j) i

are_allowed : AreAllowed (start_world 2 1 (λ c. 5)) start_sides helped_run
are_allowed = (
  record { nonempty = omega arith; rising = λ e f a b. omega arith; closed = refl },
  (
    (record { size = 2; known = inr (inr (inr (inr (inr (inr (inl refl)))))); within = omega arith }, refl, inl (inr (inr (inr (inr (inr (inr (inr (inl refl))))))))),
    (
      tt,
      (
        inl refl,
        (
          (inr (inr (inl refl)), inl refl),
          (
            inl refl,
            (
              (inr (inr (inl refl)), inl refl),
              (
                only_note _ (size_is first 2) (tt, ((λ q. cc), refl)),
                (
                  (record { size = 2; known = inl refl; within = omega arith }, refl, inl (inr (inr (inl refl)))),
                  (
                    (record { size = 2; known = inr (inl refl); within = omega arith }, refl, inl (inr (inr (inr (inl refl))))),
                    (
                      inl refl,
                      (
                        (inr (inr (inl refl)), inl refl),
                        (
                          (inr (inr (inl refl)), (2, inr (inr (inr (inr (inr (inr (inr (inl refl))))))), below_two _ (inr (inr (inr (inr (inr (inr (inl refl))))))) (inl refl))),
                          (
                            tt,
                            (
                              (record { size = 2; known = inr (inr (inr (inr (inr (inr (inr (inr (inr (inr (inr (inr (inl refl)))))))))))); within = omega arith }, inl (succeeded, inl refl)),
                              (
                                (record { size = 2; known = inr (inr (inr (inr (inr (inr (inr (inr (inl refl)))))))); within = omega arith }, inl (succeeded, inl refl)),
                                (
                                  (record { size = 2; known = inr (inr (inr (inr (inr (inr (inr (inr (inr (inr (inr (inr (inl refl)))))))))))); within = omega arith }, inl (succeeded, inl refl)),
                                  (
                                    record { nonempty = omega arith; rising = λ e f a b. absurd (omega arith); closed = refl },
                                    (
                                      (record { size = 1; known = inr (inr (inr (inl refl))); within = omega arith }, refl, inl (inr (inr (inr (inr (inl refl)))))),
                                      (
                                        tt,
                                        (
                                          inl refl,
                                          (
                                            (inr (inr (inr (inr (inr (inr (inr (inl refl))))))), refl),
                                            (
                                              (inr (inr (inl refl)), inl refl),
                                              (
                                                inr (inl refl),
                                                (
                                                  (inr (inr (inr (inl refl))), inl refl),
                                                  (
                                                    (record { size = 1; known = inr (inr (inr (inr (inr (inr (inr (inr (inr (inl refl))))))))); within = omega arith }, inl (withdrawn, inr (inl refl))),
                                                    (
                                                      record { nonempty = omega arith; rising = λ e f a b. absurd (omega arith); closed = refl },
                                                      (
                                                        (record { size = 1; known = inr (inr (inr (inl refl))); within = omega arith }, refl, inl (inr (inr (inr (inr (inl refl)))))),
                                                        (
                                                          (inr (inr (inr (inr (inr (inl refl))))), (refl, (1, inl refl))),
                                                          (
                                                            (record { size = 1; known = inr (inr (inr (inr (inr (inl refl))))); within = omega arith }, inl (failed 0 0, inl refl)),
                                                            (
                                                              record { worker = omega arith; closed = refl; keys = λ n h. absurd h },
                                                              (
                                                                record { worker = omega arith; closed = refl; keys = λ n h. absurd h },
                                                                (
                                                                  tt,
                                                                  tt,
                                                                ),
                                                              ),
                                                            ),
                                                          ),
                                                        ),
                                                      ),
                                                    ),
                                                  ),
                                                ),
                                              ),
                                            ),
                                          ),
                                        ),
                                      ),
                                    ),
                                  ),
                                ),
                              ),
                            ),
                          ),
                        ),
                      ),
                    ),
                  ),
                ),
              ),
            ),
          ),
        ),
      ),
    ),
  ),
)

-- whether each turn is of a worker below n; the others then stay as they were
abbrev are_below : ℕ → List WorldTurn → Bool
are_below n [] = true
are_below n (t ∷ ts) = nat_le (suc t.who) n && are_below n ts

others_stay : (w : World) (side : ℕ → Side) (ts : List WorldTurn) (n u : ℕ) → are_below n ts ≡ true → n ≤ u
    → sides_at w side ts u ≡ side u
others_stay w side [] n u b l = refl
others_stay w side (t ∷ ts) n u b l =
    let p = both (nat_le (suc t.who) n) (are_below n ts) b in
    let q : suc t.who ≤ n = leb-true (suc t.who) n p.0 in
    let ne : u ≢ t.who = omega arith in
    others_stay (world_after w t.who t.move) (sides_after w side t.who t.move) ts n u p.1 l ∙ updated_else side t.who u (side_after w (side t.who) t.who t.move) ne

abbrev first_world : World
first_world = start_world 2 1 (λ c. 5)

rest_0 : AtRest (sides_at first_world start_sides helped_run 0)
rest_0 = record { closed = refl; settled = refl; paid = refl }

rest_1 : AtRest (sides_at first_world start_sides helped_run 1)
rest_1 = record { closed = refl; settled = refl; paid = refl }

rest_else : (u : ℕ) → 2 ≤ u → AtRest (sides_at first_world start_sides helped_run u)
rest_else u l = subst AtRest (sym (others_stay first_world start_sides helped_run 2 u refl l)) record { closed = refl; settled = refl; paid = refl }

all_rest : AllAtRest (sides_at first_world start_sides helped_run)
all_rest u = ⊎_elim (λ (e : u ≡ 0). subst (λ (x : ℕ). AtRest (sides_at first_world start_sides helped_run x)) (sym e) rest_0)
    (λ (n : u ≢ 0). ⊎_elim (λ (e : u ≡ 1). subst (λ (x : ℕ). AtRest (sides_at first_world start_sides helped_run x)) (sym e) rest_1)
    (λ (m : u ≢ 1). rest_else u (omega arith)) (same_nat u 1)) (same_nat u 0)

pub a_run_to_a_success : ARunToASuccess
a_run_to_a_success = (
  world_at first_world start_sides helped_run,
  sides_at first_world start_sides helped_run,
  runs_of first_world start_sides helped_run are_allowed,
  record {
    rest = all_rest;
    first_cell = refl;
    second_cell = refl;
    third_cell = refl;
    acts = refl;
    act = refl;
    withdrew = refl;
    missed = refl;
    counter = refl;
  },
)
