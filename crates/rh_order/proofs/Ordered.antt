-- Under the rule what is kept of a worker's descriptors is in order.
use Rattle.std.proofs.Common.{◌≡◌, ℕ, ◌<◌, ◌≤◌, inl, inr, ⊎_elim, refl, sym, ap, ◌∙◌, subst, arith, List, [], ◌∷◌, Some}
use Rattle.rh_world.specs.World.{In, IsFalling, Ref}
use Rattle.rh_world.specs.Facts.Fact.{decided}
use Rattle.rh_world.specs.Sides.{Side}
use Rattle.rh_words.specs.View.{OwnDesc}
use Rattle.rh_rule.specs.Represents.{numbers_of}
use Rattle.rh_order.specs.OwnActs.{KeptIsOrderly}
use Rattle.rh_order.proofs.Happening.{of_number}

-- the greatest number stands first
first_is : (os : List OwnDesc) (p : ℕ) → IsFalling (numbers_of os) → In p (numbers_of os) → ((o : OwnDesc) → In o os → o.number ≤ p)
    → (o : OwnDesc) × (earlier : List OwnDesc) × (os ≡ o ∷ earlier) × (o.number ≡ p)
first_is [] p falls i most = absurd i
first_is (o ∷ os) p falls i most =
    let l = most o (inl refl) in
    (o, os, refl, ⊎_elim (λ (e : p ≡ o.number). sym e) (λ j. let m = falls.0 p j in absurd (omega arith)) i)

pub kept_is_orderly : KeptIsOrderly
kept_is_orderly w z words keep v core mine =
    let h = core.represents.kept v mine in
    let rows = core.rule.rows in
    let ref : ℕ → Ref = λ n. record { worker = v; number = n } in
    record {
      falling = h.falling;
      below = λ n i.
          let o = of_number (keep v).opened n i in
          let below : o.0.number < w.next_number v = rows.below (ref o.0.number) (h.opened o.0 o.1).opened in
          let is : n ≡ o.0.number = o.2 in
          let same : (keep v).next_number ≡ w.next_number v = h.next_number in
          omega arith;
      newest = λ p e.
          let current : (core.side v).current ≡ Some p = ap (λ (s : Side). s.current) (sym h.side_is) ∙ e in
          first_is (keep v).opened p h.falling (h.all p (rows.current (ref p) current)) (λ o i. rows.last (ref p) (ref o.number) current refl (h.opened o i).opened);
      over = λ o i. ⊎_elim inl (λ q. inr (q.0, subst (λ (u : ℕ). In (decided (record { worker = u; number = o.number }) q.0) (keep v).side.facts) (sym h.worker) q.1)) (h.over o i);
    }
