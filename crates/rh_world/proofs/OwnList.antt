-- A worker's acts are, in order, its descriptors that succeeded.
use Rattle.std.proofs.Common.{◌≡◌, ◌≢◌, ℕ, zero, suc, eqb, ◌<◌, ◌≤◌, ◌⊎◌, Bool, true, false, true≢false, cond, List, [], ◌∷◌, sym, refl, ap, ◌∙◌, subst, inl, inr, ⊎_elim, arith, eq-eqb, ne_eqb}
use Rattle.rh_world.specs.World.{Control, In, IsFalling, IsOpened, Ref, World}
use Rattle.rh_world.specs.World.Control.{succeeded}
use Rattle.rh_world.specs.Sides.{Side}
use Rattle.rh_world.specs.Acts.{Acts, is_success, own_acts, successes_of}
use Rattle.rh_world.proofs.ActsKept.{succeeded_opened}
use Rattle.rh_world.proofs.Updated.{ref_path, same_nat}

same_lists : (xs ys : List ℕ) → IsFalling xs → IsFalling ys → ((y : ℕ) → In y xs → In y ys)
    → ((y : ℕ) → In y ys → In y xs) → xs ≡ ys
same_lists [] [] s t f g = refl
same_lists [] (y ∷ ys) s t f g = absurd (g y (inl refl))
same_lists (x ∷ xs) [] s t f g = absurd (f x (inl refl))
same_lists (x ∷ xs) (y ∷ ys) s t f g =
    let e : x ≡ y = ⊎_elim (λ p. p) (λ i. ⊎_elim (λ p. sym p) (λ j. let a = t.0 x i in let b = s.0 y j in absurd (omega arith)) (g y (inl refl))) (f x (inl refl)) in
    let tails : xs ≡ ys = same_lists xs ys s.1 t.1
    (λ z i. ⊎_elim (λ (p : z ≡ y). let a = s.0 z i in absurd (omega arith)) (λ j. j) (f z (inr i)))
    (λ z i. ⊎_elim (λ (p : z ≡ x). let a = t.0 z i in absurd (omega arith)) (λ j. j) (g z (inr i))) in
    λ i. e i ∷ tails i

module _ (w : World) (side : ℕ → Side) (a : Acts w side) (v : ℕ) where
  own_from : (n : ℕ) → n ≤ w.act_count → (y : ℕ) → In y (own_acts w v n)
      → (i : ℕ) × (i < n) × (w.act i ≡ record { worker = v; number = y })
  own_from zero h y j = absurd j
  own_from (suc n) h y j = ⊎_elim
      (λ (p : (w.act n).worker ≡ v). ⊎_elim
      (λ (q : y ≡ (w.act n).number). (n, omega arith, ref_path (w.act n) record { worker = v; number = y } p (sym q)))
      (λ (k : In y (own_acts w v n)). let r = own_from n (omega arith) y k in let l : r.0 < n = r.1 in (r.0, omega arith, r.2))
      (subst (λ (b : Bool). In y (cond b ((w.act n).number ∷ own_acts w v n) (own_acts w v n))) (eq-eqb _ _ p) j))
      (λ (p : (w.act n).worker ≢ v).
      let k = subst (λ (b : Bool). In y (cond b ((w.act n).number ∷ own_acts w v n) (own_acts w v n))) (ne_eqb _ _ p) j in
      let r = own_from n (omega arith) y k in let l : r.0 < n = r.1 in (r.0, omega arith, r.2))
      (same_nat (w.act n).worker v)

  own_to : (n i y : ℕ) → i < n → w.act i ≡ record { worker = v; number = y } → In y (own_acts w v n)
  own_to zero i y h e = absurd (omega arith)
  own_to (suc n) i y h e = ⊎_elim
      (λ (p : i ≡ n).
      let q : w.act n ≡ record { worker = v; number = y } = ap w.act (sym p) ∙ e in
      subst (λ (b : Bool). In y (cond b ((w.act n).number ∷ own_acts w v n) (own_acts w v n))) (sym (eq-eqb _ _ (ap (λ (x : Ref). x.worker) q))) (inl (ap (λ (x : Ref). x.number) (sym q))))
      (λ (p : i ≢ n). over (eqb (w.act n).worker v) (own_to n i y (omega arith) e))
      (same_nat i n)
    where
      over : (b : Bool) → In y (own_acts w v n) → In y (cond b ((w.act n).number ∷ own_acts w v n) (own_acts w v n))
      over true k = inr k
      over false k = k

  own_falling : (n : ℕ) → n ≤ w.act_count → IsFalling (own_acts w v n)
  own_falling zero h = tt
  own_falling (suc n) h = ⊎_elim
      (λ (p : (w.act n).worker ≡ v). subst (λ (b : Bool). IsFalling (cond b ((w.act n).number ∷ own_acts w v n) (own_acts w v n))) (sym (eq-eqb _ _ p)) (
        (λ y j.
            let r = own_from n (omega arith) y j in
            let o = a.ordered r.0 n r.1 (omega arith) (ap (λ (x : Ref). x.worker) r.2 ∙ sym p) in
            subst (λ (x : Ref). x.number < (w.act n).number) r.2 o),
        own_falling n (omega arith),
      ))
      (λ (p : (w.act n).worker ≢ v). subst (λ (b : Bool). IsFalling (cond b ((w.act n).number ∷ own_acts w v n) (own_acts w v n))) (sym (ne_eqb _ _ p)) (own_falling n (omega arith)))
      (same_nat (w.act n).worker v)

pub success_yes : (k : Control) → is_success k ≡ true → k ≡ succeeded
success_yes succeeded e = refl
success_yes _ e = absurd (true≢false (sym e))

kept_from : (b : Bool) (y n : ℕ) (ns : List ℕ) → In y (cond b (n ∷ ns) ns) → ((b ≡ true) × (y ≡ n)) ⊎ In y ns
kept_from true y n ns j = ⊎_elim (λ p. inl (refl, p)) inr j
kept_from false y n ns j = inr j

kept_on : (b : Bool) (y n : ℕ) (ns : List ℕ) → In y ns → In y (cond b (n ∷ ns) ns)
kept_on true y n ns j = inr j
kept_on false y n ns j = j

module _ (w : World) (v : ℕ) where
  some_from : (ns : List ℕ) (y : ℕ) → In y (successes_of w v ns)
      → In y ns × (w.control (record { worker = v; number = y }) ≡ succeeded)
  some_from [] y j = absurd j
  some_from (n ∷ ns) y j = ⊎_elim
      (λ p. (inl p.1, ap (λ (k : ℕ). w.control (record { worker = v; number = k })) p.1 ∙ success_yes _ p.0))
      (λ k. let r = some_from ns y k in (inr r.0, r.1)) (kept_from (is_success (w.control (record { worker = v; number = n }))) y n (successes_of w v ns) j)

  some_to : (ns : List ℕ) (y : ℕ) → In y ns → w.control (record { worker = v; number = y }) ≡ succeeded
      → In y (successes_of w v ns)
  some_to [] y j e = absurd j
  some_to (n ∷ ns) y j e = ⊎_elim
      (λ (p : y ≡ n).
      let q : w.control (record { worker = v; number = n }) ≡ succeeded = ap (λ (k : ℕ). w.control (record { worker = v; number = k })) (sym p) ∙ e in
      subst (λ (k : Control). In y (cond (is_success k) (n ∷ successes_of w v ns) (successes_of w v ns))) (sym q) (inl p))
      (λ k. kept_on (is_success (w.control (record { worker = v; number = n }))) y n (successes_of w v ns) (some_to ns y k e)) j

  some_falling : (ns : List ℕ) → IsFalling ns → IsFalling (successes_of w v ns)
  some_falling [] s = tt
  some_falling (n ∷ ns) s = over (is_success (w.control (record { worker = v; number = n }))) (some_falling ns s.1)
    where
      over : (b : Bool) → IsFalling (successes_of w v ns)
          → IsFalling (cond b (n ∷ successes_of w v ns) (successes_of w v ns))
      over true t = ((λ y j. s.0 y (some_from ns y j).0), t)
      over false t = t

-- with the opened descriptors of v listed, the newest first
pub own_acts_are : (w : World) (side : ℕ → Side) (v : ℕ) (opened : List ℕ) → Acts w side → IsFalling opened
    → ((y : ℕ) → IsOpened (w.control (record { worker = v; number = y })) → In y opened)
    → own_acts w v w.act_count ≡ successes_of w v opened
own_acts_are w side v opened a s all = same_lists (own_acts w v w.act_count) (successes_of w v opened) (own_falling w side a v w.act_count (omega arith)) (some_falling w v opened s)
    (λ y j.
    let r = own_from w side a v w.act_count (omega arith) y j in
    let e : w.control (record { worker = v; number = y }) ≡ succeeded = ap w.control (sym r.2) ∙ a.succeeded r.0 r.1 in
    some_to w v opened y (all y (succeeded_opened _ e)) e)
    (λ y j. let r = some_from w v opened y j in let m = a.made (record { worker = v; number = y }) r.1 in own_to w side a v w.act_count m.0 y m.1 m.2)
