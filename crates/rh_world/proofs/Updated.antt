-- A function that is changed at one place; controls, references and options told apart.
use Rattle.std.proofs.Common.{◌≡◌, ◌≢◌, ℕ, eqb, ◌⊎◌, Bool, true, false, cond, ◌&&◌, sym, refl, ap, ◌∙◌, subst, inl, inr, ⊎_elim, eq-eqb, ne_eqb, Some, None}
use native.Mathlib.Decide.{ℕ_discrete}
use Rattle.rh_world.specs.World.{Control, HasFailed, IsDecided, Ref, World, updated, updated_ref}
use Rattle.rh_world.specs.World.Control.{failed, undecided, unused}

pub updated_here : {A : Type 0} (f : ℕ → A) (k j : ℕ) (a : A) → j ≡ k → updated f k a j ≡ a
updated_here f k j a e = ap (λ (b : Bool). cond b a (f j)) (eq-eqb j k e)

pub updated_else : {A : Type 0} (f : ℕ → A) (k j : ℕ) (a : A) → j ≢ k → updated f k a j ≡ f j
updated_else f k j a ne = ap (λ (b : Bool). cond b a (f j)) (ne_eqb j k ne)

pub same_nat : (j k : ℕ) → (j ≡ k) ⊎ (j ≢ k)
same_nat j k = elim (ℕ_discrete j k) [ yes e ↦ inl e | no n ↦ inr n ]

pub updated_at : {A : Type 0} (f : ℕ → A) (k j : ℕ) (a : A)
    → ((j ≡ k) × (updated f k a j ≡ a)) ⊎ ((j ≢ k) × (updated f k a j ≡ f j))
updated_at f k j a = ⊎_elim (λ e. inl (e, updated_here f k j a e)) (λ n. inr (n, updated_else f k j a n)) (same_nat j k)

pub ref_path : (x r : Ref) → x.worker ≡ r.worker → x.number ≡ r.number → x ≡ r
ref_path x r p q = λ i. record { worker = p i; number = q i }

pub same_ref : (x r : Ref) → (x ≡ r) ⊎ (x ≢ r)
same_ref x r = ⊎_elim
    (λ p. ⊎_elim (λ q. inl (ref_path x r p q)) (λ n. inr (λ e. n (ap (λ (y : Ref). y.number) e))) (same_nat x.number r.number))
    (λ n. inr (λ e. n (ap (λ (y : Ref). y.worker) e))) (same_nat x.worker r.worker)

pub updated_ref_here : {A : Type 0} (f : Ref → A) (r x : Ref) (a : A) → x ≡ r → updated_ref f r a x ≡ a
updated_ref_here f r x a e =
    let p : eqb x.worker r.worker ≡ true = eq-eqb _ _ (ap (λ (y : Ref). y.worker) e) in
    let q : eqb x.number r.number ≡ true = eq-eqb _ _ (ap (λ (y : Ref). y.number) e) in
    ap (λ (b : Bool). cond (b && eqb x.number r.number) a (f x)) p ∙ ap (λ (b : Bool). cond b a (f x)) q

pub and_false : (b : Bool) → (b && false) ≡ false
and_false true = refl
and_false false = refl

pub is_ref_not : (x r : Ref) → x ≢ r → (eqb x.worker r.worker && eqb x.number r.number) ≡ false
is_ref_not x r ne = ⊎_elim
    (λ (p : x.worker ≡ r.worker). ap (λ (b : Bool). eqb x.worker r.worker && b) (ne_eqb x.number r.number (λ q. ne (ref_path x r p q))) ∙ and_false (eqb x.worker r.worker))
    (λ (n : x.worker ≢ r.worker). ap (λ (b : Bool). b && eqb x.number r.number) (ne_eqb x.worker r.worker n)) (same_nat x.worker r.worker)

pub updated_ref_else : {A : Type 0} (f : Ref → A) (r x : Ref) (a : A) → x ≢ r → updated_ref f r a x ≡ f x
updated_ref_else f r x a ne = ap (λ (b : Bool). cond b a (f x)) (is_ref_not x r ne)

pub updated_ref_at : {A : Type 0} (f : Ref → A) (r x : Ref) (a : A)
    → ((x ≡ r) × (updated_ref f r a x ≡ a)) ⊎ ((x ≢ r) × (updated_ref f r a x ≡ f x))
updated_ref_at f r x a = ⊎_elim (λ e. inl (e, updated_ref_here f r x a e)) (λ n. inr (n, updated_ref_else f r x a n)) (same_ref x r)

-- controls
pub undecided_open : (k : Control) → k ≡ undecided → IsDecided k → ⊥
undecided_open k e h = subst IsDecided e h

pub decided_opened : (k : Control) → IsDecided k → k ≢ unused
decided_opened k h e = subst IsDecided e h

pub failed_opened : (w : World) (d : Ref) (e : ℕ) → HasFailed w d e → w.control d ≢ unused
failed_opened w d e h q = let t : failed e h.0 ≡ unused = sym h.1 ∙ q in cc

-- options
pub some_not_none : (n : ℕ) → Some n ≢ None
some_not_none n e = cc

pub some_injective : (m n : ℕ) → Some m ≡ Some n → m ≡ n
some_injective m n e = cc
