-- The tests that steps make, and what they tell.
use Rattle.std.proofs.Common.{◌≡◌, ◌≢◌, ℕ, zero, suc, eqb, ◌<◌, Bool, true, false, true≢false, cond, ◌&&◌, List, [], ◌∷◌, sym, refl, ap, ◌∙◌, subst, inl, inr, ⊎_elim, arith, eq-eqb, ne_eqb, Some, None, Option}
use Rattle.rh_world.specs.World.{Cell, In, Ref, is_ref}
use Rattle.rh_world.specs.World.Cell.{desc, mark, plain}
use Rattle.rh_world.specs.Sides.{is_number}
use Rattle.rh_world.specs.Moves.{covers, has, is_desc, is_mark}
use Rattle.rh_world.proofs.Updated.{is_ref_not, same_nat, same_ref, updated_ref_here}

pub is_ref_yes : (x r : Ref) → is_ref x r ≡ true → x ≡ r
is_ref_yes x r e = ⊎_elim (λ p. p) (λ n. absurd (true≢false (sym e ∙ is_ref_not x r n))) (same_ref x r)

pub eqb_yes : (a b : ℕ) → eqb a b ≡ true → a ≡ b
eqb_yes a b e = ⊎_elim (λ p. p) (λ n. absurd (true≢false (sym e ∙ ne_eqb a b n))) (same_nat a b)

pub eqb_not : (a b : ℕ) → eqb a b ≡ false → a ≢ b
eqb_not a b e p = true≢false (sym (eq-eqb a b p) ∙ e)

pub is_mark_yes : (k : Cell) (x : Ref) → is_mark k x ≡ true → k ≡ mark x
is_mark_yes (plain u) x e = absurd (true≢false (sym e))
is_mark_yes (mark y) x e = ap mark (is_ref_yes y x e)
is_mark_yes (desc d) x e = absurd (true≢false (sym e))

cond_id : (b : Bool) → cond b true false ≡ b
cond_id true = refl
cond_id false = refl

is_ref_self : (y : Ref) → is_ref y y ≡ true
is_ref_self y = sym (cond_id (is_ref y y)) ∙ updated_ref_here (λ z. false) y y true refl

pub is_mark_not : (k : Cell) (x : Ref) → is_mark k x ≡ false → k ≢ mark x
is_mark_not k x e q = true≢false (sym (ap (λ (c : Cell). is_mark c x) q ∙ is_ref_self x) ∙ e)

pub is_desc_yes : (k : Cell) (d : Ref) → is_desc k d ≡ true → k ≡ desc d
is_desc_yes (plain u) d e = absurd (true≢false (sym e))
is_desc_yes (mark y) d e = absurd (true≢false (sym e))
is_desc_yes (desc f) d e = ap desc (is_ref_yes f d e)

pub is_desc_not : (k : Cell) (d : Ref) → is_desc k d ≡ false → k ≢ desc d
is_desc_not k d e q = true≢false (sym (ap (λ (c : Cell). is_desc c d) q ∙ is_ref_self d) ∙ e)

pub is_number_yes : (q : Option ℕ) (who : ℕ) (x : Ref) → is_number q who x ≡ true
    → (x.worker ≡ who) × (q ≡ Some x.number)
is_number_yes None who x e = absurd (true≢false (sym e))
is_number_yes (Some m) who x e = let p = is_ref_yes x record { worker = who; number = m } e in (ap (λ (y : Ref). y.worker) p, ap (λ (y : Ref). Some y.number) (sym p))

has_in : (e : ℕ) (l : List ℕ) → has e l ≡ true → In e l
has_in e [] q = absurd (true≢false (sym q))
has_in e (x ∷ xs) q = ⊎_elim (λ p. inl p) (λ n. inr (has_in e xs (sym (ap (λ (b : Bool). cond b true (has e xs)) (ne_eqb e x n)) ∙ q))) (same_nat e x)

pub both : (a b : Bool) → (a && b) ≡ true → (a ≡ true) × (b ≡ true)
both true b e = (refl, e)
both false b e = absurd (true≢false (sym e))

pub covers_in : (n : ℕ) (l : List ℕ) → covers n l ≡ true → (e : ℕ) → e < n → In e l
covers_in zero l q e h = absurd (omega arith)
covers_in (suc n) l q e h = let b = both (has n l) (covers n l) q in
    ⊎_elim (λ (p : e ≡ n). subst (λ (x : ℕ). In x l) (sym p) (has_in n l b.0)) (λ (p : e ≢ n). covers_in n l b.1 e (omega arith)) (same_nat e n)

pub by_cond : {A : Type 0} (Q : A → Type 0) (b : Bool) (x y : A) → (b ≡ true → Q x) → (b ≡ false → Q y) → Q (cond b x y)
by_cond Q true x y f g = f refl
by_cond Q false x y f g = g refl
