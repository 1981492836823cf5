-- Controls and their numbers, for the layers above.
use Rattle.std.proofs.Common.{◌≡◌, ℕ, ◌/◌, ◌%◌, ◌^◌, ◌<◌, Option, None, Some, ap, sym, ◌∙◌, refl, arith}
use Rattle.std.proofs.lemmas.Grind.{common_steps}
use Rattle.std.proofs.lemmas.Nat.{div-mul-add, mod-mul-add}
use Rattle.std.proofs.lemmas.Option.{same_Some}
use Rattle.rh_tagword.specs.declared.control.State.{State}
use Rattle.rh_tagword.specs.declared.control.State.TheVariants.{Unused, Undecided, Succeeded, Withdrawn, Failed}
use Rattle.rh_tagword.specs.Control.{IsControl, IsState, control_number, control_in, state_in, state_number, with_serial}

pub state_number_fits : (s : State) → IsState s → state_number s < 2 ^ 8
state_number_fits Unused h = omega arith
state_number_fits Undecided h = omega arith
state_number_fits Succeeded h = omega arith
state_number_fits Withdrawn h = omega arith
state_number_fits (Failed decider) h = omega arith

pub state_in-state_number : (s : State) → IsState s → state_in (state_number s) ≡ Some s
state_in-state_number Unused h = refl
state_in-state_number Undecided h = refl
state_in-state_number Succeeded h = refl
state_in-state_number Withdrawn h = refl
state_in-state_number (Failed decider) h = grind (arith, common_steps)

-- what is read as a state is its number
state_in_is : (n : ℕ) (s : State) → state_in n ≡ Some s → n ≡ state_number s
state_in_is n s e = grind (arith, common_steps)

pub control_number_fits : (serial : ℕ) (s : State) → IsControl serial s → control_number serial s < 2 ^ 64
control_number_fits serial s h = let fits = state_number_fits s h.1 in omega (arith, h.0, fits)

pub control_in-control_number : (serial : ℕ) (s : State) → IsState s → control_in (control_number serial s) ≡ Some (serial, s)
control_in-control_number serial s h =
    let fits = state_number_fits s h in
    (λ i. with_serial (div-mul-add serial (2 ^ 8) (state_number s) fits i) (state_in (mod-mul-add serial (2 ^ 8) (state_number s) fits i)))
    ∙ ap (with_serial serial) (state_in-state_number s h)

-- what is read as a control is its number
pub control_in_is : (n serial : ℕ) (s : State) → control_in n ≡ Some (serial, s) → n ≡ control_number serial s
control_in_is n serial s e = either (state_in (n % 2 ^ 8)) refl e
  where
    either : (o : Option State) → state_in (n % 2 ^ 8) ≡ o → with_serial (n / 2 ^ 8) o ≡ Some (serial, s) → n ≡ control_number serial s
    either None is e = cc
    either (Some t) is e =
        let both : (n / 2 ^ 8, t) ≡ (serial, s) = same_Some (n / 2 ^ 8, t) (serial, s) e in
        let low : n % 2 ^ 8 ≡ state_number s = state_in_is (n % 2 ^ 8) t is ∙ ap (λ (q : ℕ × State). state_number q.1) both in
        let high : n / 2 ^ 8 ≡ serial = ap (λ (q : ℕ × State). q.0) both in
        omega (arith, low, high)

-- different controls have different numbers
pub control_number_one : (i j : ℕ) (s t : State) → IsState s → IsState t → control_number i s ≡ control_number j t → (i ≡ j) × (s ≡ t)
control_number_one i j s t p q e =
    let both : (i, s) ≡ (j, t) = same_Some (i, s) (j, t) (sym (control_in-control_number i s p) ∙ ap control_in e ∙ control_in-control_number j t q) in
    (ap (λ (x : ℕ × State). x.0) both, ap (λ (x : ℕ × State). x.1) both)
