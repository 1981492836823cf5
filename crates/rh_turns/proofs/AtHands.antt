-- Of the worker of a number, in a list of workers.
use Rattle.std.proofs.Common.{◌≡◌, ◌≢◌, ℕ, zero, suc, ◌<◌, sym, refl, ap, ◌∙◌, subst, arith, ⊎_elim, List, [], ◌∷◌, length, set, get_or}
use Rattle.std.proofs.lemmas.Bool.{cases_eq}
use Rattle.rh_world.specs.World.{updated}
use Rattle.rh_world.proofs.Updated.{updated_here, updated_else}
use Rattle.rh_turns.specs.declared.hand.Hand.{Hand}
use Rattle.rh_turns.specs.Game.{at_hand}

pub first_of_all : (hs : List Hand) → 0 < length hs → Hand
first_of_all [] some = absurd (omega (arith, some))
first_of_all (h ∷ hs) some = h

module _ {A : Type 0} (f : Hand → A) (default : A) where
  pub at_hand_is : (hs : List Hand) (v : ℕ) (d : Hand) → v < length hs → at_hand f default hs v ≡ f (get_or hs v d)
  at_hand_is [] v d l = absurd (omega (arith, l))
  at_hand_is (h ∷ hs) zero d l = refl
  at_hand_is (h ∷ hs) (suc v) d l = at_hand_is hs v d (omega (arith, l))

  -- one of them is put in the position of another
  pub at_hand_here : (hs : List Hand) (who : ℕ) (next : Hand) → who < length hs → at_hand f default (set hs who next) who ≡ f next
  at_hand_here [] who next l = absurd (omega (arith, l))
  at_hand_here (h ∷ hs) zero next l = refl
  at_hand_here (h ∷ hs) (suc who) next l = at_hand_here hs who next (omega (arith, l))

  pub at_hand_there : (hs : List Hand) (who : ℕ) (next : Hand) (v : ℕ) → v ≢ who → at_hand f default (set hs who next) v ≡ at_hand f default hs v
  at_hand_there [] who next v other = refl
  at_hand_there (h ∷ hs) zero next zero other = absurd (other refl)
  at_hand_there (h ∷ hs) zero next (suc v) other = refl
  at_hand_there (h ∷ hs) (suc who) next zero other = refl
  at_hand_there (h ∷ hs) (suc who) next (suc v) other = at_hand_there hs who next v (λ e. other (ap suc e))

  pub at_hand_set : (hs : List Hand) (who : ℕ) (next : Hand) → who < length hs → (v : ℕ) → at_hand f default (set hs who next) v ≡ updated (at_hand f default hs) who (f next) v
  at_hand_set hs who next l v = ⊎_elim
      (λ (e : v ≡ who). subst (λ (u : ℕ). at_hand f default (set hs who next) u ≡ updated (at_hand f default hs) who (f next) u) (sym e)
      (at_hand_here hs who next l ∙ sym (updated_here (at_hand f default hs) who who (f next) refl)))
      (λ (ne : v ≢ who). at_hand_there hs who next v ne ∙ sym (updated_else (at_hand f default hs) who v (f next) ne)) (cases_eq v who)
