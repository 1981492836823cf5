-- A control without the entry at which it failed, as its word tells it.
use Rattle.std.proofs.Common.{◌≡◌, ℕ, ◌<◌, ◌∙◌, refl, subst, sym}
use Rattle.rh_tagword.specs.Control.{IsState}
use Rattle.rh_world.specs.World.{Control, IsDecided}
use Rattle.rh_world.specs.World.Control.{failed, succeeded, undecided, unused, withdrawn}
use Rattle.rh_world.specs.Logical.{entry_value}
use Rattle.rh_world.specs.Acts.{is_success}
use Rattle.rh_words.specs.declared.shape.Shape.{Shape}
use Rattle.rh_words.specs.View.{View}
use Rattle.rh_words.specs.Words.{control_word_of, state_of, with_entry, without_entry}
use Rattle.rh_words.specs.Steps.{IsResult}

pub read_as_decided : (k : Control) → IsDecided k → IsDecided (without_entry k)
read_as_decided unused h = h
read_as_decided _ h = h

pub read_as_unused : (k : Control) → without_entry k ≡ unused → k ≡ unused
read_as_unused unused e = refl
read_as_unused _ e = cc

pub read_as_withdrawn : (k : Control) → without_entry k ≡ withdrawn → k ≡ withdrawn
read_as_withdrawn withdrawn e = refl
read_as_withdrawn _ e = cc

pub read_as_succeeded : (k : Control) → without_entry k ≡ succeeded → k ≡ succeeded
read_as_succeeded succeeded e = refl
read_as_succeeded _ e = cc

pub read_as_success : (k : Control) → is_success (without_entry k) ≡ is_success k
read_as_success unused = refl
read_as_success _ = refl

-- the value that counts does not ask where it failed
pub read_as_value : (k : Control) (old new : ℕ) → entry_value (without_entry k) old new ≡ entry_value k old new
read_as_value unused old new = refl
read_as_value _ old new = refl

-- its word is the same
pub read_as_number : (n : ℕ) (k : Control) → control_word_of n (without_entry k) ≡ control_word_of n k
read_as_number n unused = refl
read_as_number n _ = refl

pub read_as_undecided : (k : Control) → without_entry k ≡ undecided → k ≡ undecided
read_as_undecided undecided e = refl
read_as_undecided _ e = cc

pub read_as_failed : (k : Control) (e by : ℕ) → without_entry k ≡ failed e by → (i : ℕ) × (k ≡ failed i by)
read_as_failed (failed i b) e by q = (i, (let same : b ≡ by = cc in λ t. failed i (same t)))
read_as_failed _ e by q = cc

-- ---- a control that a worker sets

pub set_number : (n e : ℕ) (k : Control) → control_word_of n (with_entry e k) ≡ control_word_of n k
set_number n e unused = refl
set_number n e _ = refl

pub set_decided : (z : Shape) (v : View) (e : ℕ) (k : Control) → IsResult z v k → IsDecided (with_entry e k)
set_decided z v e unused h = absurd h
set_decided z v e undecided h = absurd h
set_decided z v e _ h = tt

-- a set control that failed has this entry, and names its worker
pub set_failed : (z : Shape) (v : View) (e : ℕ) (k : Control) → IsResult z v k → (f by : ℕ) → with_entry e k ≡ failed f by → (e ≡ f) × (by ≡ v.worker)
set_failed z v e unused h f by q = absurd h
set_failed z v e undecided h f by q = absurd h
set_failed z v e succeeded h f by q = cc
set_failed z v e withdrawn h f by q = cc
set_failed z v e (failed i b) h f by q = let same : b ≡ by = cc in ((let is : e ≡ f = cc in is), sym same ∙ h.1)

pub set_state : (z : Shape) (v : View) (e : ℕ) (k : Control) → v.worker < 64 → IsResult z v k → IsState (state_of (with_entry e k))
set_state z v e unused few h = absurd h
set_state z v e undecided few h = absurd h
set_state z v e succeeded few h = tt
set_state z v e withdrawn few h = tt
set_state z v e (failed i by) few h = subst (λ (n : ℕ). n < 64) (sym h.1) few
