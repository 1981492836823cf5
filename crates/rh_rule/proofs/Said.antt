-- What the words of a table say, and what a swap finds in them.
use Rattle.std.proofs.Common.{◌≡◌, ◌≢◌, ℕ, eqb, ◌^◌, ◌/◌, Option, cond, Bool, true, false, if◌then◌else◌, sym, refl, ap, ◌∙◌, ⊎_elim, arith, eq-eqb, ne_eqb, Some}
use Rattle.rh_layout.specs.Key.{is_full, key_in}
use Rattle.rh_tagword.specs.declared.word.Word.{Word}
use Rattle.rh_tagword.specs.declared.word.Word.TheVariants as tagged
use Rattle.rh_tagword.specs.Word.{IsRef, tag_of}
use Rattle.rh_tagword.specs.Control.{IsState, state_number}
use Rattle.rh_tagword.proofs.WordLemmas.{word_in-word_number, word_number_one}
use Rattle.rh_tagword.proofs.ControlLemmas.{state_in-state_number, state_number_fits}
use Rattle.std.proofs.lemmas.Nat.{div-mul-add, mod-mul-add}
use Rattle.rh_world.specs.World.{Cell, Control, Ref, is_ref}
use Rattle.rh_world.specs.World.Cell.{desc, mark, plain}
use Rattle.rh_world.specs.World.Control.{failed, succeeded, undecided, unused, withdrawn}
use Rattle.rh_world.specs.Moves.{is_desc, is_mark, is_plain}
use Rattle.rh_world.proofs.Updated.{is_ref_not, ref_path, same_ref, updated_ref_here}
use Rattle.rh_words.specs.declared.shape.Shape.{Shape}
use Rattle.rh_words.specs.Words.{IsPlain, cell_in, cell_said, control_of, control_said, desc_in, desc_number, mark_number, control_word_of, read_control, ref_said, serial_in, state_of, without_entry}
use Rattle.rh_words.specs.Steps.{IsDesc, IsMark}
use Rattle.rh_rule.specs.Represents.{IsCell, cell_number}

-- ---- cells

full_or : (b : Bool) (n key : ℕ) → cell_said (Some (if b then tagged.Key key else tagged.Empty)) n ≡ plain n
full_or true n key = refl
full_or false n key = refl

pub plain_said : (n : ℕ) → IsPlain n → cell_in n ≡ plain n
plain_said n h = rw h (full_or (is_full (n / 4)) n (key_in (n / 4)))

module _ (z : Shape) where
  is_ref_desc : (d : Ref) → IsDesc z d → IsRef d.worker d.number
  is_ref_desc d h = let a = z.workers_fit in let b = z.descriptors_fit in let p = h.0 in let q = h.1 in (omega arith, omega arith)

  is_ref_mark : (x : Ref) → IsMark z x → IsRef x.worker x.number
  is_ref_mark x h = let a = z.workers_fit in let b = z.marks_fit in let p = h.0 in let q = h.1 in (omega arith, omega arith)

  pub cell_said_is : (k : Cell) → IsCell z k → cell_in (cell_number k) ≡ k
  cell_said_is (plain u) h = plain_said u h
  cell_said_is (mark x) h = ap (λ (o : Option Word). cell_said o (mark_number x)) (word_in-word_number (tagged.Mark x.worker x.number) (is_ref_mark x h))
  cell_said_is (desc d) h = ap (λ (o : Option Word). cell_said o (desc_number d)) (word_in-word_number (tagged.Desc d.worker d.number) (is_ref_desc d h))

  pub desc_said_is : (d : Ref) → IsDesc z d → desc_in (desc_number d) ≡ Some d
  desc_said_is d h = ap ref_said (word_in-word_number (tagged.Desc d.worker d.number) (is_ref_desc d h))

  -- tags tell the kinds apart
  mark_tag : (x : Ref) → tag_of (mark_number x) ≡ 1
  mark_tag x = omega arith

  desc_tag : (d : Ref) → tag_of (desc_number d) ≡ 2
  desc_tag d = omega arith

  other_tag : (a b i j : ℕ) → tag_of a ≡ i → tag_of b ≡ j → i ≢ j → eqb a b ≡ false
  other_tag a b i j p q ne = ne_eqb a b (λ e. ne (sym p ∙ ap (λ (n : ℕ). tag_of n) e ∙ q))

  same_marks : (x y : Ref) → IsMark z x → IsMark z y → mark_number x ≡ mark_number y → x ≡ y
  same_marks x y p q e =
      let t : tagged.Mark x.worker x.number ≡ tagged.Mark y.worker y.number = word_number_one _ _ (is_ref_mark x p) (is_ref_mark y q) e in
      let a : x.worker ≡ y.worker = cc in let b : x.number ≡ y.number = cc in ref_path x y a b

  same_descs : (x y : Ref) → IsDesc z x → IsDesc z y → desc_number x ≡ desc_number y → x ≡ y
  same_descs x y p q e =
      let t : tagged.Desc x.worker x.number ≡ tagged.Desc y.worker y.number = word_number_one _ _ (is_ref_desc x p) (is_ref_desc y q) e in
      let a : x.worker ≡ y.worker = cc in let b : x.number ≡ y.number = cc in ref_path x y a b

  ref_self : (x y : Ref) → x ≡ y → is_ref x y ≡ true
  ref_self x y e = sym (only (is_ref x y)) ∙ updated_ref_here (λ z. false) y x true e
    where
      only : (b : Bool) → cond b true false ≡ b
      only true = refl
      only false = refl

  -- a swap finds the word that it names exactly where the cell holds what it means
  pub plain_test : (k : Cell) (old : ℕ) → IsCell z k → IsPlain old → eqb (cell_number k) old ≡ is_plain k old
  plain_test (plain u) old h p = refl
  plain_test (mark x) old h p = other_tag (mark_number x) old 1 0 (mark_tag x) p (λ e. omega arith)
  plain_test (desc d) old h p = other_tag (desc_number d) old 2 0 (desc_tag d) p (λ e. omega arith)

  pub mark_test : (k : Cell) (x : Ref) → IsCell z k → IsMark z x → eqb (cell_number k) (mark_number x) ≡ is_mark k x
  mark_test (plain u) x h p = other_tag u (mark_number x) 0 1 h (mark_tag x) (λ e. omega arith)
  mark_test (mark y) x h p = ⊎_elim
      (λ (e : y ≡ x). eq-eqb (mark_number y) (mark_number x) (ap mark_number e) ∙ sym (ref_self y x e))
      (λ (n : y ≢ x). ne_eqb (mark_number y) (mark_number x) (λ e. n (same_marks y x h p e)) ∙ sym (is_ref_not y x n)) (same_ref y x)
  mark_test (desc d) x h p = other_tag (desc_number d) (mark_number x) 2 1 (desc_tag d) (mark_tag x) (λ e. omega arith)

  pub desc_test : (k : Cell) (d : Ref) → IsCell z k → IsDesc z d → eqb (cell_number k) (desc_number d) ≡ is_desc k d
  desc_test (plain u) d h p = other_tag u (desc_number d) 0 2 h (desc_tag d) (λ e. omega arith)
  desc_test (mark y) d h p = other_tag (mark_number y) (desc_number d) 1 2 (mark_tag y) (desc_tag d) (λ e. omega arith)
  desc_test (desc f) d h p = ⊎_elim
      (λ (e : f ≡ d). eq-eqb (desc_number f) (desc_number d) (ap desc_number e) ∙ sym (ref_self f d e))
      (λ (n : f ≢ d). ne_eqb (desc_number f) (desc_number d) (λ e. n (same_descs f d h p e)) ∙ sym (is_ref_not f d n)) (same_ref f d)

-- ---- controls

abbrev pub HasState : Control → Type 0
HasState k = IsState (state_of k)

of_state : (k : Control) → control_of (state_of k) ≡ without_entry k
of_state unused = refl
of_state _ = refl

-- its word tells it, but for the entry at which it failed, and the number of its descriptor
pub control_said_is : (n : ℕ) (k : Control) → HasState k → read_control (control_word_of n k) ≡ without_entry k
control_said_is n k h =
    ap (λ (i : ℕ). control_said (Rattle.rh_tagword.specs.Control.state_in i)) (mod-mul-add n (2 ^ 8) (state_number (state_of k)) (state_number_fits (state_of k) h))
    ∙ ap control_said (state_in-state_number (state_of k) h) ∙ of_state k

pub serial_said_is : (n : ℕ) (k : Control) → HasState k → serial_in (control_word_of n k) ≡ n
serial_said_is n k h = div-mul-add n (2 ^ 8) (state_number (state_of k)) (state_number_fits (state_of k) h)

abbrev pub is_undecided : Control → Bool
is_undecided undecided = true
is_undecided _ = false

pub undecided_test : (n : ℕ) (k : Control) → HasState k → eqb (control_word_of n k) (control_word_of n undecided) ≡ is_undecided k
undecided_test n unused h = ne_eqb (control_word_of n unused) (control_word_of n undecided) (λ q. omega (arith, q))
undecided_test n undecided h = eq-eqb (control_word_of n undecided) (control_word_of n undecided) refl
undecided_test n succeeded h = ne_eqb (control_word_of n succeeded) (control_word_of n undecided) (λ q. omega (arith, q))
undecided_test n withdrawn h = ne_eqb (control_word_of n withdrawn) (control_word_of n undecided) (λ q. omega (arith, q))
undecided_test n (failed e by) h = ne_eqb (control_word_of n (failed e by)) (control_word_of n undecided) (λ q. omega (arith, q))
