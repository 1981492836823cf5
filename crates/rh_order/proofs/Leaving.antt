-- What the cells stand for is left by each step but one that lets a descriptor succeed.
use Rattle.std.proofs.Common.{◌≡◌, ℕ, ◌<◌, List, Bool, true, false, cond, eqb, refl, sym, ap, ◌∙◌, arith}
use Rattle.rh_world.specs.World.{Control, Ref, World, updated}
use Rattle.rh_world.specs.World.Control.{failed, succeeded, undecided, unused, withdrawn}
use Rattle.rh_world.specs.Acts.{cells_after}
use Rattle.rh_world.specs.Moves.{cell_world, decided_world, is_desc, is_mark, is_plain, next_mark, place_world, released_cell, settled_cell}
use Rattle.rh_world.proofs.EndsKept.{cells_are}
use Rattle.rh_world.proofs.Tests.{eqb_yes}
use Rattle.std.specs.Prelude.{slice_index}
use Rattle.rh_words.specs.declared.shape.Shape.{Shape}
use Rattle.rh_words.specs.declared.shape.Part.TheVariants as part
use Rattle.rh_words.specs.Parts.{reason_row}
use Rattle.rh_words.specs.View.{View}
use Rattle.rh_words.specs.Words.{control_word_of, with_entry}
use Rattle.rh_words.specs.Steps.{CanDecide, IsStep, Step, decided_so, is_none, index, row_word}
use Rattle.rh_rule.specs.Core.{Core, world_then}
use Rattle.rh_rule.specs.Represents.{word_at}
use Rattle.rh_rule.proofs.DecidesKept.{closed, decided_before}
use Rattle.rh_rule.proofs.StepLaw.{each_step_keeps}
use Rattle.rh_order.specs.Laws.{IsSuccess, OnlySuccessChanges}
use Rattle.rh_order.proofs.Saying.{logical_words}

-- what the acts left in the cells
abbrev left : World → (c : ℕ) → ℕ
left w = w.logical w.act_count

left_after : (w : World) (z : Shape) (words : List ℕ) (keep : ℕ → View) → Core w z words keep → (c : ℕ) → cells_after w w.act_count c ≡ left w c
left_after w z words keep core c = cells_are w core.side core.rule w.act_count (omega arith) c

-- a swap that may find another word
swap_leaves : (w v : World) (b : Bool) → left v ≡ left w → left (cond b v w) ≡ left w
swap_leaves w v true same = same
swap_leaves w v false same = refl

-- a descriptor that does not succeed is no act
decided_leaves : (w : World) (d : Ref) (c k : Control) → (k ≡ succeeded → ⊥) → left (decided_world w d c k) ≡ left w
decided_leaves w d unused k ne = refl
decided_leaves w d undecided unused ne = refl
decided_leaves w d undecided undecided ne = refl
decided_leaves w d undecided succeeded ne = absurd (ne refl)
decided_leaves w d undecided withdrawn ne = refl
decided_leaves w d undecided (failed e by) ne = refl
decided_leaves w d succeeded k ne = refl
decided_leaves w d withdrawn k ne = refl
decided_leaves w d (failed e by) k ne = refl

no_success : (e : ℕ) (k : Control) → (k ≡ succeeded → ⊥) → with_entry e k ≡ succeeded → ⊥
no_success e succeeded ne is = ne refl
no_success e (failed f by) ne is = absurd cc
no_success e _ ne is = ne is

module _ (w : World) (z : Shape) (words : List ℕ) (keep : ℕ → View) (who : ℕ) (core : Core w z words keep) (mine : who < z.workers) where
  decide_leaves : (d : Ref) (k : Control) (word : ℕ) → word ≡ word_at z words (part.Control d.worker) → CanDecide z (keep who) d k → (IsSuccess (Step.decides d k) word → ⊥)
      → left (world_then z w who (keep who) (Step.decides d k)) ≡ left w
  decide_leaves d k word found can none = either (eqb (word_at z words (part.Control d.worker)) (control_word_of d.number undecided)) refl
    where
      either : (b : Bool) → eqb (word_at z words (part.Control d.worker)) (control_word_of d.number undecided) ≡ b → left (world_then z w who (keep who) (Step.decides d k)) ≡ left w
      either true e = decided_leaves w d (w.control d) (decided_so z (keep who) d k)
          (no_success (row_word (keep who).written (reason_row z d.worker)) k (λ is. none (found ∙ eqb_yes (word_at z words (part.Control d.worker)) (control_word_of d.number undecided) e, is)))
      either false e = ap left (decided_before w d (w.control d) (decided_so z (keep who) d k) (closed z words keep w core.side core.rule core.represents who mine d k can e))

  step_leaves : (s : Step) (word : ℕ) → word ≡ slice_index words (index z (keep who) s) → IsStep z (keep who) s → (IsSuccess s word → ⊥) → left (world_then z w who (keep who) s) ≡ left w
  step_leaves (Step.places d e c old) word found may none = swap_leaves w (place_world w (next_mark w who) d e) (is_plain (w.cell (w.target d e)) (w.old d e)) refl
  step_leaves (Step.settles x c d e old) word found may none = swap_leaves w (cell_world w c (settled_cell w x (is_none old))) (is_mark (w.cell c) x) refl
  step_leaves (Step.decides d k) word found may none = decide_leaves d k word found may none
  step_leaves (Step.releases d e c k value) word found may none = swap_leaves w (cell_world w (w.target d e) (released_cell w d e)) (is_desc (w.cell (w.target d e)) d) refl
  step_leaves _ word found may none = refl

pub only_success_changes : OnlySuccessChanges
only_success_changes w z words then keep who s word next core mine may to none c was is inside before after =
    let w' = world_then z w who (keep who) s in
    let core' = each_step_keeps w z words then keep who s word next core mine may to in
    let keep' = updated keep who next in
    logical_words w' z then keep' c is core' inside after ∙ left_after w' z then keep' core' c
    ∙ ap (λ (f : ℕ → ℕ). f c) (step_leaves w z words keep who core mine s word to.found_is may.step none)
    ∙ sym (logical_words w z words keep c was core inside before ∙ left_after w z words keep core c)
