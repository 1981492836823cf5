-- A look at a cell, at a control or at a length: the seat rests after it.
use Rattle.std.proofs.Common.{ℕ, Option, Some, sym, subst}
use Rattle.rh_tagword.specs.declared.control.State.{State}
use Rattle.rh_words.specs.declared.shape.Shape.{Shape}
use Rattle.rh_words.specs.declared.reference.Reading.TheVariants as reading
use Rattle.rh_words.specs.declared.reference.Ref.{Ref as Reference}
use Rattle.rh_rule.specs.declared.rule.Sitter.{Sitter}
use Rattle.rh_words.specs.Steps.Step.{reads}
use Rattle.rh_words.specs.Steps.{IsKnown}
use Rattle.rh_words.specs.Words.{cell_in, ref_of}
use Rattle.rh_helping.specs.Settling.{Grows}
use Rattle.rh_helping.proofs.Controls.{Saw, saw_control}
use Rattle.rh_helping.proofs.Growing.{clear_grows}
use Rattle.rh_helping.proofs.Looks.{cell_grows}
use Rattle.rh_helping.proofs.Rows.{grows_read, serial_grows}
use Rattle.rh_words.specs.View.{View}
use Rattle.rh_carrier.specs.Relies.{Knows}
use Rattle.rh_rdcss.specs.Calls.{HasStatus, Learned}
use Rattle.rh_rdcss.specs.Placing.{LengthSays}
use Rattle.rh_rdcss.proofs.MarksMet.{state_of_control}
use Rattle.rh_shared.specs.Rests.{IsRested}
use Rattle.rh_swaps.proofs.Carried.{over_same}
use Rattle.rh_kcas.proofs.Helped.{clear_saw}

grown_rested : (z : Shape) (v next : View) → Grows v next → Knows z next → IsRested v → IsRested next
grown_rested z v next grows knows rest = record {
  clear = clear_grows v next grows rest.clear;
  over = over_same v next grows.worker grows.facts knows.sound.one_result rest grows.opened;
}

pub peek_rested : (z : Shape) (k next : Sitter) (c word : ℕ) → Learned z (reads (reading.Cell c)) k word next → IsRested k.view → IsRested next.view
peek_rested z k next c word l =
    grown_rested z k.view next.view (subst (Grows k.view) (sym l.view_is) (cell_grows k.view c (cell_in word) k.view.side.current)) l.knows

pub count_rested : (z : Shape) (k next : Sitter) (d : Reference) (size : ℕ) → LengthSays z d (Some size) k next → IsRested k.view → IsRested next.view
count_rested z k next d size says rest =
    let middle = says.middle.view in
    grown_rested z middle next.view (subst (Grows middle) (sym says.of_serial.view_is) (serial_grows middle (ref_of d) d.number)) says.of_serial.knows
    (grown_rested z k.view middle (subst (Grows k.view) (sym says.of_length.view_is) (grows_read k.view _ _)) says.of_length.knows rest)

-- the control of a descriptor that is known as opened
module _ (z : Shape) (k next : Sitter) (d : Reference) (state : Option State) (known : IsKnown k.view.side.facts (ref_of d)) (h : HasStatus z d k state next) where
  pub status_saw : (r : Option State) × Saw k.view (ref_of d) r next.view
  status_saw =
      let r = state_of_control d.number h.word in
      (r.0, (saw_control k.view (ref_of d) h.word (h.control.finds.1 known) r.0 r.1 _ next.view known h.control.view_is).0)

  pub status_rested : IsRested k.view → IsRested next.view
  status_rested rest =
      let saw = status_saw in record {
        clear = clear_saw k.view next.view (ref_of d) saw.0 saw.1 rest.clear;
        over = over_same k.view next.view saw.1.keeps.worker saw.1.keeps.facts h.control.knows.sound.one_result rest saw.1.opened;
      }
