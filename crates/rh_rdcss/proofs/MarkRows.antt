-- The mark row is written, and then the mark may be placed; and where it stands, its worker keeps for what it is.
use Rattle.std.proofs.Common.{◌≡◌, ℕ, suc, ◌<◌, ◌∷◌, Some, Bool, cond, eqb, ap, refl, sym, subst, ◌∙◌, inl, inr, eq-eqb}
use Rattle.rh_world.specs.World.{Cell, In, Ref}
use Rattle.rh_world.specs.Facts.Fact.{desc_is, found, mismatch, which_is}
use Rattle.rh_world.specs.Sides.{Side, note_side}
use Rattle.rh_world.specs.Moves.{place_noted, placed_noted}
use Rattle.rh_world.proofs.Updated.{ref_path}
use Rattle.rh_words.specs.declared.shape.Shape.{Shape}
use Rattle.rh_words.specs.declared.shape.Part.TheVariants as part
use Rattle.rh_words.specs.declared.reference.Piece.{Piece}
use Rattle.rh_words.specs.Parts.{mark_row}
use Rattle.rh_words.specs.View.{View}
use Rattle.rh_words.specs.Words.{IsPlain, cell_in, desc_number, ref_of}
use Rattle.rh_words.specs.Steps.{Allowed, noted, own_mark}
use Rattle.rh_words.specs.Steps.Step.{places, writes}
use Rattle.rh_words.specs.declared.reference.Ref.{Ref as Reference}
use Rattle.rh_rule.proofs.Said.{plain_said}
use Rattle.rh_helping.proofs.Knowing.{allowed}
use Rattle.rh_helping.proofs.Marking.{newest_word, older_word, other_word}
use Rattle.rh_carrier.specs.Relies.{Knows}
use Rattle.rh_rule.specs.declared.rule.Sitter.{Sitter}
use Rattle.rh_rdcss.specs.Placing.{IsMarkFor, KnowsPiece, Tried, Writes, WritesRow}

module _ (z : Shape) (k : Sitter) (p : Piece) (old : ℕ) (knows : Knows z k.view) (may : KnowsPiece z k.view p old) where
  abbrev v : View
  v = k.view

  -- what the worker keeps while the row is written, the newest word first
  abbrev serial_written : View
  serial_written = record v { written = record { row = mark_row z 0; word = v.marks_used } ∷ v.written }

  abbrev desc_written : View
  desc_written = record v { written = record { row = mark_row z 1; word = desc_number (ref_of p.desc) } ∷ serial_written.written }

  abbrev with_row : View
  with_row = record v { written = record { row = mark_row z 2; word = p.entry } ∷ desc_written.written }

  row_is : (next : Sitter) → WritesRow z p k next → next.view ≡ with_row
  row_is next r =
      r.of_entry.1.view_is
      ∙ ap (λ (u : View). noted z u (writes (part.MarkEntry v.worker) p.entry) 0)
      (r.of_desc.1.view_is ∙ ap (λ (u : View). noted z u (writes (part.MarkDesc v.worker) (desc_number (ref_of p.desc))) 0) r.of_serial.1.view_is)

  -- each of its words may be written, once those before it are
  pub may_write_serial : v.marks_used < z.rooms.marks → Allowed z v (writes (part.MarkSerial v.worker) v.marks_used)
  may_write_serial left = allowed z v knows _ (refl, may.settled, refl, left)

  module _ (first : Sitter) (r : Writes z (part.MarkSerial v.worker) v.marks_used k first) where
    pub may_write_desc : Allowed z first.view (writes (part.MarkDesc v.worker) (desc_number (ref_of p.desc)))
    may_write_desc =
        let still = subst (Knows z) r.1.view_is r.1.knows in
        subst (λ (u : View). Allowed z u (writes (part.MarkDesc v.worker) (desc_number (ref_of p.desc)))) (sym r.1.view_is)
        (allowed z serial_written still _ (refl, may.settled, newest_word v.written (mark_row z 0) (mark_row z 0) v.marks_used refl))

    module _ (second : Sitter) (q : Writes z (part.MarkDesc v.worker) (desc_number (ref_of p.desc)) first second) where
      second_is : second.view ≡ desc_written
      second_is = q.1.view_is ∙ ap (λ (u : View). noted z u (writes (part.MarkDesc v.worker) (desc_number (ref_of p.desc))) 0) r.1.view_is

      pub may_write_entry : Allowed z second.view (writes (part.MarkEntry v.worker) p.entry)
      may_write_entry =
          let still = subst (Knows z) second_is q.1.knows in
          subst (λ (u : View). Allowed z u (writes (part.MarkEntry v.worker) p.entry)) (sym second_is)
          (allowed z desc_written still _ (
            refl,
            may.settled,
            older_word serial_written.written (mark_row z 1) (mark_row z 0) _ (other_word z 0 1 (λ e. cc)) ∙ newest_word v.written (mark_row z 0) (mark_row z 0) v.marks_used refl,
          ))

  -- then the mark may be placed
  pub may_place : (next : Sitter) → v.marks_used < z.rooms.marks → WritesRow z p k next → Allowed z next.view (places (ref_of p.desc) p.entry p.cell old)
  may_place next left r =
      let is = row_is next r in
      let still = subst (Knows z) is r.of_entry.1.knows in
      subst (λ (u : View). Allowed z u (places (ref_of p.desc) p.entry p.cell old)) (sym is) (allowed z with_row still _ (record {
        cell = still.sound.targets (ref_of p.desc) p.entry p.cell may.knows_cell may.work;
        room = left;
        serial = older_word desc_written.written (mark_row z 2) (mark_row z 0) p.entry (other_word z 0 2 (λ e. cc))
            ∙ older_word serial_written.written (mark_row z 1) (mark_row z 0) (desc_number (ref_of p.desc)) (other_word z 0 1 (λ e. cc))
            ∙ newest_word v.written (mark_row z 0) (mark_row z 0) v.marks_used refl;
        desc = older_word desc_written.written (mark_row z 2) (mark_row z 1) p.entry (other_word z 1 2 (λ e. cc))
            ∙ newest_word serial_written.written (mark_row z 1) (mark_row z 1) (desc_number (ref_of p.desc)) refl;
        entry = newest_word desc_written.written (mark_row z 2) (mark_row z 2) p.entry refl;
        work = may.work;
        seen = may.seen;
        knows_cell = may.knows_cell;
        knows_old = may.knows_old;
        settled = may.settled;
      }))

  -- ---- it found the old value: the own mark stands in the cell

  abbrev d : Ref
  d = ref_of p.desc

  abbrev there : Side
  there = placed_noted v.side (own_mark v) d p.entry p.cell

  abbrev after : Side → View
  after s = record with_row { side = s; marks_used = cond (eqb old old) (suc v.marks_used) v.marks_used }

  placed : place_noted v.side (own_mark v) d p.entry p.cell old (cell_in old) 0 ≡ there
  placed =
      let plain_old : IsPlain old = knows.sound.olds d p.entry old may.knows_old (inl may.work) in
      ap (λ (k : Cell). place_noted v.side (own_mark v) d p.entry p.cell old k 0) (plain_said old plain_old)
      ∙ ap (λ (b : Bool). cond b there (note_side v.side (mismatch d p.entry 0))) (eq-eqb old old refl)

  pub is_mark_for : (next : Sitter) → Tried z p old k old next → (x : Reference) → x.worker ≡ v.worker → x.number ≡ v.marks_used
      → IsMarkFor p.desc p.entry next.view (record { mark = x; piece = p; old = old })
  is_mark_for next tried x worker number =
      let mine : own_mark v ≡ ref_of x = ref_path (own_mark v) (ref_of x) (sym worker) (sym number) in
      subst (λ (u : View). IsMarkFor p.desc p.entry u (record { mark = x; piece = p; old = old })) (sym (tried.place.view_is ∙ ap (λ (u : View). noted z u (places (ref_of p.desc) p.entry p.cell old) old) (row_is tried.written tried.row)))
      (subst (λ (s : Side). IsMarkFor p.desc p.entry (after s) (record { mark = x; piece = p; old = old })) (sym placed) (record {
        desc = refl;
        entry = refl;
        worker = worker;
        unsettled = ap Some (sym number);
        here = subst (λ (y : Ref). In (found y p.cell) there.facts) mine (inl refl);
        facts = record {
          of_desc = subst (λ (y : Ref). In (desc_is y d) there.facts) mine (inr (inr (inl refl)));
          of_entry = subst (λ (y : Ref). In (which_is y p.entry) there.facts) mine (inr (inl refl));
          knows_old = inr (inr (inr may.knows_old));
        };
      }))
