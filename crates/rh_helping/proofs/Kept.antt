-- The stages after which there is one next stage.
use Rattle.std.proofs.Common.{◌≡◌, ℕ, ◌∷◌, Option, refl, inl, inr, arith, ◌∙◌}
use Rattle.rh_words.specs.declared.shape.Shape.{Shape}
use Rattle.rh_words.specs.Parts.{mark_row, reason_row}
use Rattle.rh_words.specs.View.{OwnDesc, View}
use Rattle.rh_words.specs.View.RowWord.{cell_word, length_word, new_word, old_word}
use Rattle.rh_words.specs.Words.{ref_of}
use Rattle.rh_words.specs.Steps.{Allowed, noted}
use Rattle.rh_carrier.specs.Own.{KnowsOwn}
use Rattle.rh_carrier.specs.Relies.{Knows}
use Rattle.rh_helping.specs.Keeping.{IsKept, kept}
use Rattle.rh_helping.specs.Next.{Work}
use Rattle.rh_helping.specs.Next.StageOutcome.{On}
use Rattle.rh_helping.specs.Next.{Work as work}
use Rattle.rh_helping.specs.Requested.{requested}
use Rattle.rh_helping.specs.Work.{Leads, Stands}
use Rattle.rh_helping.proofs.Decisions.{may_give_reason, noted_mismatch}
use Rattle.rh_helping.proofs.Growing.{at_grows, foreign_grows, met_grows, nothing_grows, own_grows}
use Rattle.rh_helping.proofs.Knowing.{allowed}
use Rattle.rh_helping.proofs.Leading.{lead}
use Rattle.rh_helping.proofs.Marking.{newest_word, older_word, other_word, wrote, wrote_own}
use Rattle.rh_helping.proofs.Rows as rows
use Rattle.rh_helping.proofs.Rows.{grows_read}
use Rattle.rh_helping.proofs.Starting as starting

-- what they ask for is allowed
pub may_keep : (z : Shape) (v : View) → Knows z v → (w : Work) → IsKept w → Stands z v w → Allowed z v (requested v w)
may_keep z v k (work.Length d state) is h = starting.may_read_length z v k d state h.1
may_keep z v k (work.EntryCell t) is h = rows.may_read_cell z v k t h.0
may_keep z v k (work.EntryOld t c) is h = rows.may_read_old z v k t h.0
may_keep z v k (work.EntryNew t c o) is h = rows.may_read_new z v k t h.0
may_keep z v k (work.MarkSerial g) is h = allowed z v k _ (refl, h.owes.settled, refl, h.mark)
may_keep z v k (work.MarkDesc g) is h = allowed z v k _ (refl, h.0.owes.settled, h.1)
may_keep z v k (work.MarkEntry g) is h = allowed z v k _ (refl, h.0.owes.settled, h.1.serial)
may_keep z v k (work.WriteReason t) is h = may_give_reason z v k t h v.worker refl
may_keep z v k other is h = absurd is

module _ (z : Shape) (v : View) (opens : Option OwnDesc) (own : KnowsOwn v opens) (word : ℕ) where
  -- what is so at the next one
  leads_kept : (w : Work) → IsKept w → Stands z v w → Leads z (noted z v (requested v w) word) opens (On (kept w word))
  leads_kept (work.Length d k) is h =
      let g = grows_read v (record { desc = ref_of d; word = length_word word } ∷ v.raw_rows) v.raw in
      (own_grows _ _ g _ own, (nothing_grows _ _ g h.0, met_grows _ _ g (ref_of d) k 0 h.1, foreign_grows _ _ g (ref_of d) h.2, inl refl))
  leads_kept (work.EntryCell t) is h =
      let g = grows_read v (record { desc = ref_of t.desc; word = cell_word t.entry word } ∷ v.raw_rows) v.raw in
      (own_grows _ _ g _ own, (at_grows _ _ g _ h.0, foreign_grows _ _ g (ref_of t.desc) h.1, inl refl))
  leads_kept (work.EntryOld t c) is h =
      let g = grows_read v (record { desc = ref_of t.desc; word = old_word t.entry word } ∷ v.raw_rows) v.raw in
      (own_grows _ _ g _ own, (at_grows _ _ g _ h.0, foreign_grows _ _ g (ref_of t.desc) h.1, inr h.2, inl refl))
  leads_kept (work.EntryNew t c o) is h =
      let g = grows_read v (record { desc = ref_of t.desc; word = new_word t.entry word } ∷ v.raw_rows) v.raw in
      (own_grows _ _ g _ own, (at_grows _ _ g _ h.0, foreign_grows _ _ g (ref_of t.desc) h.1, inr h.2, inr h.3, inl refl))
  leads_kept (work.MarkSerial g) is h =
      let w = wrote z v opens g 0 _ own h in
      (w.0, (w.1, newest_word v.written (mark_row z 0) (mark_row z 0) v.marks_used refl))
  leads_kept (work.MarkDesc g) is h =
      let w = wrote z v opens g 1 _ own h.0 in (
        w.0,
        (
          w.1,
          record {
            serial = older_word v.written (mark_row z 1) (mark_row z 0) _ (other_word z 0 1 (λ e. cc)) ∙ h.1;
            desc = newest_word v.written (mark_row z 1) (mark_row z 1) _ refl;
          },
        ),
      )
  leads_kept (work.MarkEntry g) is h =
      let w = wrote z v opens g 2 _ own h.0 in (
        w.0,
        (
          w.1,
          record {
            named = record {
              serial = older_word v.written (mark_row z 2) (mark_row z 0) _ (other_word z 0 2 (λ e. cc)) ∙ h.1.serial;
              desc = older_word v.written (mark_row z 2) (mark_row z 1) _ (other_word z 1 2 (λ e. cc)) ∙ h.1.desc;
            };
            entry = newest_word v.written (mark_row z 2) (mark_row z 2) _ refl;
          },
        ),
      )
  leads_kept (work.WriteReason t) is h =
      let row = reason_row z t.desc.worker in
      (wrote_own v opens row t.entry (omega arith) own, (noted_mismatch v row t h, newest_word v.written row row t.entry refl))
  leads_kept other is h = absurd is

  pub kept_leads : (w : Work) → IsKept w → Stands z v w → (next : View) → next ≡ noted z v (requested v w) word → Leads z next opens (On (kept w word))
  kept_leads w is h next view_is = lead z next _ opens (On (kept w word)) view_is (leads_kept w is h)
