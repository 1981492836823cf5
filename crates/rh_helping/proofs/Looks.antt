-- The Read of a cell: a plain word is kept as read, and of a mark or a descriptor it is noted that it stands there.
use Rattle.std.proofs.Common.{◌≡◌, ℕ, ◌<◌, Option, Some, None, false, true≢false, inl, inr, refl, sym, subst, ◌∙◌, arith, eq-eqb}
use Rattle.rh_tagword.specs.Word.{is_plain, plain_number, tag_of}
use Rattle.rh_tagword.specs.declared.word.Word.{Word}
use Rattle.rh_tagword.specs.declared.word.Word.TheVariants.{Empty, Key, Mark, Desc}
use Rattle.rh_world.specs.World.{Cell}
use Rattle.rh_world.specs.World.Cell.{desc, mark, plain}
use Rattle.rh_world.specs.World.Control.{failed}
use Rattle.rh_world.specs.Facts.Fact.{found, met}
use Rattle.rh_world.specs.Moves.{cell_noted}
use Rattle.rh_words.specs.declared.shape.Shape.{Shape}
use Rattle.rh_words.specs.declared.reference.Reading.TheVariants as reading
use Rattle.rh_words.specs.declared.reference.Ref.{Ref as Reference}
use Rattle.rh_words.specs.View.{View}
use Rattle.rh_words.specs.Words.{IsPlain, cell_in, cell_said, ref_of}
use Rattle.rh_words.specs.Parts.{cell_count}
use Rattle.rh_words.specs.Steps.{Allowed, Step, noted, with_side}
use Rattle.rh_rule.specs.Represents.{IsCell}
use Rattle.rh_rule.proofs.Said.{plain_said}
use Rattle.rh_carrier.specs.Relies.{Knows}
use Rattle.rh_helping.specs.Next.{Looked}
use Rattle.rh_helping.specs.Next.Looked.{On, Sees}
use Rattle.rh_helping.specs.Next.{Looking as looking}
use Rattle.rh_helping.specs.Next.{Settles as settling}
use Rattle.rh_helping.specs.Next.{Work as work}
use Rattle.rh_carrier.specs.Own.{IsClear}
use Rattle.rh_helping.specs.Looking.{LooksOn, reads_after}
use Rattle.rh_helping.specs.Seen.{looking_at, reference}
use Rattle.rh_helping.specs.Settling.{Grows}
use Rattle.rh_helping.proofs.Growing.{clear_grows}
use Rattle.rh_helping.proofs.Knowing.{allowed}
use Rattle.rh_helping.proofs.Made.{Leaves}
use Rattle.rh_helping.proofs.Rows.{grows_by, grows_note, grows_read}
use Rattle.rh_helping.proofs.Sides.{none_same}

-- a value is the word itself
itself : (o : Option Word) (n u : ℕ) → plain u ≡ cell_said o n → u ≡ n
itself None n u is = cc
itself (Some Empty) n u is = cc
itself (Some (Key k)) n u is = cc
itself (Some (Mark worker number)) n u is = cc
itself (Some (Desc worker number)) n u is = cc

abbrev pub noted_cell : View → (c : ℕ) → Cell → Option ℕ → View
noted_cell v c k current = with_side v (cell_noted v.side c k current 0 v.next_number)

pub cell_grows : (v : View) (c : ℕ) (k : Cell) (current : Option ℕ) → Grows v (noted_cell v c k current)
cell_grows v c (plain u) None = grows_by v (cell_noted v.side c (plain u) None 0 v.next_number) v.control v.raw_rows v.raw refl refl refl refl (λ n i. i) (none_same (failed 0 v.worker) v.side.facts)
cell_grows v c (plain u) (Some p) = grows_read v v.raw_rows v.raw
cell_grows v c (mark x) current = grows_note v (found x c) refl
cell_grows v c (desc d) current = grows_note v (met d) refl

module _ (z : Shape) (v : View) (c word : ℕ) where
  abbrev then : View
  then = noted z v (Step.reads (reading.Cell c)) word

  abbrev Reads : Looked → View → Type 0
  Reads r next = Leaves v.opened (reads_after v c r) v next × LooksOn z next r

  pub may_look : Knows z v → c < cell_count z → Allowed z v (Step.reads (reading.Cell c))
  may_look knows inside = allowed z v knows (Step.reads (reading.Cell c)) (inside, tt)

  module _ (clear : IsClear v) where
    stays_clear : (k : Cell) (current : Option ℕ) → IsClear (noted_cell v c k current)
    stays_clear k current = clear_grows v (noted_cell v c k current) (cell_grows v c k current) clear

    -- of the cell that the word says
    of_cell : (k : Cell) (r : Looked) → k ≡ cell_in word → Reads r (noted_cell v c k v.side.current) → Reads r then
    of_cell k r is h = subst (λ (x : Cell). Reads r (noted_cell v c x v.side.current)) is h

    reads_value : plain word ≡ cell_in word → IsCell z (cell_in word) → Reads (Sees word) then
    reads_value is found_is = of_cell (plain word) (Sees word) is (
      subst (λ (q : Option ℕ). Leaves v.opened (reads_after v c (Sees word)) v (noted_cell v c (plain word) q)) (sym clear.own.current)
          record { opened = refl; reads = refl; claims = refl; facts = λ n i. i },
      (stays_clear (plain word) v.side.current, subst (IsCell z) (sym is) found_is),
    )

    reads_mark : (x : Reference) → mark (ref_of x) ≡ cell_in word → Reads (On (looking.Settle (settling.Desc x c))) then
    reads_mark x is = of_cell (mark (ref_of x)) (On (looking.Settle (settling.Desc x c))) is (
      record { opened = refl; reads = refl; claims = refl; facts = λ n i. inr i },
      (stays_clear (mark (ref_of x)) v.side.current, inl refl),
    )

    reads_desc : (d : Reference) → desc (ref_of d) ≡ cell_in word → Reads (On (looking.Help (work.Control d))) then
    reads_desc d is = of_cell (desc (ref_of d)) (On (looking.Help (work.Control d))) is (
      record { opened = refl; reads = refl; claims = refl; facts = λ n i. inr i },
      let h = stays_clear (desc (ref_of d)) v.side.current in (h.own, (h.owes, inr (inl refl))),
    )

    -- of a plain word, and of another: that one is not read again at once
    pub reads_plain : (value : ℕ) → word ≡ plain_number value → IsCell z (cell_in word) → Reads (Sees word) then
    reads_plain value is = reads_value (sym (plain_said word (omega (arith, is))))

    other_read : (k : Cell) → k ≡ cell_in word → IsCell z (cell_in word) → is_plain word ≡ false → Reads (On (looking_at k c)) then × (On (looking_at k c) ≡ On looking.Read → ⊥)
    other_read (plain u) is found_is other =
        let said : IsPlain u = subst (IsCell z) (sym is) found_is in
        absurd (true≢false (sym (eq-eqb (tag_of word) 0 (subst IsPlain (itself _ word u is) said)) ∙ other))
    other_read (mark x) is found_is other = (reads_mark (reference x) is, λ e. cc)
    other_read (desc d) is found_is other = (reads_desc (reference d) is, λ e. cc)

    pub reads_other : IsCell z (cell_in word) → is_plain word ≡ false → Reads (On (looking_at (cell_in word) c)) then × (On (looking_at (cell_in word) c) ≡ On looking.Read → ⊥)
    reads_other = other_read (cell_in word) refl

pub looks : (z : Shape) (next said : View) (r : Looked) → next ≡ said → LooksOn z said r → LooksOn z next r
looks z next said r e h = subst (λ (v : View). LooksOn z v r) (sym e) h
