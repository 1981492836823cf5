-- The length of a descriptor and the words of an entry are read in its row, and then the entry is known.
use Rattle.std.proofs.Common.{◌≡◌, ℕ, ◌<◌, Some, refl, sym, subst, inl, inr, ap, ◌∙◌, arith}
use Rattle.rh_world.specs.Facts.Fact.{size_is}
use Rattle.rh_words.specs.declared.shape.Shape.{Shape}
use Rattle.rh_words.specs.declared.reference.Piece.{Piece}
use Rattle.rh_words.specs.declared.reference.Ref.{Ref as Reference}
use Rattle.rh_words.specs.declared.reference.Reading.TheVariants as reading
use Rattle.rh_words.specs.Parts.{cell_count}
use Rattle.rh_words.specs.View.{View}
use Rattle.rh_words.specs.View.RowWord.{cell_word, length_word, old_word}
use Rattle.rh_words.specs.Words.{ref_of}
use Rattle.rh_words.specs.Steps.{Allowed, noted}
use Rattle.rh_words.specs.Steps.Step.{reads}
use Rattle.rh_helping.specs.Goal.{HasReadRow}
use Rattle.rh_helping.specs.Settling.{Grows}
use Rattle.rh_helping.proofs.Growing.{seen_sub}
use Rattle.rh_helping.proofs.Knowing.{allowed}
use Rattle.rh_helping.proofs.Rows.{grows_read, serial_grows, serial_tells}
use Rattle.rh_carrier.specs.Relies.{Knows}
use Rattle.rh_rule.specs.declared.rule.Sitter.{Sitter}
use Rattle.rh_rdcss.specs.Calls.{Learned}
use Rattle.rh_rdcss.specs.Placing.{EntrySays, HasEntry, KnowsPiece, LengthSays, MayPlace, Places, TriedSo}
use Rattle.rh_rdcss.specs.declared.calls.Placed.{Placed}
use Rattle.rh_rdcss.specs.declared.calls.Placed.TheVariants as placed

-- what may be placed may be so when more is known
may_grows : (z : Shape) (v next : View) (d : Reference) → Grows v next → MayPlace z v d → MayPlace z next d
may_grows z v next d g h = record {
  desc = h.desc;
  seen = seen_sub v.side.facts next.side.facts g.facts (ref_of d) h.seen;
  settled = g.unsettled ∙ h.settled;
}

has_grows : (z : Shape) (v next : View) (d : Reference) (e : ℕ) → Grows v next → HasEntry z v d e → HasEntry z next d e
has_grows z v next d e g h = record {
  may = may_grows z v next d g h.may;
  work = record { size = h.work.size; known = g.facts (size_is (ref_of d) h.work.size) h.work.known; within = h.work.within };
}

-- ---- its length

module _ (z : Shape) (d : Reference) where
  module _ (v : View) (knows : Knows z v) (may : MayPlace z v d) where
    pub may_read_length : Allowed z v (reads (reading.Length d))
    may_read_length = allowed z v knows _ (may.desc, inl may.seen)

    pub may_read_serial : Allowed z v (reads (reading.Serial d))
    may_read_serial = allowed z v knows _ (may.desc, inl (inl may.seen))

  module _ (k : Sitter) (may : MayPlace z k.view d) (size : ℕ) (middle : Sitter) (l : Learned z (reads (reading.Length d)) k size middle) where
    pub then_length : MayPlace z middle.view d
    then_length = subst (λ (u : View). MayPlace z u d) (sym l.view_is) (may_grows z k.view _ d (grows_read k.view _ _) may)

    has_length : HasReadRow middle.view (ref_of d) (length_word size)
    has_length = subst (λ (u : View). HasReadRow u (ref_of d) (length_word size)) (sym l.view_is) (inl refl)

    -- the row is of the descriptor still
    entry_known : (next : Sitter) → Learned z (reads (reading.Serial d)) middle d.number next → (e : ℕ) → e < size → HasEntry z next.view d e
    entry_known next r e less = subst (λ (u : View). HasEntry z u d e) (sym r.view_is) (record {
      may = may_grows z middle.view _ d (serial_grows middle.view (ref_of d) d.number) then_length;
      work = record { size = size; known = serial_tells middle.view (ref_of d) d.number refl (length_word size) has_length; within = less };
    })

  -- the entries that its row says
  pub says_entry : (k next : Sitter) → MayPlace z k.view d → (size : ℕ) → LengthSays z d (Some size) k next → (e : ℕ) → e < size → HasEntry z next.view d e
  says_entry k next may size says e less = entry_known k may size says.middle says.of_length next says.of_serial e less

  -- the number of the descriptor was found after it
  pub counted : (k middle next : Sitter) (size serial : ℕ) → MayPlace z k.view d → Learned z (reads (reading.Length d)) k size middle
      → Learned z (reads (reading.Serial d)) middle serial next → serial ≡ d.number → (e : ℕ) → e < size → HasEntry z next.view d e
  counted k middle next size serial may l r is e less =
      says_entry k next may size (record { middle = middle; of_length = l; of_serial = subst (λ (n : ℕ). Learned z (reads (reading.Serial d)) middle n next) is r }) e less

-- ---- its cell and its old value

module _ (z : Shape) (d : Reference) (e : ℕ) where
  module _ (v : View) (knows : Knows z v) (has : HasEntry z v d e) where
    inside : e < cell_count z
    inside = let fits = (knows.sound.sizes (ref_of d) has.work.size has.work.known).1 in let less = has.work.within in omega (arith, less, fits)

    pub may_read_cell : Allowed z v (reads (reading.EntryCell d e))
    may_read_cell = allowed z v knows _ ((has.desc, inside), has.work)

    pub may_read_old : Allowed z v (reads (reading.EntryOld d e))
    may_read_old = allowed z v knows _ ((has.desc, inside), inl has.work)

  module _ (k : Sitter) (has : HasEntry z k.view d e) (cell : ℕ) (first : Sitter) (l : Learned z (reads (reading.EntryCell d e)) k cell first) where
    pub then_cell : HasEntry z first.view d e
    then_cell = subst (λ (u : View). HasEntry z u d e) (sym l.view_is) (has_grows z k.view _ d e (grows_read k.view _ _) has)

    module _ (old : ℕ) (second : Sitter) (m : Learned z (reads (reading.EntryOld d e)) first old second) where
      pub then_old : HasEntry z second.view d e
      then_old = subst (λ (u : View). HasEntry z u d e) (sym m.view_is) (has_grows z first.view _ d e (grows_read first.view _ _) then_cell)

      has_cell : HasReadRow second.view (ref_of d) (cell_word e cell)
      has_cell = subst (λ (u : View). HasReadRow u (ref_of d) (cell_word e cell)) (sym (m.view_is ∙ ap (λ (u : View). noted z u (reads (reading.EntryOld d e)) old) l.view_is)) (inr (inl refl))

      has_old : HasReadRow second.view (ref_of d) (old_word e old)
      has_old = subst (λ (u : View). HasReadRow u (ref_of d) (old_word e old)) (sym m.view_is) (inl refl)

      -- the row is of the descriptor still
      pub piece_known : (next : Sitter) → Learned z (reads (reading.Serial d)) second d.number next
          → KnowsPiece z next.view (record { desc = d; entry = e; cell = cell }) old
      piece_known next r = subst (λ (u : View). KnowsPiece z u (record { desc = d; entry = e; cell = cell }) old) (sym r.view_is) (record {
        entry = has_grows z second.view _ d e (serial_grows second.view (ref_of d) d.number) then_old;
        knows_cell = serial_tells second.view (ref_of d) d.number refl (cell_word e cell) has_cell;
        knows_old = serial_tells second.view (ref_of d) d.number refl (old_word e old) has_old;
      })

-- the entry that its row says
pub says_known : (z : Shape) (d : Reference) (e : ℕ) (p : Piece) (old : ℕ) (k next : Sitter) → HasEntry z k.view d e → EntrySays z d e (Some (p, old)) k next → KnowsPiece z next.view p old
says_known z d e p old k next has says =
    let r = says.1 in
    subst (λ (q : Piece). KnowsPiece z next.view q old) (sym says.0) (piece_known z d e k has p.cell r.first r.of_cell old r.second r.of_old next r.of_serial)

-- what a mark came to that was tried for it
pub tried_places : (z : Shape) (d : Reference) (e : ℕ) (k : Sitter) (p : Piece) (old : ℕ) (between : Sitter) → EntrySays z d e (Some (p, old)) k between
    → (r : Placed) (next : Sitter) → TriedSo z p old between r next → Places z d e k r next
tried_places z d e k p old between says placed.Mine next t = (old, record { piece = p; between = between; says = says; tried = t })
tried_places z d e k p old between says (placed.Found word) next t = (old, t.0, record { piece = p; between = between; says = says; tried = t.1 })
tried_places z d e k p old between says placed.Passed next t = absurd t
tried_places z d e k p old between says placed.Spent next t = absurd t
