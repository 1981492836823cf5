-- Reading the rows of a descriptor: what they said is noted once the row is seen to be of it still.
use Rattle.std.proofs.Common.{◌≡◌, ◌≢◌, ℕ, Bool, false, List, [], ◌∷◌, cond, refl, sym, ap, subst, inl, inr, ⊎_elim, eqb, eq-eqb, ne_eqb}
use Rattle.rh_world.specs.World.{In, Ref, is_ref}
use Rattle.rh_world.specs.World.Cell.{desc}
use Rattle.rh_world.specs.World.Control.{failed}
use Rattle.rh_world.specs.Facts.{Fact}
use Rattle.rh_world.specs.Facts.Fact.{new_is, old_is, over, stale, target_is}
use Rattle.rh_world.specs.Sides.{Side, note_side}
use Rattle.rh_world.specs.Moves.{note_all}
use Rattle.rh_world.proofs.Tests.{by_cond, is_desc_not}
use Rattle.rh_words.specs.declared.shape.Shape.{Shape}
use Rattle.rh_words.specs.declared.reference.Reading.TheVariants as reading
use Rattle.rh_words.specs.View.{Raw, RawRow, RowWord, View}
use Rattle.rh_words.specs.Words.{ref_of}
use Rattle.rh_words.specs.Steps.{Allowed, Step, desc_row_said, stale_noted, rows_said, serial_read, with_side}
use Rattle.rh_helping.specs.Next.{Goal}
use Rattle.rh_helping.specs.declared.goal.Task.{Task}
use Rattle.rh_helping.specs.Goal.{HasReadRow, KnowsGoal}
use Rattle.rh_carrier.specs.Relies.{Knows}
use Rattle.rh_helping.specs.Settling.{Grows}
use Rattle.rh_helping.specs.Work.{IsAt}
use Rattle.rh_helping.proofs.Growing.{Sub, task_grows}
use Rattle.rh_helping.proofs.Knowing.{allowed, entry_here, task_desc, task_known, task_work}
use Rattle.rh_helping.proofs.Sides.{DecidesNone, more_all, none_all, none_note, none_same, none_then, rows_tell, tells_decided}

-- a Side that notes more, and what was read
pub grows_by : (v : View) (s : Side) (c : ℕ) (rows : List RawRow) (raw : List Raw) → s.current ≡ v.side.current → s.released ≡ v.side.released
    → s.unsettled ≡ v.side.unsettled → s.debts ≡ v.side.debts → Sub v.side.facts s.facts → DecidesNone (failed 0 v.worker) v.side.facts s.facts
    → Grows v (record v { side = s; control = c; raw_rows = rows; raw = raw })
grows_by v s c rows raw current released unsettled debts facts none = record {
  keeps = record { worker = refl; next_number = refl; facts = facts };
  failures = none;
  marks_used = refl;
  opened = refl;
  written = refl;
  current = current;
  released = released;
  unsettled = unsettled;
  debts = debts;
}

-- nothing is noted
pub grows_read : (v : View) (rows : List RawRow) (raw : List Raw) → Grows v (record v { raw_rows = rows; raw = raw })
grows_read v rows raw = grows_by v v.side v.control rows raw refl refl refl refl (λ n i. i) (none_same (failed 0 v.worker) v.side.facts)

-- one thing more is noted
pub grows_note : (v : View) (n : Fact) → tells_decided n ≡ false → Grows v (with_side v (note_side v.side n))
grows_note v n other = grows_by v (note_side v.side n) v.control v.raw_rows v.raw refl refl refl refl (λ m i. inr i) (none_note (failed 0 v.worker) n v.side.facts other)

-- several things more
record Same (s t : Side) : Type 0 where
  pub unsettled : t.unsettled ≡ s.unsettled
  pub debts : t.debts ≡ s.debts

same_all : (s : Side) (ns : List Fact) → Same s (note_all s ns)
same_all s [] = record { unsettled = refl; debts = refl }
same_all s (n ∷ ns) = let h = same_all s ns in record { unsettled = h.unsettled; debts = h.debts }

pub grows_all : (v : View) (ns : List Fact) → ((n : Fact) → In n ns → tells_decided n ≡ false) → Grows v (with_side v (note_all v.side ns))
grows_all v ns other =
    let m = more_all v.side ns in
    let h = same_all v.side ns in
    grows_by v (note_all v.side ns) v.control v.raw_rows v.raw m.current m.released h.unsettled h.debts m.facts (none_all (failed 0 v.worker) v.side ns other)

pub in_all : (s : Side) (ns : List Fact) (n : Fact) → In n ns → In n (note_all s ns).facts
in_all s [] n i = absurd i
in_all s (m ∷ ns) n i = ⊎_elim inl (λ j. inr (in_all s ns n j)) i

-- ---- which words may be read

module _ (z : Shape) (v : View) (trusts : Knows z v) (t : Task) (h : IsAt v t) where
  pub may_read_cell : Allowed z v (Step.reads (reading.EntryCell t.desc t.entry))
  may_read_cell = allowed z v trusts _ ((task_desc z v trusts t h.task, entry_here z v trusts t h.task h.left), task_work z v trusts t h.task t.entry h.left)

  pub may_read_old : Allowed z v (Step.reads (reading.EntryOld t.desc t.entry))
  may_read_old = allowed z v trusts _ ((task_desc z v trusts t h.task, entry_here z v trusts t h.task h.left), inl (task_work z v trusts t h.task t.entry h.left))

  pub may_read_new : Allowed z v (Step.reads (reading.EntryNew t.desc t.entry))
  may_read_new = allowed z v trusts _ ((task_desc z v trusts t h.task, entry_here z v trusts t h.task h.left), task_work z v trusts t h.task t.entry h.left)

  pub may_read_serial : Allowed z v (Step.reads (reading.Serial t.desc))
  may_read_serial = allowed z v trusts _ (task_desc z v trusts t h.task, inl (task_known z v trusts t h.task))

-- ---- the serial number in the row of d

in_rows : (rs : List RawRow) (d : Ref) (u : RowWord) → In (record { desc = d; word = u }) rs → In (desc_row_said d u) (rows_said rs d)
in_rows [] d u i = absurd i
in_rows (r ∷ rs) d u i = by_cond (λ (l : List Fact). In (desc_row_said d u) l) (is_ref r.desc d) (desc_row_said d r.word ∷ rows_said rs d) (rows_said rs d)
    (λ yes. ⊎_elim
    (λ (e : record { desc = d; word = u } ≡ r). inl (ap (λ (q : RawRow). desc_row_said d q.word) e))
    (λ j. inr (in_rows rs d u j)) i)
    (λ no. ⊎_elim
    (λ (e : record { desc = d; word = u } ≡ r). absurd (is_desc_not (desc r.desc) d no (ap (λ (q : RawRow). desc q.desc) (sym e))))
    (λ j. in_rows rs d u j) i)

module _ (v : View) (d : Ref) (word : ℕ) where
  abbrev pub serial_view : View
  serial_view = with_side v (serial_read v d word)

  pub serial_grows : Grows v serial_view
  serial_grows = by_cond (λ (s : Side). Grows v (with_side v s)) (eqb word d.number) (note_all v.side (rows_said v.raw_rows d)) (stale_noted v.side d)
      (λ yes. grows_all v (rows_said v.raw_rows d) (rows_tell v.raw_rows d))
      (λ no. grows_by v (stale_noted v.side d) v.control v.raw_rows v.raw refl refl refl refl (λ n i. inr (inr i))
      (none_then (failed 0 v.worker) v.side.facts (over d ∷ v.side.facts) (stale d ∷ over d ∷ v.side.facts)
      (none_note (failed 0 v.worker) (over d) v.side.facts refl) (none_note (failed 0 v.worker) (stale d) (over d ∷ v.side.facts) refl)))

  -- the row is of d still: so it says what was read there
  pub serial_tells : word ≡ d.number → (u : RowWord) → HasReadRow v d u → In (desc_row_said d u) serial_view.side.facts
  serial_tells is u had = subst (λ (s : Side). In (desc_row_said d u) s.facts) (sym (ap (λ (b : Bool). cond b (note_all v.side (rows_said v.raw_rows d)) (stale_noted v.side d)) (eq-eqb word d.number is)))
      (in_all v.side (rows_said v.raw_rows d) (desc_row_said d u) (in_rows v.raw_rows d u had))

  -- it is stale
  pub serial_stale : word ≢ d.number → In (over d) serial_view.side.facts × In (stale d) serial_view.side.facts
  serial_stale ne = subst (λ (s : Side). In (over d) s.facts × In (stale d) s.facts) (sym (ap (λ (b : Bool). cond b (note_all v.side (rows_said v.raw_rows d)) (stale_noted v.side d)) (ne_eqb word d.number ne)))
      (inr (inl refl), inl refl)

-- the goal that was read
pub read_goal : (v next : View) (g : Goal) → Grows v next → IsAt v g.task → In (target_is (ref_of g.task.desc) g.task.entry g.cell) next.side.facts
    → In (old_is (ref_of g.task.desc) g.task.entry g.old) next.side.facts → In (new_is (ref_of g.task.desc) g.task.entry g.new) next.side.facts
    → KnowsGoal next g
read_goal v next g grows h cell old new = record { task = task_grows v next grows g.task h.task; entry = h.left; cell = cell; old = old; new = new }
