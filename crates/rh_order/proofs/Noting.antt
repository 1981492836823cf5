-- What a worker notes of the words that it reads: step by step a fact, a read that is kept, or debts that are forgotten.
use Rattle.std.proofs.Common.{ℕ, eqb, Bool, true, false, cond, List, [], ◌∷◌, Option, Some, None}
use Rattle.rh_world.specs.World.{Cell, Control, Ref}
use Rattle.rh_world.specs.World.Cell.{desc, mark, plain}
use Rattle.rh_world.specs.World.Control.{failed, succeeded, undecided, unused, withdrawn}
use Rattle.rh_world.specs.Facts.{Fact}
use Rattle.rh_world.specs.Facts.Fact.{decided, failed_at, found, known, may_demote, may_promote, met, over, stale}
use Rattle.rh_world.specs.Sides.{Side, forget_side, note_side, read_side}
use Rattle.rh_world.specs.Moves.{cell_noted, control_noted, mark_noted, note_all}
use Rattle.rh_words.specs.declared.reference.Reading.{Reading}
use Rattle.rh_words.specs.declared.reference.Reading.TheVariants as reading
use Rattle.rh_words.specs.View.{View}
use Rattle.rh_words.specs.Words.{cell_in, read_control, ref_of, serial_in}
use Rattle.rh_words.specs.Steps.{control_read, stale_noted, is_known, mark_control_read, read_noted, row_said, rows_said, serial_read}

-- a relation of a Side to a later one that each of these keeps
pub record Follows (R : Side → Side → Type 0) : Type 0 where
  pub same : (s : Side) → R s s
  pub further : (s t r : Side) → R s t → R t r → R s r
  pub note : (s : Side) (n : Fact) → R s (note_side s n)
  pub read : (s : Side) (c u acts next : ℕ) → R s (read_side s c u acts next)
  pub forget : (s : Side) (d : Ref) → R s (forget_side s d)

-- one of two Sides
pub either : (P : Side → Type 0) (b : Bool) (t r : Side) → P t → P r → P (cond b t r)
either P true t r g h = g
either P false t r g h = h

module _ (R : Side → Side → Type 0) (is : Follows R) where
  two_notes : (s : Side) (n m : Fact) → R s (note_side (note_side s n) m)
  two_notes s n m = is.further s (note_side s n) (note_side (note_side s n) m) (is.note s n) (is.note (note_side s n) m)

  all_notes : (s : Side) (ns : List Fact) → R s (note_all s ns)
  all_notes s [] = is.same s
  all_notes s (n ∷ ns) = is.further s (note_all s ns) (note_side (note_all s ns) n) (all_notes s ns) (is.note (note_all s ns) n)

  a_cell : (s : Side) (c : ℕ) (k : Cell) (q : Option ℕ) (acts next : ℕ) → R s (cell_noted s c k q acts next)
  a_cell s c (plain u) None acts next = is.read s c u acts next
  a_cell s c (plain u) (Some p) acts next = is.same s
  a_cell s c (mark x) q acts next = is.note s (found x c)
  a_cell s c (desc d) q acts next = is.note s (met d)

  a_control : (s : Side) (d : Ref) (k : Control) → R s (control_noted s d k)
  a_control s d unused = is.same s
  a_control s d undecided = is.further s (forget_side s d) (note_side (forget_side s d) (known d)) (is.forget s d) (is.note (forget_side s d) (known d))
  a_control s d succeeded = is.note s (decided d succeeded)
  a_control s d withdrawn = is.note s (decided d withdrawn)
  a_control s d (failed e by) = is.note s (decided d (failed e by))

  a_mark : (s : Side) (x : Ref) (c : ℕ) (k : Control) → R s (mark_noted s x c k)
  a_mark s x c unused = is.same s
  a_mark s x c undecided = is.note s (may_promote x c)
  a_mark s x c _ = is.note s (may_demote x)

  gone : (s : Side) (d : Ref) → R s (stale_noted s d)
  gone s d = two_notes s (over d) (stale d)

  pub a_control_word : (s : Side) (d : Ref) (word : ℕ) → R s (control_read s d word)
  a_control_word s d word = either (R s) (eqb (serial_in word) d.number) (control_noted s d (read_control word)) (cond (is_known s.facts d) (stale_noted s d) s)
      (a_control s d (read_control word)) (either (R s) (is_known s.facts d) (stale_noted s d) s (gone s d) (is.same s))

  a_mark_word : (s : Side) (x : Ref) (c : ℕ) (d : Ref) (word : ℕ) → R s (mark_control_read s x c d word)
  a_mark_word s x c d word =
      let k = read_control word in
      either (R s) (eqb (serial_in word) d.number) (mark_noted (control_noted s d k) x c k) (note_side (stale_noted s d) (may_demote x))
      (is.further s (control_noted s d k) (mark_noted (control_noted s d k) x c k) (a_control s d k) (a_mark (control_noted s d k) x c k))
      (is.further s (stale_noted s d) (note_side (stale_noted s d) (may_demote x)) (gone s d) (is.note (stale_noted s d) (may_demote x)))

  a_serial : (v : View) (d : Ref) (word : ℕ) → R v.side (serial_read v d word)
  a_serial v d word = either (R v.side) (eqb word d.number) (note_all v.side (rows_said v.raw_rows d)) (stale_noted v.side d)
      (all_notes v.side (rows_said v.raw_rows d)) (gone v.side d)

  pub a_reading : (v : View) (r : Reading) (word : ℕ) → R v.side (read_noted v r word)
  a_reading v (reading.Cell c) word = a_cell v.side c (cell_in word) v.side.current 0 v.next_number
  a_reading v (reading.Control d) word = a_control_word v.side (ref_of d) word
  a_reading v (reading.MarkControl x c d) word = a_mark_word v.side (ref_of x) c (ref_of d) word
  a_reading v (reading.Serial d) word = a_serial v (ref_of d) word
  a_reading v (reading.MarkSerial x) word = either (R v.side) (eqb word x.number) (note_all v.side (row_said v.raw (ref_of x))) v.side
      (all_notes v.side (row_said v.raw (ref_of x))) (is.same v.side)
  a_reading v (reading.Reason d by) word = is.note v.side (failed_at (ref_of d) word)
  a_reading v _ word = is.same v.side
