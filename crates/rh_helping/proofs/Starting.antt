-- A descriptor that a worker comes to.
use Rattle.std.proofs.Common.{◌≡◌, ◌≢◌, ℕ, ◌<◌, ◌≤◌, Option, None, List, refl, sym, ap, ◌∙◌, inl, ⊎_elim, arith}
use Rattle.rh_tagword.specs.declared.control.State.{State}
use Rattle.rh_world.specs.World.{In, Ref}
use Rattle.rh_world.specs.Facts.Fact.{size_is}
use Rattle.rh_world.proofs.Updated.{some_not_none}
use Rattle.rh_words.specs.declared.shape.Shape.{Shape}
use Rattle.rh_words.specs.declared.reference.Ref.{Ref as Reference}
use Rattle.rh_words.specs.declared.reference.Reading.TheVariants as reading
use Rattle.rh_words.specs.View.{OwnDesc, View, Written}
use Rattle.rh_words.specs.Steps.{Allowed, IsKnown, Step, row_word}
use Rattle.rh_words.specs.Words.{ref_of}
use Rattle.rh_helping.specs.declared.goal.Task.{Task}
use Rattle.rh_carrier.specs.Own.{KnowsOwn, OwesNothing}
use Rattle.rh_helping.specs.Goal.{HasReason, IsMet, IsOther}
use Rattle.rh_carrier.specs.Relies.{Knows}
use Rattle.rh_helping.specs.Work.{Begins, IsNextTask, failed_by}
use Rattle.rh_helping.proofs.Controls.{Saw}
use Rattle.rh_helping.proofs.Growing.{own_sub, stands_known}
use Rattle.rh_helping.proofs.Knowing.{allowed}
use Rattle.rh_helping.proofs.Owing.{owes_as_from, releases_from}

-- a descriptor that stands so is begun
pub begins_first : (v : View) (d : Reference) (k : State) (n : ℕ) → In (size_is (ref_of d) n) v.side.facts → IsMet v (ref_of d) k 0 → OwesNothing v
    → Begins v (record { desc = d; size = n; state = k; entry = 0; owed = None; reason = None })
begins_first v d k n sized met owes = record {
  task = record { size = sized; met = met; within = omega arith; unowed = λ u. refl };
  first = refl;
  owes = owes_as_from v _ k (λ over. releases_from v _ refl refl owes) owes;
}

-- ---- and its first entry is next

-- of one that did not fail there is nothing to know; of another worker's neither
pub reason_none : (v : View) (t : Task) → failed_by t.state ≡ None → HasReason v t
reason_none v t none own now by is = absurd (some_not_none by (sym (ap failed_by is) ∙ none))

pub reason_other : (v : View) (t : Task) → IsOther v (ref_of t.desc) → HasReason v t
reason_other v t other own now by is = absurd (other own now)

pub begins_next : (z : Shape) (v : View) → Knows z v → (t : Task) → Begins v t → HasReason v t → IsNextTask v t
begins_next z v trusts t h reason = record {
  task = h.task;
  left = inl (let some = (trusts.sound.sizes (ref_of t.desc) t.size h.task.size).0 in let first = h.first in omega (arith, some, first));
  owes = h.owes;
  reason = reason;
}

-- where an entry is left it has a number below the size
pub left_below : (v : View) (t : Task) → IsNextTask v t → t.entry ≢ t.size → t.entry < t.size
left_below v t h ne = ⊎_elim (λ lt. lt) (λ u. below t.entry t.size h.task.within ne) h.left
  where
    below : (e n : ℕ) → e ≤ n → e ≢ n → e < n
    below e n le ne = omega (arith, le, ne)

-- ---- reading its control and its length

module _ (z : Shape) (v : View) (trusts : Knows z v) (d : Reference) where
  pub may_read_control : IsKnown v.side.facts (ref_of d) → Allowed z v (Step.reads (reading.Control d))
  may_read_control known = allowed z v trusts _ (trusts.sound.descs (ref_of d) known, tt)

  module _ (k : State) (met : IsMet v (ref_of d) k 0) where
    met_known : IsKnown v.side.facts (ref_of d)
    met_known = stands_known v.side.facts (ref_of d) k 0 met.stands

    pub may_read_length : Allowed z v (Step.reads (reading.Length d))
    may_read_length = allowed z v trusts _ (trusts.sound.descs (ref_of d) met_known, met_known)

    pub may_read_serial : Allowed z v (Step.reads (reading.Serial d))
    may_read_serial = allowed z v trusts _ (trusts.sound.descs (ref_of d) met_known, inl met_known)

-- after the Read of a control, or a swap of it
pub own_saw : (v next : View) (d : Ref) (r : Option State) (opens : Option OwnDesc) → Saw v d r next → KnowsOwn v opens → KnowsOwn next opens
own_saw v next d r opens saw own = own_sub v next saw.keeps opens opens saw.opened (saw.current ∙ own.current) own.newest (λ n e. e) (ap (λ (ws : List Written). row_word ws 1) saw.written) own
