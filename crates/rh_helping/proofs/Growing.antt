-- What a worker knows it still knows when it has noted more.
use Rattle.std.proofs.Common.{◌≡◌, ℕ, Option, Some, None, List, length, sym, ap, ◌∙◌, subst, inl, inr, ⊎_elim}
use Rattle.rh_tagword.specs.declared.control.State.{State}
use Rattle.rh_tagword.specs.declared.control.State.TheVariants.{Unused, Undecided, Succeeded, Withdrawn, Failed}
use Rattle.rh_world.specs.World.{In, Ref}
use Rattle.rh_world.specs.World.Control.{failed}
use Rattle.rh_world.specs.Facts.{Fact}
use Rattle.rh_world.specs.Facts.Fact.{decided, failed_at, installed, known, met, new_is, old_is, over, stale, size_is, target_is}
use Rattle.rh_words.specs.View.{OwnDesc, View, Written, own_ref}
use Rattle.rh_words.specs.Words.{control_of, ref_of}
use Rattle.rh_world.specs.Moves.{HasSeen}
use Rattle.rh_words.specs.Steps.{IsKnown, entry_of, row_word}
use Rattle.rh_helping.specs.declared.goal.Task.{Task}
use Rattle.rh_helping.specs.Next.{Goal}
use Rattle.rh_helping.specs.declared.goal.Owed.{Owed}
use Rattle.rh_carrier.specs.Own.{IsAllNoted, IsClear, IsOpenOf, KnowsOwn, OwesNothing, Owns, open_number}
use Rattle.rh_helping.specs.Goal.{IsStale, HasReason, HasReleased, IsForeign, IsMet, KnowsGoal, KnowsTask, OwesOne, Releases, ReleasesOther, ReleasesOwn, StandsAt}
use Rattle.rh_helping.specs.Settling.{FailsNone, Grows, Keeps}
use Rattle.rh_helping.specs.Work.{IsAt, IsOver, Owes, OwesAs}

-- all facts of the first list stand in the second
abbrev pub Sub : List Fact → List Fact → Type 0
Sub l m = (n : Fact) → In n l → In n m

pub stands_sub : (l m : List Fact) → Sub l m → (d : Ref) (k : State) (e : ℕ) → StandsAt l d k e → StandsAt m d k e
stands_sub l m s d Unused e h = h
stands_sub l m s d Undecided e h = (s (known d) h.0, λ f i. s (installed d f) (h.1 f i))
stands_sub l m s d Succeeded e h = s (decided d (control_of Succeeded)) h
stands_sub l m s d Withdrawn e h = s (decided d (control_of Withdrawn)) h
stands_sub l m s d (Failed by) e h = s (decided d (control_of (Failed by))) h

pub stands_seen : (l : List Fact) (d : Ref) (k : State) (e : ℕ) → StandsAt l d k e → HasSeen l d
stands_seen l d Unused e h = absurd h
stands_seen l d Undecided e h = inl h.0
stands_seen l d Succeeded e h = inr (control_of Succeeded, h)
stands_seen l d Withdrawn e h = inr (control_of Withdrawn, h)
stands_seen l d (Failed by) e h = inr (control_of (Failed by), h)

pub stands_known : (l : List Fact) (d : Ref) (k : State) (e : ℕ) → StandsAt l d k e → IsKnown l d
stands_known l d k e h = inl (stands_seen l d k e h)

pub stands_decided : (l : List Fact) (d : Ref) (k : State) (e : ℕ) → IsOver k → StandsAt l d k e → In (decided d (control_of k)) l
stands_decided l d Unused e o h = absurd o
stands_decided l d Undecided e o h = absurd o
stands_decided l d _ e o h = h

-- a decided descriptor stands so at each of its entries
pub stands_anywhere : (l : List Fact) (d : Ref) (k : State) (e f : ℕ) → IsOver k → StandsAt l d k e → StandsAt l d k f
stands_anywhere l d Unused e f o h = absurd o
stands_anywhere l d Undecided e f o h = absurd o
stands_anywhere l d _ e f o h = h

pub met_anywhere : (v : View) (d : Ref) (k : State) (e f : ℕ) → IsOver k → IsMet v d k e → IsMet v d k f
met_anywhere v d k e f o h = record { stands = stands_anywhere v.side.facts d k e f o h.stands; fresh = h.fresh; last = h.last }

pub seen_sub : (l m : List Fact) → Sub l m → (d : Ref) → HasSeen l d → HasSeen m d
seen_sub l m s d h = ⊎_elim (λ i. inl (s (known d) i)) (λ q. inr (q.0, s (decided d q.0) q.1)) h

pub known_sub : (l m : List Fact) → Sub l m → (d : Ref) → IsKnown l d → IsKnown m d
known_sub l m s d h = ⊎_elim (λ i. inl (seen_sub l m s d i)) (λ i. inr (s (met d) i)) h

-- all that was noted of an own descriptor
module _ (v next : View) (worker : next.worker ≡ v.worker) (facts : Sub v.side.facts next.side.facts) where
  own_path : (n : ℕ) → own_ref v n ≡ own_ref next n
  own_path n = λ i. record { worker = sym worker i; number = n }

  pub noted_sub : (o : OwnDesc) → IsAllNoted v o → IsAllNoted next o
  noted_sub o h = record {
    known = subst (λ (d : Ref). In (known d) next.side.facts) (own_path o.number) (facts (known (own_ref v o.number)) h.known);
    size = subst (λ (d : Ref). In (size_is d (length o.entries)) next.side.facts) (own_path o.number) (facts (size_is (own_ref v o.number) (length o.entries)) h.size);
    cells = λ e i. subst (λ (d : Ref). In (target_is d e (entry_of o.entries e).cell) next.side.facts) (own_path o.number) (facts (target_is (own_ref v o.number) e (entry_of o.entries e).cell) (h.cells e i));
    olds = λ e i. subst (λ (d : Ref). In (old_is d e (entry_of o.entries e).old) next.side.facts) (own_path o.number) (facts (old_is (own_ref v o.number) e (entry_of o.entries e).old) (h.olds e i));
    news = λ e i. subst (λ (d : Ref). In (new_is d e (entry_of o.entries e).new) next.side.facts) (own_path o.number) (facts (new_is (own_ref v o.number) e (entry_of o.entries e).new) (h.news e i));
  }

module _ (v next : View) (keeps : Keeps v next) where
  module _ (failures : FailsNone v next) where
    pub met_sub : (d : Ref) (k : State) (e : ℕ) → IsMet v d k e → IsMet next d k e
    met_sub d k e h = record {
      stands = stands_sub v.side.facts next.side.facts keeps.facts d k e h.stands;
      fresh = λ u f same i. h.fresh u f same (failures f (subst (λ (w : ℕ). In (decided f (failed 0 w)) next.side.facts) keeps.worker i));
      last = λ own. h.last (own ∙ keeps.worker) ∙ sym keeps.next_number;
    }

    pub task_sub : (t : Task) → KnowsTask v t → KnowsTask next t
    task_sub t h = record {
      size = keeps.facts (size_is (ref_of t.desc) t.size) h.size;
      met = met_sub (ref_of t.desc) t.state t.entry h.met;
      within = h.within;
      unowed = h.unowed;
    }

    pub goal_sub : (g : Goal) → KnowsGoal v g → KnowsGoal next g
    goal_sub g h = record {
      task = task_sub g.task h.task;
      entry = h.entry;
      cell = keeps.facts (target_is (ref_of g.task.desc) g.task.entry g.cell) h.cell;
      old = keeps.facts (old_is (ref_of g.task.desc) g.task.entry g.old) h.old;
      new = keeps.facts (new_is (ref_of g.task.desc) g.task.entry g.new) h.new;
    }

  -- of these opened descriptors the second is open now, which was open, or none
  module _ (opens then : Option OwnDesc) (opened : next.opened ≡ v.opened) (current : next.side.current ≡ open_number then) (is : IsOpenOf v.opened then) (was : (n : ℕ) → open_number then ≡ Some n → open_number opens ≡ Some n) where
    pub owns_sub : Owns v opens → Owns next then
    owns_sub own = record {
      current = current;
      newest = subst (λ (os : List OwnDesc). IsOpenOf os then) (sym opened) is;
      noted = λ o i. noted_sub v next keeps.worker keeps.facts o (own.noted o (subst (λ (os : List OwnDesc). In o os) opened i));
      last = λ n e. own.last n (own.current ∙ was n (sym current ∙ e)) ∙ sym keeps.next_number;
    }

    pub own_sub : row_word next.written 1 ≡ row_word v.written 1 → KnowsOwn v opens → KnowsOwn next then
    own_sub row own = record { owns = owns_sub own.owns; row = λ n e. row ∙ own.row n (e ∙ keeps.next_number) }

  module _ (current : next.side.current ≡ v.side.current) where
    pub stale_sub : (d : Ref) → IsStale v d → IsStale next d
    stale_sub d h = record {
      known = known_sub v.side.facts next.side.facts keeps.facts d h.known;
      over = keeps.facts (over d) h.over;
      stale = keeps.facts (stale d) h.stale;
      other = λ a b. h.other (a ∙ keeps.worker) (sym current ∙ b);
    }

    pub reason_sub : (t : Task) → HasReason v t → HasReason next t
    reason_sub t h = λ own now by is.
        let r = h (own ∙ keeps.worker) (sym current ∙ now) by is in
        (r.0, r.1, keeps.facts (failed_at (ref_of t.desc) r.0) r.2)

    module _ (released : next.side.released ≡ v.side.released) where
      pub released_sub : (d : Ref) (e : ℕ) → HasReleased v d e → HasReleased next d e
      released_sub d e h = ⊎_elim
          (λ (own : ReleasesOwn v d e). inl record { own = own.own ∙ own_path v next keeps.worker keeps.facts d.number; open_one = current ∙ own.open_one; released = released ∙ own.released })
          (λ (others : ReleasesOther v d). inr record { other = λ a b. others.other (a ∙ keeps.worker) (sym current ∙ b); released = released ∙ others.released }) h

      module _ (unsettled : next.side.unsettled ≡ v.side.unsettled) (debts : next.side.debts ≡ v.side.debts) where
        pub nothing_sub : OwesNothing v → OwesNothing next
        nothing_sub h = record { settled = unsettled ∙ h.settled; paid = debts ∙ h.paid; unreleased = released ∙ h.unreleased }

        owes_one_sub : (d : Ref) (e size : ℕ) (owed : Option Owed) → OwesOne v d e size owed → OwesOne next d e size owed
        owes_one_sub d e size None h = debts ∙ h
        owes_one_sub d e size (Some o) h = (
          debts ∙ h.0,
          record {
            of_desc = h.1.of_desc;
            left = h.1.left;
            within = h.1.within;
            cell = keeps.facts (target_is d o.piece.entry o.piece.cell) h.1.cell;
            old = keeps.facts (old_is d o.piece.entry o.old) h.1.old;
          },
        )

        pub releases_sub : (t : Task) → Releases v t → Releases next t
        releases_sub t h = record {
          settled = unsettled ∙ h.settled;
          owes = owes_one_sub (ref_of t.desc) t.entry t.size t.owed h.owes;
          released = released_sub (ref_of t.desc) t.entry h.released;
        }

        owes_as_sub : (t : Task) (k : State) → OwesAs v t k → OwesAs next t k
        owes_as_sub t Unused h = nothing_sub h
        owes_as_sub t Undecided h = nothing_sub h
        owes_as_sub t _ h = releases_sub t h

        pub owes_sub : (t : Task) → Owes v t → Owes next t
        owes_sub t h = owes_as_sub t t.state h

module _ (v next : View) (g : Grows v next) where
  pub own_grows : (opens : Option OwnDesc) → KnowsOwn v opens → KnowsOwn next opens
  own_grows opens own = own_sub v next g.keeps opens opens g.opened (g.current ∙ own.current) own.newest (λ n e. e) (ap (λ (ws : List Written). row_word ws 1) g.written) own

  pub task_grows : (t : Task) → KnowsTask v t → KnowsTask next t
  task_grows = task_sub v next g.keeps g.failures

  pub met_grows : (d : Ref) (k : State) (e : ℕ) → IsMet v d k e → IsMet next d k e
  met_grows = met_sub v next g.keeps g.failures

  pub owes_grows : (t : Task) → Owes v t → Owes next t
  owes_grows = owes_sub v next g.keeps g.current g.released g.unsettled g.debts

  pub nothing_grows : OwesNothing v → OwesNothing next
  nothing_grows = nothing_sub v next g.keeps g.current g.released g.unsettled g.debts

  pub reason_grows : (t : Task) → HasReason v t → HasReason next t
  reason_grows = reason_sub v next g.keeps g.current

  pub foreign_grows : (d : Ref) → IsForeign v d → IsForeign next d
  foreign_grows d h own = h (own ∙ g.worker)

  pub at_grows : (t : Task) → IsAt v t → IsAt next t
  at_grows t h = record { task = task_grows t h.task; left = h.left; owes = owes_grows t h.owes; reason = reason_grows t h.reason }

  pub clear_grows : IsClear v → IsClear next
  clear_grows h = record { own = own_grows None h.own; owes = nothing_grows h.owes }
