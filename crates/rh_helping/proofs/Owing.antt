-- What a worker owes once its descriptor is decided, and what it owes when it comes to one.
use Rattle.std.proofs.Common.{◌≡◌, ℕ, ◌<◌, ◌⊎◌, Bool, true, false, true≢false, Option, Some, None, List, [], ◌∷◌, filter, not, sym, refl, ap, ◌∙◌, subst, inl, inr, ⊎_elim, arith}
use Rattle.rh_tagword.specs.declared.control.State.{State}
use Rattle.rh_tagword.specs.declared.control.State.TheVariants.{Unused, Undecided}
use Rattle.rh_world.specs.World.{In, Ref, is_ref}
use Rattle.rh_world.specs.Facts.Fact.{old_is, over, stale, size_is, target_is}
use Rattle.rh_world.specs.Moves.{MayWork}
use Rattle.rh_world.specs.Sides.{Debt}
use Rattle.rh_world.proofs.Updated.{ref_path, same_nat, some_injective, some_not_none}
use Rattle.rh_words.specs.View.{OwnDesc, View, own_ref}
use Rattle.rh_words.specs.Words.{ref_of}
use Rattle.rh_helping.specs.Next.{Goal}
use Rattle.rh_helping.specs.declared.goal.Owed.{Owed}
use Rattle.rh_helping.specs.declared.goal.Task.{Task}
use Rattle.rh_carrier.specs.Own.{IsAllNoted, IsNewestOwn, KnowsOwn, OwesNothing, open_number}
use Rattle.rh_helping.specs.Goal.{IsStale, HasReleased, IsForeign, OwesOne, Releases, ReleasesOther, ReleasesOwn, StandsAt, debt_of, owed_of}
use Rattle.rh_helping.specs.Settling.{Grows}
use Rattle.rh_helping.specs.Work.{IsAt, IsGivenUp, IsOver, OwesAs}
use Rattle.rh_helping.proofs.Growing.{known_sub, nothing_grows, stands_known}
use Rattle.rh_helping.proofs.Controls.{Saw, debts_said}

same_number : (q : Option ℕ) (n : ℕ) → (q ≡ Some n) ⊎ (q ≡ Some n → ⊥)
same_number None n = inr (λ e. some_not_none n (sym e))
same_number (Some m) n = ⊎_elim (λ e. inl (ap Some e)) (λ ne. inr (λ e. ne (some_injective m n e))) (same_nat m n)

-- none of its entries is released yet
pub released_from : (v : View) (d : Ref) (e : ℕ) → e ≡ 0 → v.side.released ≡ [] → HasReleased v d e
released_from v d e zero none = subst (HasReleased v d) (sym zero) (⊎_elim
    (λ (mine : d.worker ≡ v.worker). ⊎_elim
    (λ c. inl record { own = ref_path d (own_ref v d.number) mine refl; open_one = c; released = none })
    (λ other. inr record { other = λ a c. other c; released = none }) (same_number v.side.current d.number))
    (λ foreign. inr record { other = λ a c. foreign a; released = none }) (same_nat d.worker v.worker))

module _ (v : View) (t : Task) (first : t.entry ≡ 0) where
  pub releases_from : t.owed ≡ None → OwesNothing v → Releases v t
  releases_from none h = record {
    settled = h.settled;
    owes = subst (λ (o : Option Owed). OwesOne v (ref_of t.desc) t.entry t.size o) (sym none) h.paid;
    released = released_from v (ref_of t.desc) t.entry first h.unreleased;
  }

  -- one cell is owed
  pub releases_one : (g : Goal) → t.owed ≡ Some (owed_of g) → ref_of g.task.desc ≡ ref_of t.desc → v.side.unsettled ≡ None → v.side.released ≡ [] → v.side.debts ≡ debt_of (owed_of g) ∷ []
      → g.task.entry < t.size → In (target_is (ref_of t.desc) g.task.entry g.cell) v.side.facts → In (old_is (ref_of t.desc) g.task.entry g.old) v.side.facts → Releases v t
  releases_one g owed same settled none debts lt cell old = record {
    settled = settled;
    owes = subst (λ (o : Option Owed). OwesOne v (ref_of t.desc) t.entry t.size o) (sym owed) (debts, record { of_desc = same; left = omega (arith, first); within = lt; cell = cell; old = old });
    released = released_from v (ref_of t.desc) t.entry first none;
  }

pub owes_as_from : (v : View) (t : Task) (k : State) → (IsOver k → Releases v t) → OwesNothing v → OwesAs v t k
owes_as_from v t Unused r h = h
owes_as_from v t Undecided r h = h
owes_as_from v t _ r h = r tt

pub owes_over : (v : View) (t : Task) (k : State) → IsOver k → Releases v t → OwesAs v t k
owes_over v t Unused o h = absurd o
owes_over v t Undecided o h = absurd o
owes_over v t _ o h = h

-- who owes nothing has nothing to forget
pub forget_nothing : (f : Debt → Bool) (debts : List Debt) → debts ≡ [] → filter f debts ≡ debts
forget_nothing f debts e = subst (λ (l : List Debt). filter f l ≡ l) (sym e) refl

pub debts_same : (debts : List Debt) (d : Ref) (r : Option State) → debts ≡ [] → debts_said debts d r ≡ debts
debts_same debts d (Some Undecided) e = forget_nothing (λ q. not (is_ref q.desc d)) debts e
debts_same debts d _ e = refl

-- a control that is seen leaves who owes nothing so
pub nothing_saw : (v next : View) (d : Ref) (r : Option State) → Saw v d r next → OwesNothing v → OwesNothing next
nothing_saw v next d r saw h = record {
  settled = saw.unsettled ∙ h.settled;
  paid = saw.debts ∙ debts_same v.side.debts d r h.paid ∙ h.paid;
  unreleased = saw.released ∙ h.unreleased;
}

-- ---- a descriptor of another worker is left, as it is stale

module _ (v next : View) (g : Grows v next) (t : Task) (h : IsAt v t) (foreign : IsForeign v (ref_of t.desc)) (gone : In (over (ref_of t.desc)) next.side.facts × In (stale (ref_of t.desc)) next.side.facts) where
  abbrev d : Ref
  d = ref_of t.desc

  unreleased : HasReleased v d t.entry → v.side.released ≡ []
  unreleased r = ⊎_elim (λ (mine : ReleasesOwn v d t.entry). absurd (foreign (ap (λ (x : Ref). x.worker) mine.own))) (λ (others : ReleasesOther v d). others.released) r

  left_nothing : t.owed ≡ None → OwesNothing v
  left_nothing none = by t.state refl h.owes
    where
      released : Releases v t → OwesNothing v
      released r = record { settled = r.settled; paid = subst (λ (o : Option Owed). OwesOne v d t.entry t.size o) none r.owes; unreleased = unreleased r.released }

      by : (k : State) → t.state ≡ k → OwesAs v t k → OwesNothing v
      by Unused is h = h
      by Undecided is h = h
      by _ is h = released h

  left_releases : (o : Owed) → t.owed ≡ Some o → Releases v t
  left_releases o some = by t.state refl h.owes
    where
      some_not : Some o ≡ None → ⊥
      some_not e = true≢false (ap is_some e)
        where
          is_some : Option Owed → Bool
          is_some None = false
          is_some (Some q) = true

      by : (k : State) → t.state ≡ k → OwesAs v t k → Releases v t
      by Unused is q = absurd (subst (λ (k : State). StandsAt v.side.facts d k t.entry) is h.task.met.stands)
      by Undecided is q = absurd (some_not (sym some ∙ h.task.unowed is))
      by _ is q = q

  left_by : (owed : Option Owed) → t.owed ≡ owed → IsGivenUp next d owed
  left_by None none = (nothing_grows v next g (left_nothing none), gone.1)
  left_by (Some o) some =
      let r = left_releases o some in
      let one = subst (λ (q : Option Owed). OwesOne v d t.entry t.size q) some r.owes in
      let same = sym one.1.of_desc in
      record {
        gone = subst (IsStale next) same (record { known = known_sub v.side.facts next.side.facts g.facts d (stands_known v.side.facts d t.state t.entry h.task.met.stands); over = gone.0; stale = gone.1; other = λ mine current. foreign (mine ∙ g.worker) });
        work = subst (λ (f : Ref). MayWork next.side f o.piece.entry) same (record { size = t.size; known = g.facts (size_is d t.size) h.task.size; within = one.1.within });
        cell = subst (λ (f : Ref). In (target_is f o.piece.entry o.piece.cell) next.side.facts) same (g.facts (target_is d o.piece.entry o.piece.cell) one.1.cell);
        old = subst (λ (f : Ref). In (old_is f o.piece.entry o.old) next.side.facts) same (g.facts (old_is d o.piece.entry o.old) one.1.old);
        settled = g.unsettled ∙ r.settled;
        owes = g.debts ∙ one.0;
        unreleased = g.released ∙ unreleased r.released;
      }

  pub left_at : IsGivenUp next d t.owed
  left_at = left_by t.owed refl

-- all is noted of the own open descriptor
newest_noted : (v : View) (d : OwnDesc) (opened : List OwnDesc) → IsNewestOwn opened d → ((o : OwnDesc) → In o opened → IsAllNoted v o) → IsAllNoted v d
newest_noted v d [] is noted = absurd is
newest_noted v d (o ∷ os) is noted = subst (IsAllNoted v) is (noted o (inl refl))

pub open_all_noted : (v : View) (d : OwnDesc) → KnowsOwn v (Some d) → IsAllNoted v d
open_all_noted v d own = newest_noted v d v.opened own.newest own.noted

-- it is the one that has this number
pub open_of : (opens : Option OwnDesc) (n : ℕ) → open_number opens ≡ Some n → (d : OwnDesc) × (opens ≡ Some d) × (d.number ≡ n)
open_of None n e = absurd (some_not_none n (sym e))
open_of (Some d) n e = (d, refl, some_injective _ _ e)
