-- What a worker has of its own descriptors is noted: the entries of the open one, and the row of the newest once it is closed.
use Rattle.std.proofs.Common.{◌≡◌, ℕ, zero, suc, ◌<◌, Option, Some, List, [], ◌∷◌, length, get_or, refl, sym, subst, arith}
use Rattle.rh_layout.specs.declared.entry.Entry.{Entry}
use Rattle.rh_world.specs.World.{In, Ref}
use Rattle.rh_world.specs.Facts.Fact.{new_is, old_is, size_is, target_is}
use Rattle.rh_world.proofs.Updated.{ref_path}
use Rattle.rh_words.specs.declared.shape.Shape.{Shape}
use Rattle.rh_words.specs.View.{OwnDesc, View, own_ref}
use Rattle.rh_words.specs.Words.{ref_of}
use Rattle.rh_words.specs.Steps.{IsKnown, entry_of, row_word}
use Rattle.rh_rule.specs.Sound.{OwnRow}
use Rattle.rh_words.specs.Parts.{entry_row}
use Rattle.rh_helping.specs.declared.goal.Task.{Task}
use Rattle.rh_carrier.specs.Own.{IsAllNoted, KnowsOwn}
use Rattle.rh_helping.specs.Goal.{KnowsGoal, KnowsTask}
use Rattle.rh_carrier.specs.Relies.{Knows}
use Rattle.rh_helping.proofs.Knowing.{task_known}
use Rattle.rh_helping.proofs.Owing.{open_all_noted}

module _ (z : Shape) (v : View) (trusts : Knows z v) (opens : Option OwnDesc) (own : KnowsOwn v opens) where
  module _ (d : Ref) (mine : d.worker ≡ v.worker) (last : suc d.number ≡ v.next_number) (known : IsKnown v.side.facts d) where
    row : OwnRow v d
    row = trusts.sound.rows d mine known (own.row d.number last)

    noted : IsAllNoted v row.own
    noted = own.noted row.own row.here

    is : own_ref v row.own.number ≡ d
    is = ref_path (own_ref v row.own.number) d (sym mine) row.number

    whole : In (size_is d (length row.own.entries)) v.side.facts
    whole = subst (λ (f : Ref). In (size_is f (length row.own.entries)) v.side.facts) is noted.size

    pub own_size : In (size_is d (row_word v.written 2)) v.side.facts
    own_size = subst (λ (n : ℕ). In (size_is d n) v.side.facts) (sym row.size) whole

    module _ (n : ℕ) (sized : In (size_is d n) v.side.facts) (e : ℕ) (lt : e < n) where
      inside : e < length row.own.entries
      inside = subst (λ (k : ℕ). e < k) (trusts.sound.one_size d n (length row.own.entries) sized whole) lt

      pub own_cell : In (target_is d e (row_word v.written (entry_row e 0))) v.side.facts
      own_cell = subst (λ (k : ℕ). In (target_is d e k) v.side.facts) (sym (row.cells e inside))
          (subst (λ (f : Ref). In (target_is f e (entry_of row.own.entries e).cell) v.side.facts) is (noted.cells e inside))

      pub own_old : In (old_is d e (row_word v.written (entry_row e 1))) v.side.facts
      own_old = subst (λ (k : ℕ). In (old_is d e k) v.side.facts) (sym (row.olds e inside))
          (subst (λ (f : Ref). In (old_is f e (entry_of row.own.entries e).old) v.side.facts) is (noted.olds e inside))

      pub own_new : In (new_is d e (row_word v.written (entry_row e 2))) v.side.facts
      own_new = subst (λ (k : ℕ). In (new_is d e k) v.side.facts) (sym (row.news e inside))
          (subst (λ (f : Ref). In (new_is f e (entry_of row.own.entries e).new) v.side.facts) is (noted.news e inside))

  -- the goal that an own row says
  pub own_goal_known : (t : Task) (c o n : ℕ) → KnowsTask v t → t.desc.worker ≡ v.worker → t.entry < t.size
      → c ≡ row_word v.written (entry_row t.entry 0)
      → o ≡ row_word v.written (entry_row t.entry 1)
      → n ≡ row_word v.written (entry_row t.entry 2)
      → KnowsGoal v (record { task = t; cell = c; old = o; new = n })
  own_goal_known t c o n k mine lt cell old new =
      let known = task_known z v trusts t k in
      let last = k.met.last mine in
      record {
        task = k;
        entry = lt;
        cell = subst (λ (x : ℕ). In (target_is (ref_of t.desc) t.entry x) v.side.facts) (sym cell) (own_cell (ref_of t.desc) mine last known t.size k.size t.entry lt);
        old = subst (λ (x : ℕ). In (old_is (ref_of t.desc) t.entry x) v.side.facts) (sym old) (own_old (ref_of t.desc) mine last known t.size k.size t.entry lt);
        new = subst (λ (x : ℕ). In (new_is (ref_of t.desc) t.entry x) v.side.facts) (sym new) (own_new (ref_of t.desc) mine last known t.size k.size t.entry lt);
      }

-- ---- the open one

pub entry_is : (es : List Entry) (e : ℕ) (d : Entry) → e < length es → entry_of es e ≡ get_or es e d
entry_is [] e d l = absurd (omega arith)
entry_is (x ∷ es) zero d l = refl
entry_is (x ∷ es) (suc e) d l = entry_is es e d (omega arith)

module _ (z : Shape) (v : View) (trusts : Knows z v) (opens : Option OwnDesc) (own : KnowsOwn v opens) (n : ℕ) (es : List Entry) (is : opens ≡ Some (record { number = n; entries = es })) where
  abbrev open_one : OwnDesc
  open_one = record { number = n; entries = es }

  said : IsAllNoted v open_one
  said = open_all_noted v open_one (subst (KnowsOwn v) is own)

  module _ (d : Ref) (mine : d.worker ≡ v.worker) (here : d.number ≡ n) where
    same : own_ref v n ≡ d
    same = ref_path (own_ref v n) d (sym mine) (sym here)

    pub open_size : In (size_is d (length es)) v.side.facts
    open_size = subst (λ (f : Ref). In (size_is f (length es)) v.side.facts) same said.size

    pub open_inside : (size e : ℕ) → In (size_is d size) v.side.facts → e < size → e < length es
    open_inside size e sized lt = subst (λ (k : ℕ). e < k) (trusts.sound.one_size d size (length es) sized open_size) lt

  pub open_goal_known : (t : Task) → KnowsTask v t → t.desc.worker ≡ v.worker → t.desc.number ≡ n → t.entry < t.size → (none : Entry)
      → KnowsGoal v (record { task = t; cell = (get_or es t.entry none).cell; old = (get_or es t.entry none).old; new = (get_or es t.entry none).new })
  open_goal_known t k mine here lt none =
      let d : Ref = ref_of t.desc in
      let inside = open_inside d mine here t.size t.entry k.size lt in
      let to = same d mine here in
      let q = entry_is es t.entry none inside in
      record {
        task = k;
        entry = lt;
        cell = subst (λ (p : Ref × Entry). In (target_is p.0 t.entry p.1.cell) v.side.facts) (λ i. (to i, q i)) (said.cells t.entry inside);
        old = subst (λ (p : Ref × Entry). In (old_is p.0 t.entry p.1.old) v.side.facts) (λ i. (to i, q i)) (said.olds t.entry inside);
        new = subst (λ (p : Ref × Entry). In (new_is p.0 t.entry p.1.new) v.side.facts) (λ i. (to i, q i)) (said.news t.entry inside);
      }
