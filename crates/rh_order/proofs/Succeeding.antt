-- A worker's acts in the list of all, at any moment: its descriptors that succeeded.
use Rattle.std.proofs.Common.{◌≡◌, ℕ, zero, suc, ◌<◌, ◌≤◌, inl, inr, ⊎_elim, refl, sym, ap, ◌∙◌, subst, arith, eq-eqb, ne_eqb, Bool, true, false, cond, List, [], ◌∷◌, ◌++◌, length, map, filter, reverse, Option, Some, None}
use mathlib.Core.List.{reverse-cons}
use Rattle.std.proofs.lemmas.Bool.{cases_eq}
use Rattle.std.proofs.lemmas.List.{append-nil}
use Rattle.rh_world.specs.World.{Control, In, IsFalling, Ref, World}
use Rattle.rh_world.specs.World.Control.{succeeded}
use Rattle.rh_world.specs.Facts.Fact.{decided}
use Rattle.rh_world.specs.Acts.{is_success, own_acts}
use Rattle.rh_world.proofs.OwnList.{success_yes}
use Rattle.rh_world.proofs.Updated.{ref_path, some_injective, some_not_none}
use Rattle.rh_words.specs.declared.shape.Shape.{Shape}
use Rattle.rh_words.specs.View.{OwnDesc, View, own_ref}
use Rattle.rh_words.specs.Words.{without_entry}
use Rattle.rh_rule.specs.Core.{Core}
use Rattle.rh_rule.specs.Represents.{numbers_of}
use Rattle.rh_rule.specs.Rest.{WorldTells, is_noted_success}
use Rattle.rh_rule.proofs.Deciders.{read_as_success}
use Rattle.rh_rule.proofs.Telling.{in_noted, noted_in, same_bool, same_filtered, tells}
use Rattle.rh_acts.specs.Act.{Act}
use Rattle.rh_acts.specs.Workers.{own}
use Rattle.rh_acts.proofs.ListLemmas.{one_more_own}
use Rattle.rh_order.specs.History.{act_of, history, history_up_to, is_finished, made_by, own_acts_of, succeeded_acts, world_act}
use Rattle.rh_order.specs.Histories.{OwnSoFar}
use Rattle.rh_order.specs.OwnActs.{Orderly}
use Rattle.rh_order.proofs.Finishing.{in_numbers, none_open, once_closed, open_no, while_open}
use Rattle.rh_order.proofs.Happening.{opened_act}
use Rattle.rh_order.proofs.Ordered.{kept_is_orderly}
use Rattle.rh_order.proofs.Values.{upto_more}

abbrev ref_at : (worker number : ℕ) → Ref
ref_at v n = record { worker = v; number = n }

-- a worker's acts among the first n
own_upto : (w : World) (v n : ℕ) → own v (history_up_to w n) ≡ reverse (map (λ k. world_act w (ref_at v k)) (own_acts w v n))
own_upto w v zero = refl
own_upto w v (suc n) =
    let d = w.act n in
    let f : ℕ → Act = λ k. world_act w (ref_at v k) in
    ap (own v) (upto_more (λ i. made_by w (w.act i)) n)
    ∙ elim (cases_eq d.worker v) [
      | inl is ↦
          (one_more_own (history_up_to w n) (made_by w d) v).0 is
          ∙ ap (λ (acts : List Act). acts ++ world_act w d ∷ []) (own_upto w v n)
          ∙ ap (λ (x : Ref). reverse (map f (own_acts w v n)) ++ world_act w x ∷ []) (ref_path d (ref_at v d.number) is refl)
          ∙ sym (reverse-cons (f d.number) (map f (own_acts w v n)))
          ∙ ap (λ b. reverse (map f (cond b (d.number ∷ own_acts w v n) (own_acts w v n)))) (sym (eq-eqb d.worker v is))
      | inr ne ↦
          (one_more_own (history_up_to w n) (made_by w d) v).1 ne
          ∙ own_upto w v n
          ∙ ap (λ b. reverse (map f (cond b (d.number ∷ own_acts w v n) (own_acts w v n)))) (sym (ne_eqb d.worker v ne))
    ]

-- of opened descriptors, which stand there by their numbers, those that pass a test
by_number : (f : ℕ → Act) (test : ℕ → Bool) (os : List OwnDesc) → ((o : OwnDesc) → In o os → f o.number ≡ act_of o.entries)
    → map f (filter test (numbers_of os)) ≡ map (λ (o : OwnDesc). act_of o.entries) (filter (λ (o : OwnDesc). test o.number) os)
by_number f test [] same = refl
by_number f test (o ∷ os) same = go (test o.number) (by_number f test os (λ p i. same p (inr i)))
  where
    go : (b : Bool) → map f (filter test (numbers_of os)) ≡ map (λ (p : OwnDesc). act_of p.entries) (filter (λ (p : OwnDesc). test p.number) os)
        → map f (cond b (o.number ∷ filter test (numbers_of os)) (filter test (numbers_of os)))
        ≡ map (λ (p : OwnDesc). act_of p.entries) (cond b (o ∷ filter (λ (p : OwnDesc). test p.number) os) (filter (λ (p : OwnDesc). test p.number) os))
    go true rest = λ i. same o (inl refl) i ∷ rest i
    go false rest = rest

abbrev acts_by : List OwnDesc → List Act
acts_by os = reverse (map (λ o. act_of o.entries) os)

module _ (w : World) (z : Shape) (words : List ℕ) (keep : ℕ → View) (v : ℕ) (core : Core w z words keep) (mine : v < z.workers) where
  abbrev k : View
  k = keep v

  world_tells : WorldTells w z keep core.side
  world_tells = tells w z words keep core

  tidy : Orderly k
  tidy = kept_is_orderly w z words keep v core mine

  abbrev succeeds : OwnDesc → Bool
  succeeds o = is_success (w.control (own_ref k o.number))

  number_is : k.worker ≡ v
  number_is = (core.represents.kept v mine).worker

  by_success : own v (history w) ≡ succeeded_acts w k
  by_success =
      own_upto w v w.act_count
      ∙ ap (λ (numbers : List ℕ). reverse (map (λ n. world_act w (ref_at v n)) numbers)) (world_tells.own v mine)
      ∙ ap reverse (by_number (λ n. world_act w (ref_at v n)) (λ n. is_success (w.control (ref_at v n))) k.opened (λ o i. sym (opened_act w (ref_at v o.number) o (world_tells.opened v o mine i))))
      ∙ ap (λ (u : ℕ). acts_by (filter (λ (o : OwnDesc). is_success (w.control (ref_at u o.number))) k.opened)) (sym number_is)

  -- what it noted as decided succeeded where it noted so
  noted_right : (o : OwnDesc) (r : Control) → In (decided (own_ref k o.number) r) k.side.facts → succeeds o ≡ is_noted_success k.side.facts (own_ref k o.number)
  noted_right o r i =
      let d : Ref = own_ref k o.number in
      same_bool (succeeds o) (is_noted_success k.side.facts d)
      (λ e. in_noted k.side.facts d (subst (λ (c : Control). In (decided d c) k.side.facts) (sym (world_tells.results v d r mine i) ∙ ap without_entry (success_yes (w.control d) e)) i))
      (λ e. sym (read_as_success (w.control d)) ∙ ap is_success (world_tells.results v d succeeded mine (noted_in k.side.facts d e)))

  -- one that is not open is finished where it succeeded
  closed_right : (o : OwnDesc) → In o k.opened → (k.side.current ≡ Some o.number → ⊥) → is_finished k o ≡ succeeds o
  closed_right o i closed = ⊎_elim (λ q. absurd (closed q)) (λ r. is_closed k.side.current refl ∙ sym (noted_right o r.0 r.1)) (tidy.over o i)
    where
      is_closed : (q : Option ℕ) → k.side.current ≡ q → is_finished k o ≡ is_noted_success k.side.facts (own_ref k o.number)
      is_closed None e = once_closed k o (none_open k.side.current o.number e)
      is_closed (Some p) e = once_closed k o (open_no k.side.current p o.number e (λ same. closed (e ∙ ap Some same)))

  abbrev Splits : Type 0
  Splits = (later : List Act) × (succeeded_acts w k ≡ own_acts_of k ++ later) × (length later ≤ 1) × (k.side.current ≡ None → later ≡ [])

  all_closed : k.side.current ≡ None → Splits
  all_closed none = (
    [],
    ap acts_by (same_filtered succeeds (is_finished k) k.opened (λ o i. sym (closed_right o i (λ e. some_not_none o.number (sym e ∙ none))))) ∙ sym (append-nil (own_acts_of k)),
    omega arith,
    λ e. refl,
  )

  module _ (p : ℕ) (current : k.side.current ≡ Some p) where
    head : (o : OwnDesc) × (earlier : List OwnDesc) × (k.opened ≡ o ∷ earlier) × (o.number ≡ p)
    head = tidy.newest p current

    abbrev last : OwnDesc
    last = head.0

    earlier_right : (o : OwnDesc) → In o head.1 → is_finished k o ≡ succeeds o
    earlier_right o j = closed_right o (subst (In o) (sym head.2) (inr j)) (λ e.
        let falls : IsFalling (numbers_of (last ∷ head.1)) = subst (λ (os : List OwnDesc). IsFalling (numbers_of os)) head.2 tidy.falling in
        let less : o.number < last.number = falls.0 o.number (in_numbers head.1 o j) in
        let same : p ≡ o.number = some_injective p o.number (sym current ∙ e) in
        let newest : last.number ≡ p = head.3 in
        absurd (omega arith))

    finished_are : filter (is_finished k) k.opened ≡ filter succeeds head.1
    finished_are =
        ap (filter (is_finished k)) head.2
        ∙ ap (λ (b : Bool). cond b (last ∷ filter (is_finished k) head.1) (filter (is_finished k) head.1)) (while_open k last (current ∙ ap Some (sym head.3)))
        ∙ same_filtered (is_finished k) succeeds head.1 earlier_right

    with_last : (b : Bool) → succeeds last ≡ b → Splits
    with_last true is = (
      act_of last.entries ∷ [],
      ap (λ (os : List OwnDesc). acts_by (filter succeeds os)) head.2
          ∙ ap (λ (b : Bool). acts_by (cond b (last ∷ filter succeeds head.1) (filter succeeds head.1))) is
          ∙ reverse-cons (act_of last.entries) (map (λ (o : OwnDesc). act_of o.entries) (filter succeeds head.1))
          ∙ ap (λ (os : List OwnDesc). acts_by os ++ act_of last.entries ∷ []) (sym finished_are),
      omega arith,
      λ e. absurd (some_not_none p (sym current ∙ e)),
    )
    with_last false is = (
      [],
      ap (λ (os : List OwnDesc). acts_by (filter succeeds os)) head.2
          ∙ ap (λ (b : Bool). acts_by (cond b (last ∷ filter succeeds head.1) (filter succeeds head.1))) is
          ∙ ap acts_by (sym finished_are)
          ∙ sym (append-nil (own_acts_of k)),
      omega arith,
      λ e. refl,
    )

  splits : (q : Option ℕ) → k.side.current ≡ q → Splits
  splits None e = all_closed e
  splits (Some p) e = with_last p e (succeeds (last p e)) refl

pub own_so_far : OwnSoFar
own_so_far w z words keep v core mine =
    let is = by_success w z words keep v core mine in
    let parts = splits w z words keep v core mine (keep v).side.current refl in
    record { succeeded = is; later = parts.0; finished = is ∙ parts.1; one = parts.2; closed = parts.3 }
