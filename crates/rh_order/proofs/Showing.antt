-- Each key that is done shows in the set: its act is one of all, or what was read of it was true and stays so.
use Rattle.std.proofs.Common.{◌≡◌, ℕ, ◌<◌, ⊎_elim, refl, sym, ap, ◌∙◌, subst, arith, Bool, true, false, true≢false, List, [], ◌∷◌, length, get_or, map, filter, reverse, take, not}
use mathlib.Core.List.{reverse-cons}
use Rattle.std.specs.List.{Contains}
use Rattle.std.specs.FinSet.{contains}
use Rattle.std.proofs.Math.Seq.{take-length}
use Rattle.std.proofs.lemmas.List.{get_or_past}
use Rattle.std.proofs.lemmas.List.Elements.{Contains-append_cases, Contains-get_or}
use Rattle.std.proofs.lemmas.Bool.{cases_lt}
use Rattle.rh_layout.specs.Key.{cell_of}
use Rattle.rh_layout.specs.Layout.{Holds, Keys, Layout}
use Rattle.rh_ledger.specs.declared.tally.Kind.{Kind}
use Rattle.rh_ledger.specs.declared.tally.Kind.TheVariants.{Insert, Remove, Ask}
use Rattle.rh_world.specs.World.{In, Ref, World}
use Rattle.rh_world.specs.World.Control.{succeeded}
use Rattle.rh_world.proofs.Tests.{both}
use Rattle.rh_words.specs.declared.shape.Shape.{Shape}
use Rattle.rh_words.specs.View.{OwnDesc, View, own_ref}
use Rattle.rh_rule.specs.Core.{Core}
use Rattle.rh_rule.specs.Rest.{is_noted_success}
use Rattle.rh_rule.proofs.Deciders.{read_as_succeeded}
use Rattle.rh_rule.proofs.Telling.{noted_in, tells}
use Rattle.rh_acts.specs.Act.{Act, AllMeet, apply_acts}
use Rattle.rh_acts.specs.Done.{IsByAct, IsByRead, Kept, KeyDone, WereTrue, kept}
use Rattle.rh_acts.specs.KeyActs.{IsInsertAct, IsRemovalAct}
use Rattle.rh_acts.specs.Workers.{LeavesRoom, acts_of}
use Rattle.rh_acts.proofs.ActLemmas.{contains_cases, contains_head, contains_none, contains_tail, contains_take}
use Rattle.rh_acts.proofs.DoneLemmas.{does_insert, does_removal}
use Rattle.rh_acts.proofs.Chain.{insertions_grow, removals_shrink}
use Rattle.rh_order.specs.History.{act_of, history, is_current, is_finished, own_acts_of, world_act}
use Rattle.rh_order.proofs.Filtered.{from_filtered}
use Rattle.rh_order.proofs.Happening.{opened_act}
use Rattle.rh_order.proofs.Values.{act_at, acts_length}
use Rattle.rh_order.specs.Laws.{Reflects}
use Rattle.rh_order.specs.Run.{DoesOneOf}

-- ---- the set that the cells are a layout of

-- two sets of one layout
same_shown : (cells : List ℕ) (b : ℕ) (T U : Keys) (k : ℕ) → Layout cells b T → Layout cells b U → contains T k ≡ true → contains U k ≡ true
same_shown cells b T U k of_t of_u is = let at = of_t.held k is in of_u.no_other at.0 k at.1

word_held : (cells : List ℕ) (c k : ℕ) → get_or cells c 0 ≡ cell_of k → Holds cells c k
word_held cells c k is = ⊎_elim (λ l. (l, is)) (λ past. absurd (omega (arith, is, get_or_past cells c 0 past))) (cases_lt c (length cells))

inserts : (b : ℕ) (all : List ℕ) (act : Act) → DoesOneOf Insert b all act → (k : ℕ) × Contains all k × IsInsertAct b k act
inserts b all act one = (one.0, one.1, does_insert b one.0 one.2.0 act one.2.1)

removes : (b : ℕ) (all : List ℕ) (act : Act) → DoesOneOf Remove b all act → (k : ℕ) × IsRemovalAct b k act
removes b all act one = (one.0, does_removal b one.0 one.2.0 act one.2.1)

only_one : (first : List Act) (act : Act) → first ≡ act ∷ [] → Contains first act
only_one first act is = subst (λ (acts : List Act). Contains acts act) (sym is) (contains_head act [])

pub key_shows : (kind : Kind) (b : ℕ) (opening : List ℕ) (S U : Keys) (all : List ℕ) (acts first : List Act) (reads : List Kept) (k : ℕ) (so : Bool)
    → Layout opening b S → AllMeet acts opening → LeavesRoom kind b S all → ((a : Act) → Contains acts a → DoesOneOf kind b all a)
    → Layout (apply_acts acts opening) b U → WereTrue opening acts reads → KeyDone kind b reads k first so → ((a : Act) → Contains first a → Contains acts a)
    → Reflects kind U k
key_shows Insert b opening S U all acts first reads k so layout meet room each leads were one among =
    let grown = insertions_grow b opening S all acts layout meet room (λ a h. inserts b all a (each a h)) in
    let whole : take (length acts) acts ≡ acts = take-length acts in
    let end = grown (length acts) in
    let end_layout : Layout (apply_acts acts opening) b end.0 = subst (λ (xs : List Act). Layout (apply_acts xs opening) b end.0) whole end.1.layout in
    let made : (a : Act) → Contains acts a → IsInsertAct b k a → contains end.0 k ≡ true = λ a h does. end.1.adds a k (subst (λ (xs : List Act). Contains xs a) (sym whole) h) does in
    same_shown (apply_acts acts opening) b end.0 U k end_layout leads (⊎_elim
    (λ (by : IsByAct Insert b k first so). made by.act (among by.act (only_one first by.act by.only)) (does_insert b k so by.act by.does))
    (λ (by : IsByRead Insert b reads k first so).
    let at = by.tells.1 in
    let was = were (kept at.0 (cell_of k)) at.1 in
    let then = grown was.0 in
    ⊎_elim (end.1.keeps k) (λ by. made by.0 (contains_take was.0 acts by.0 by.1) by.2)
    (then.1.only k (then.1.layout.no_other at.0 k (word_held (apply_acts (take was.0 acts) opening) at.0 k was.2)))) one)
key_shows Remove b opening S U all acts first reads k so layout meet room each leads were one among =
    let by : IsByAct Remove b k first so = ⊎_elim (λ by. by) (λ (by : IsByRead Remove b reads k first so). absurd by.tells) one in
    let whole : take (length acts) acts ≡ acts = take-length acts in
    let end = removals_shrink b opening S acts layout meet (λ a h. removes b all a (each a h)) (length acts) in
    let end_layout : Layout (apply_acts acts opening) b end.0 = subst (λ (xs : List Act). Layout (apply_acts xs opening) b end.0) whole end.1.layout in
    let out : contains end.0 k ≡ false = end.1.drops by.act k (subst (λ (xs : List Act). Contains xs by.act) (sym whole) (among by.act (only_one first by.act by.only))) (does_removal b k so by.act by.does) in
    not_shown (contains U k) (λ there. true≢false (sym (same_shown (apply_acts acts opening) b U end.0 k leads end_layout there) ∙ out))
  where
    not_shown : (t : Bool) → (t ≡ true → ⊥) → t ≡ false
    not_shown true no' = absurd (no' refl)
    not_shown false no' = refl
key_shows Ask b opening S U all acts first reads k so layout meet room each leads were one among = tt

-- ---- acts that a worker has finished are acts of the table

from_reversed : {X : Type 0} (xs : List X) (x : X) → Contains (reverse xs) x → Contains xs x
from_reversed [] x h = h
from_reversed (y ∷ ys) x h = ⊎_elim
    (λ later. contains_tail y x ys (from_reversed ys x later))
    (λ last. ⊎_elim (λ (e : y ≡ x). subst (Contains (y ∷ ys)) e (contains_head y ys)) (λ none. absurd (contains_none x none)) (contains_cases y x [] last))
    (Contains-append_cases (reverse ys) (y ∷ []) x (subst (λ l. Contains l x) (reverse-cons y ys) h))

module _ (w : World) (z : Shape) (words : List ℕ) (keep : ℕ → View) (core : Core w z words keep) (v : ℕ) (mine : v < z.workers) where
  -- a descriptor that is noted as succeeded is an act
  act_is_made : (o : OwnDesc) → In o (keep v).opened → is_noted_success (keep v).side.facts (own_ref (keep v) o.number) ≡ true → Contains (acts_of (history w)) (act_of o.entries)
  act_is_made o i is =
      let world_tells = tells w z words keep core in
      let d : Ref = record { worker = v; number = o.number } in
      let noted : w.control (own_ref (keep v) o.number) ≡ succeeded = read_as_succeeded (w.control (own_ref (keep v) o.number)) (world_tells.results v (own_ref (keep v) o.number) succeeded mine (noted_in (keep v).side.facts (own_ref (keep v) o.number) is)) in
      let control : w.control d ≡ succeeded = subst (λ (u : ℕ). w.control record { worker = u; number = o.number } ≡ succeeded) (core.represents.kept v mine).worker noted in
      let at = world_tells.order.made d control in
      let act_is : get_or (acts_of (history w)) at.0 [] ≡ act_of o.entries =
      act_at w w.act_count at.0 at.1 ∙ ap (world_act w) at.2 ∙ sym (opened_act w d o (world_tells.opened v o mine i)) in
      subst (Contains (acts_of (history w))) act_is (Contains-get_or (acts_of (history w)) at.0 [] (omega (arith, at.1, acts_length w w.act_count)))

  pub finished_among : (a : Act) → Contains (own_acts_of (keep v)) a → Contains (acts_of (history w)) a
  finished_among a h =
      let k = keep v in
      let it = from_filtered (is_finished k) (λ (o : OwnDesc). act_of o.entries) k.opened a
      (from_reversed (map (λ (o : OwnDesc). act_of o.entries) (filter (is_finished k) k.opened)) a h) in
      let is = both (not (is_current k.side.current it.0.number)) (is_noted_success k.side.facts (own_ref k it.0.number)) it.2 in
      subst (Contains (acts_of (history w))) it.3 (act_is_made it.0 it.1 is.1)
