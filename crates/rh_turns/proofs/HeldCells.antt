-- What a worker holds tells what a cell stands for.
use Rattle.std.proofs.Common.{◌≡◌, ℕ, ◌<◌, ⊎_elim, sym, ap, ◌∙◌, subst, Option, Some, None, List, [], length, get_or}
use Rattle.rh_world.specs.World.{In, Ref}
use Rattle.rh_world.specs.Facts.Fact.{desc_is, found, old_is, target_is}
use Rattle.rh_world.specs.Moves.{MayWork}
use Rattle.rh_world.specs.Sides.{Debt}
use Rattle.rh_world.proofs.Updated.{some_injective, some_not_none}
use Rattle.rh_words.specs.declared.shape.Shape.{Shape}
use Rattle.rh_words.specs.View.{View, new_view, own_ref}
use Rattle.rh_words.specs.Words.{ref_of}
use Rattle.rh_helping.specs.Goal.{debt_of}
use Rattle.rh_helping.specs.Held.{IsHeld, KnowsOld}
use Rattle.rh_helping.specs.declared.goal.Owed.{Owed}
use Rattle.rh_order.specs.Known.{NotesOld}
use Rattle.rh_order.specs.Words.{HoldsCell, MarkIsFor}
use Rattle.rh_worker.specs.Worker.{IsWorker}
use Rattle.rh_turns.specs.declared.hand.Hand.{Hand}
use Rattle.rh_turns.specs.Hands.{view_of}
use Rattle.rh_turns.specs.Readable.{AreWorkers, views_of}
use Rattle.rh_turns.proofs.AtHands.{at_hand_is}

-- what is held is an entry of d for cell c, whose old value is noted
pub record HoldsEntry (v : View) (o : Owed) (d : Ref) (c : ℕ) : Type 0 where
  pub of_desc : ref_of o.piece.desc ≡ d
  pub at : o.piece.cell ≡ c
  pub knows : KnowsOld v o

pub noted_old : (v : View) (o : Owed) (d : Ref) (c : ℕ) → HoldsEntry v o d c → NotesOld v.side d c o.old
noted_old v o d c h =
    let e = o.piece.entry in (
      e,
      record {
        work = subst (λ (r : Ref). MayWork v.side r e) h.of_desc h.knows.work;
        cell = subst (λ (r : Ref). In (target_is r e c) v.side.facts) h.of_desc (subst (λ (b : ℕ). In (target_is (ref_of o.piece.desc) e b) v.side.facts) h.at h.knows.cell);
        old = subst (λ (r : Ref). In (old_is r e o.old) v.side.facts) h.of_desc h.knows.old;
      },
    )

module _ (v : View) (who : ℕ) (is : v.worker ≡ who) where
  no_debt : (d : Ref) (c : ℕ) → v.side.debts ≡ [] → In (record { desc = d; cell = c }) v.side.debts → ⊥
  no_debt d c none owes = subst (λ (ds : List Debt). In (record { desc = d; cell = c }) ds) none owes

  -- by a debt
  owes_it : (o : Owed) → IsHeld v (Some o) → (d : Ref) (c : ℕ) → In (record { desc = d; cell = c }) v.side.debts → HoldsEntry v o d c
  owes_it o h d c owes = ⊎_elim (λ unsettled. absurd (no_debt d c unsettled.1 owes)) (λ owed. ⊎_elim
      (λ (e : record { desc = d; cell = c } ≡ debt_of o). record { of_desc = ap (λ (x : Debt). x.desc) (sym e); at = ap (λ (x : Debt). x.cell) (sym e); knows = h.0 })
      (λ none. absurd none) (subst (λ (ds : List Debt). In (record { desc = d; cell = c }) ds) owed.1 owes)) h.1

  -- by its unsettled mark, which it noted as one for d
  pub marks_it : (o : Owed) → IsHeld v (Some o) → (n : ℕ) (d : Ref) (c : ℕ) → MarkIsFor v.side (record { worker = who; number = n }) d c
      → HoldsEntry v o d c × In (desc_is (record { worker = who; number = n }) d) v.side.facts
  marks_it o h n d c mark = ⊎_elim (λ u.
      let same : u.0.number ≡ n = some_injective u.0.number n (sym u.0.unsettled ∙ mark.unsettled) in
      let own : own_ref v u.0.number ≡ record { worker = who; number = n } = (λ i. record { worker = is i; number = same i }) in
      let names : In (desc_is (record { worker = who; number = n }) (ref_of o.piece.desc)) v.side.facts = subst (λ (x : Ref). In (desc_is x (ref_of o.piece.desc)) v.side.facts) own u.0.names in
      let of_desc : ref_of o.piece.desc ≡ d = mark.desc (ref_of o.piece.desc) names in
      let at : o.piece.cell ≡ c = mark.cell o.piece.cell (subst (λ (x : Ref). In (found x o.piece.cell) v.side.facts) own u.0.met) in
      (record { of_desc = of_desc; at = at; knows = h.0 }, subst (λ (r : Ref). In (desc_is (record { worker = who; number = n }) r) v.side.facts) of_desc names))
      (λ owed. absurd (some_not_none n (sym mark.unsettled ∙ owed.0))) h.1

  pub holds_it : (o : Owed) → IsHeld v (Some o) → (d : Ref) (c : ℕ) → HoldsCell v.side who d c → HoldsEntry v o d c
  holds_it o h d c holds = ⊎_elim (owes_it o h d c) (λ mark. (marks_it o h mark.0 d c mark.1).0) holds

  pub holds_none : IsHeld v None → (d : Ref) (c : ℕ) → HoldsCell v.side who d c → ⊥
  holds_none h d c holds = ⊎_elim (no_debt d c h.1) (λ mark. some_not_none mark.0 (sym mark.1.unsettled ∙ h.0)) holds

-- what is kept of a worker, and its number
module _ (hands : List Hand) (are : AreWorkers hands) (v : ℕ) (other : Hand) (inside : v < length hands) where
  pub view_at : views_of hands v ≡ view_of (get_or hands v other)
  view_at = at_hand_is view_of (new_view [] 0) hands v other inside

  pub numbered_at : (views_of hands v).worker ≡ v
  numbered_at = ap (λ (x : View). x.worker) view_at ∙ are.numbered v other inside

  pub held_at : (o : Option Owed) → ((z : Shape) → IsWorker z (get_or hands v other).worker → IsHeld (view_of (get_or hands v other)) o) → IsHeld (views_of hands v) o
  held_at o holds = let worker = are.each v other inside in subst (λ (x : View). IsHeld x o) (sym view_at) (holds worker.0 worker.1)
