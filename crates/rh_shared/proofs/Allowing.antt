-- A step that is ready is allowed by the rule of the table.
use Rattle.std.proofs.Common.{◌≡◌, ◌∙◌, ◌<◌, ℕ, List, [], ◌∷◌, ap, get_or, sym, subst}
use Rattle.atomic_table.specs.Table.{Allows, Me, stepped}
use Rattle.rh_words.specs.declared.shape.Shape.{Shape}
use Rattle.rh_words.specs.View.{View}
use Rattle.rh_words.specs.Parts.{word_count}
use Rattle.rh_words.specs.Steps.{Allowed, Step, index, noted, word_after}
use Rattle.rh_rule.specs.declared.rule.Sitter.{Sitter}
use Rattle.rh_rule.specs.Seats.{RuleHolds, NoSlot, StepTells, sitter}
use Rattle.rh_rule.specs.Traces.{Touch}
use Rattle.rh_rule.proofs.SeatsKept.{looks_are_allowed, steps_are_allowed}
use Rattle.rh_shared.specs.declared.on_table.OnTable.{OnTable}
use Rattle.rh_shared.specs.Sits.{IsReading, Looks, Ready, Tells}
use Rattle.rh_shared.specs.Traces.{trace_in}

tells : (z : Shape) (v : View) (l : List Touch) (s : Step) (word : ℕ) (me : Me NoSlot (List Sitter)) → StepTells z v l s word me → Tells z v s (sitter v l ∷ [], []) word me
tells z v l s word me t =
    let trace = ap (λ (m : Me NoSlot (List Sitter)). trace_in m.0) t.view in record {
      view = t.view ∙ ap (λ (k : List Touch). (sitter (noted z v s word) k ∷ [], [])) (sym trace);
      trace = trace;
      finds = t.finds;
      sound = t.sound;
      rule_tells = t.rule_tells;
    }

allows : (z y : Shape) (slots id : ℕ) (me : Me NoSlot (List Sitter)) (v : View) (s : Step) (at : ℕ) (f : ℕ → ℕ) → y ≡ z
    → me ≡ (sitter v (trace_in me.0) ∷ [], []) → Allowed z v s → at ≡ index z v s → ((n : ℕ) → f n ≡ word_after v s n)
    → Allows {S = NoSlot} (RuleHolds y) slots id me at f (Tells z v s me)
allows z y slots id me v s at f same view may here effect =
    subst (λ (x : Shape). Allows {S = NoSlot} (RuleHolds x) slots id me at f (Tells z v s me)) (sym same)
    (subst (λ (m : Me NoSlot (List Sitter)). Allows {S = NoSlot} (RuleHolds z) slots id m at f (Tells z v s m)) (sym view)
    (subst (λ (i : ℕ). Allows {S = NoSlot} (RuleHolds z) slots id (sitter v (trace_in me.0) ∷ [], []) i f (Tells z v s (sitter v (trace_in me.0) ∷ [], []))) (sym here)
    (λ st h long is less.
    let r = steps_are_allowed z slots id v (trace_in me.0) s may st h long is less in
    (r.0, r.1, r.2, subst (λ (m : ℕ). RuleHolds z (stepped st (index z v s) m id [] r.0 r.1)) (sym (effect (get_or st.words (index z v s) 0))) r.3, tells z v (trace_in me.0) s _ _ r.4))))

looks : (z : Shape) (slots id : ℕ) (v : View) (l : List Touch) (s : Step) → IsReading s → Allowed z v s
    → Allows {S = NoSlot} (RuleHolds z) slots id (sitter v l ∷ [], []) (index z v s) (λ n. n) (Looks z v s (sitter v l ∷ [], []))
looks z slots id v l (Step.writes p u) never may = absurd never
looks z slots id v l (Step.opens size) never may = absurd never
looks z slots id v l (Step.reads r) is may = λ st h long at less.
    let t = looks_are_allowed z slots id v l r may st h long at less in (t.0, t.1, t.2, t.3, record { view = t.4.view; finds = t.4.finds })
looks z slots id v l (Step.places d e c old) never may = absurd never
looks z slots id v l (Step.settles x c d e old) never may = absurd never
looks z slots id v l (Step.decides d k) never may = absurd never
looks z slots id v l (Step.releases d e c k value) never may = absurd never
looks z slots id v l Step.claims never may = absurd never

looks_there : (z y : Shape) (slots id : ℕ) (me : Me NoSlot (List Sitter)) (v : View) (s : Step) (at : ℕ) → IsReading s → y ≡ z
    → me ≡ (sitter v (trace_in me.0) ∷ [], []) → Allowed z v s → at ≡ index z v s
    → Allows {S = NoSlot} (RuleHolds y) slots id me at (λ n. n) (Looks z v s me)
looks_there z y slots id me v s at reads same view may here =
    subst (λ (x : Shape). Allows {S = NoSlot} (RuleHolds x) slots id me at (λ n. n) (Looks z v s me)) (sym same)
    (subst (λ (m : Me NoSlot (List Sitter)). Allows {S = NoSlot} (RuleHolds z) slots id m at (λ n. n) (Looks z v s m)) (sym view)
    (subst (λ (i : ℕ). Allows {S = NoSlot} (RuleHolds z) slots id (sitter v (trace_in me.0) ∷ [], []) i (λ n. n) (Looks z v s (sitter v (trace_in me.0) ∷ [], []))) (sym here)
    (looks z slots id v (trace_in me.0) s reads may)))

-- ---- on the seat's table

abbrev MayTouch : (t : OnTable) (at : ℕ) (f : ℕ → ℕ) (then : ℕ → Me NoSlot (List Sitter) → Type 0) → Type 0
MayTouch t at f then = (t.seat.now.table_id ≡ t.table.now.inner.shared.table_id) × (at < t.table.now.inner.shared.table_id.words)
    × Allows {S = NoSlot} (RuleHolds t.table.now.inner.shared.key.shape) t.table.now.inner.shared.table_id.slots t.seat.now.id t.seat.now.me at f then

module _ (t : OnTable) (z : Shape) (v : View) (s : Step) (at : ℕ) (f : ℕ → ℕ) (r : Ready t z v s at f) where
  inside : at < t.table.now.inner.shared.table_id.words
  inside = subst (λ (n : ℕ). at < n) (sym (t.table.now.sized ∙ ap word_count r.sits.shape)) r.within

  pub may_make : MayTouch t at f (Tells z v s t.seat.now.me)
  may_make = (r.sits.own, inside, allows z t.table.now.inner.shared.key.shape _ _ _ v s at f (t.table.now.same ∙ r.sits.shape) r.sits.view r.allowed r.index r.effect)

  pub may_look : IsReading s → MayTouch t at (λ n. n) (Looks z v s t.seat.now.me)
  may_look reads = (r.sits.own, inside, looks_there z t.table.now.inner.shared.key.shape _ _ _ v s at reads (t.table.now.same ∙ r.sits.shape) r.sits.view r.allowed r.index)
