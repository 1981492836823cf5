-- What the seat of all workers may do in a wipe, and what becomes of its views.
use Rattle.std.proofs.Common.{◌≡◌, ℕ, suc, ◌+◌, ◌<◌, List, [], ◌∷◌, refl, sym, ap, ◌∙◌, subst}
use Rattle.std.proofs.lemmas.List.{length-map}
use mathlib.Core.Option.{some}
use lib.ListN.{get_elem?}
use Rattle.atomic_table.specs.Table.{Allows, Me}
use Rattle.atomic_table.specs.declared.shared.Seat as kept
use Rattle.rh_rule.specs.declared.rule.Sitter.{Sitter}
use Rattle.rh_words.specs.declared.shape.Shape.{Shape}
use Rattle.rh_words.specs.Parts.{cell_count}
use Rattle.rh_words.specs.View.{View, round_view}
use Rattle.rh_rule.specs.Seats.{AreMade, Begun, RuleHolds, InView, IsWiping, NoSlot, Spans, WipeSteps, all_views, sitter}
use Rattle.rh_rule.specs.Wipes.{row_total, wiping_view}
use Rattle.rh_rule.proofs.SeatsKept.{all_may_wipe, of_map}
use Rattle.rh_shared.specs.Crews.{IsFresh, IsQuiet, IsWholeSeat}
use Rattle.rh_shared.specs.declared.table.Table.{Table}
use Rattle.rh_shared.specs.Ends.{IsWiped, cleared_to, kept_cells, renewed, with_cleared}
use Rattle.rh_shared.proofs.Crews.{IsHalf}

-- ---- views that are changed alike

all_same : (f g : View → View) (vs : List Sitter) → ((r : ℕ) (s : Sitter) → get_elem? vs r ≡ some s → f s.view ≡ g s.view) → all_views f vs ≡ all_views g vs
all_same f g [] same = refl
all_same f g (x ∷ xs) same =
    let head = same 0 x refl in
    let rest = all_same f g xs (λ r s e. same (suc r) s e) in
    λ i. sitter (head i) [] ∷ rest i

all_twice : (f g h : View → View) → ((v : View) → f (g v) ≡ h v) → (vs : List Sitter) → all_views f (all_views g vs) ≡ all_views h vs
all_twice f g h same [] = refl
all_twice f g h same (x ∷ xs) =
    let head = same x.view in
    let rest = all_twice f g h same xs in
    λ i. sitter (head i) [] ∷ rest i

pub in_views : (P : View → Type 0) (f : View → View) → ((v : View) → P (f v)) → (vs : List Sitter) → InView P (all_views f vs)
in_views P f each vs r s e = let h = of_map (λ k. sitter (f k.view) []) vs r s e in subst (λ (k : Sitter). P k.view) (sym h.2) (each h.0.view)

pub spans_views : (f : View → View) → ((v : View) → (f v).worker ≡ v.worker) → (vs : List Sitter) (first count : ℕ) → Spans vs first count → Spans (all_views f vs) first count
spans_views f same vs first count s = record {
  long = length-map vs (λ k. sitter (f k.view) []) ∙ s.long;
  each = λ r k e. let h = of_map (λ k. sitter (f k.view) []) vs r k e in ap (λ (k : Sitter). k.view.worker) h.2 ∙ same h.0.view ∙ s.each r h.0 h.1;
}

-- ---- the steps

weaker : (z : Shape) (slots id i : ℕ) (me : Me NoSlot (List Sitter)) (f : ℕ → ℕ) (then more : Me NoSlot (List Sitter) → Type 0) → ((m : Me NoSlot (List Sitter)) → then m → more m)
    → Allows {S = NoSlot} (RuleHolds z) slots id me i f (λ word. then) → Allows {S = NoSlot} (RuleHolds z) slots id me i f (λ word. more)
weaker z slots id i me f then more to a st h long is less = let r = a st h long is less in (r.0, r.1, r.2, r.3, to _ r.4)

module _ (z : Shape) (slots id : ℕ) (me : Me NoSlot (List Sitter)) (empty : me.1 ≡ []) (all : Spans me.0 0 z.workers) where
  abbrev vs : List Sitter
  vs = me.0

  may : WipeSteps z slots id vs
  may = all_may_wipe z slots id vs all

  of_me : (i : ℕ) (f : ℕ → ℕ) (then : Me NoSlot (List Sitter) → Type 0) → Allows {S = NoSlot} (RuleHolds z) slots id (vs, []) i f (λ word. then) → Allows {S = NoSlot} (RuleHolds z) slots id me i f (λ word. then)
  of_me i f then a = subst (λ l. Allows {S = NoSlot} (RuleHolds z) slots id (vs, l) i f (λ word. then)) (sym empty) a

  pub may_begin : InView IsQuiet vs → Allows {S = NoSlot} (RuleHolds z) slots id me 0 (λ n. n) (λ word. Begun z vs)
  may_begin quiet = of_me 0 (λ n. n) (Begun z vs) (may.begins 0 (λ r s e. (quiet r s e).still) (λ r s e. (quiet r s e).rest))

  pub may_clear : (cells : List ℕ) (n i : ℕ) → n < row_total z → i ≡ cell_count z + n → InView (IsWiping cells n) vs
      → Allows {S = NoSlot} (RuleHolds z) slots id me i (λ word. 0) (λ word m. m ≡ (all_views (with_cleared (n + 1)) vs, []))
  may_clear cells n i inside index wiping =
      subst (λ (j : ℕ). Allows {S = NoSlot} (RuleHolds z) slots id me j (λ word. 0) (λ word m. m ≡ (all_views (with_cleared (n + 1)) vs, []))) (sym index)
      (of_me (cell_count z + n) (λ word. 0) (λ m. m ≡ (all_views (with_cleared (n + 1)) vs, []))
      (weaker z slots id (cell_count z + n) (vs, []) (λ word. 0) (λ m. m ≡ (all_views (wiping_view cells (n + 1)) vs, [])) (λ m. m ≡ (all_views (with_cleared (n + 1)) vs, []))
      (λ m is. is ∙ (λ j. (all_same (wiping_view cells (n + 1)) (with_cleared (n + 1)) vs (λ r s e. clears cells s.view (wiping r s e)) j, [])))
      (may.stores cells n inside wiping)))
    where
      clears : (cells : List ℕ) (v : View) → IsWiping cells n v → wiping_view cells (n + 1) v ≡ with_cleared (n + 1) v
      clears cells v is = λ i. record v { wiping = cleared_to (n + 1) (sym is i) }

  pub may_finish : (cells : List ℕ) → InView (IsWiping cells (row_total z)) vs → Allows {S = NoSlot} (RuleHolds z) slots id me 0 (λ n. n) (λ word m. m ≡ (all_views renewed vs, []))
  may_finish cells wiping =
      of_me 0 (λ n. n) (λ m. m ≡ (all_views renewed vs, []))
      (weaker z slots id 0 (vs, []) (λ n. n) (λ m. m ≡ (all_views (round_view cells) vs, [])) (λ m. m ≡ (all_views renewed vs, []))
      (λ m is. is ∙ (λ j. (all_same (round_view cells) renewed vs (λ r s e. renews cells s.view (wiping r s e)) j, [])))
      (may.ends cells 0 wiping))
    where
      renews : (cells : List ℕ) (v : View) → IsWiping cells (row_total z) v → round_view cells v ≡ renewed v
      renews cells v is = λ i. round_view (kept_cells (sym is i)) v

-- ---- from the start to the end

pub cleared_on : (vs us : List Sitter) (cells : List ℕ) (n : ℕ) → us ≡ all_views (wiping_view cells n) vs → all_views (with_cleared (n + 1)) us ≡ all_views (wiping_view cells (n + 1)) vs
cleared_on vs us cells n is = ap (all_views (with_cleared (n + 1))) is ∙ all_twice (with_cleared (n + 1)) (wiping_view cells n) (wiping_view cells (n + 1)) (λ v. refl) vs

pub finished : (z : Shape) (vs us : List Sitter) (m : AreMade z vs) (n : ℕ) → us ≡ all_views (wiping_view m.cells n) vs → IsWiped z vs (all_views renewed us)
finished z vs us m n is = record { made = m; views = ap (all_views renewed) is ∙ all_twice renewed (wiping_view m.cells n) (round_view m.cells) (λ v. refl) vs }

-- the seat in the midst of a wipe
pub still_whole : (t : Table) (s next : kept.Seat NoSlot (List Sitter)) (cells : List ℕ) (n : ℕ) → next.table_id ≡ s.table_id → next.me ≡ (all_views (wiping_view cells n) s.me.0, []) → IsWholeSeat t s → IsWholeSeat t next
still_whole t s next cells n same is whole = record {
  own = same ∙ whole.own;
  empty = ap (λ x. x.1) is;
  all = subst (λ (l : List Sitter). Spans l 0 t.shape.workers) (sym (ap (λ x. x.0) is)) (spans_views (wiping_view cells n) (λ v. refl) s.me.0 0 t.shape.workers whole.all);
}

pub are_wiping : (vs us : List Sitter) (cells : List ℕ) (n : ℕ) → us ≡ all_views (wiping_view cells n) vs → InView (IsWiping cells n) us
are_wiping vs us cells n is = subst (λ (l : List Sitter). InView (IsWiping cells n) l) (sym is) (in_views (IsWiping cells n) (wiping_view cells n) (λ v. refl) vs)

pub wiped_half : (z : Shape) (vs us : List Sitter) (first count : ℕ) → IsWiped z vs us → Spans vs first count → IsHalf IsFresh us first count
wiped_half z vs us first count w s = subst (λ (l : List Sitter). IsHalf IsFresh l first count) (sym w.views) record {
  spans = spans_views (round_view w.made.cells) (λ v. refl) vs first count s;
  each = in_views IsFresh (round_view w.made.cells) (λ v. refl) vs;
}
