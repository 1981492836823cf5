-- A table that is made meets the rule, and at its close the cells are those that the acts made.
use Rattle.std.proofs.Common.{◌≡◌, ◌≢◌, ℕ, zero, suc, ◌+◌, ◌-◌, ◌/◌, ◌<◌, ◌≤◌, false, Option, Some, List, [], ◌∷◌, ◌++◌, length, length-take-le, get_or, get_or-take, map, set, take, replicate, ⊎_elim, refl, sym, ap, ◌∙◌, subst, arith}
use Rattle.std.specs.Prelude.{IsSome, MatchOption}
use Rattle.std.proofs.lemmas.List.{ext_get_or, get_or-map, get_or-set_other, get_or-set_same, length-map, take_all}
use mathlib.Core.Option.{some, some-injective, some-ne-none}
use lib.ListN.{get_elem?}
use Rattle.atomic_table.specs.Table.{Final, Seen, State, opening}
use Rattle.rh_world.proofs.Updated.{same_nat}
use Rattle.rh_tagword.specs.Word.{IsValue, is_plain, plain_number, tag_of}
use Rattle.rh_tagword.proofs.PlainWords.{value_said, value_there}
use Rattle.rh_rule.specs.declared.rule.Sitter.{Sitter}
use Rattle.rh_words.specs.declared.shape.Shape.{Shape}
use Rattle.rh_words.specs.Parts.{cell_count, word_count}
use Rattle.rh_words.specs.View.{View, new_view}
use Rattle.rh_words.specs.Words.{IsPlain}
use Rattle.rh_rule.specs.Rest.{AllRest}
use Rattle.rh_rule.specs.Seats.{AreMade, RuleHolds, InView, NoSlot, Spans, first_view, new_views}
use Rattle.rh_rule.specs.Wipes.{row_total}
use Rattle.rh_rule.proofs.SeatsKept.{close_sees, item_at, new_at, new_long, starts}
use Rattle.rh_rule.proofs.Telling.{rests}
use Rattle.rh_shared.specs.declared.seat.Seat.{Seat}
use Rattle.rh_shared.specs.declared.table.Table.{Table}
use Rattle.rh_shared.specs.Crews.{HasAll, IsFresh, IsQuiet, head_of, views_of}
use Rattle.rh_shared.specs.Ends.{Leaves}
use Rattle.rh_shared.proofs.Crews.{IsHalf}

-- ---- the start

-- the words of the cells, and behind them empty rows; what is kept of the cells for contracts alone is what their words are
pub opens : (z : Shape) (cells plain all kept : List ℕ) (n m : ℕ) → length cells ≡ cell_count z → plain ≡ map plain_number cells
    → n ≡ word_count z → m ≡ length plain → all ≡ take n plain ++ replicate (n - m) 0 → kept ≡ plain → RuleHolds {S = NoSlot} z (opening {S = NoSlot} all [] (first_view z kept))
opens z cells plain all kept n m size plain_is n_is m_is all_is kept_is =
    let long : length plain ≡ cell_count z = ap length plain_is ∙ length-map cells plain_number ∙ size in
    let behind : n - m ≡ row_total z + 1 = omega (arith, n_is, m_is, long) in
    let whole : all ≡ plain ++ replicate (row_total z + 1) 0 = all_is ∙ (λ i. take_all n plain (omega (arith, n_is, long)) i ++ replicate (behind i) 0) in
    let are_plain = λ (c : ℕ) (inside : c < cell_count z).
    let at : get_or plain c 0 ≡ plain_number (get_or cells c 0) = ap (λ (l : List ℕ). get_or l c 0) plain_is ∙ get_or-map plain_number cells c 0 0 (omega (arith, inside, size)) in
    let tag : tag_of (get_or plain c 0) ≡ 0 = omega (arith, at) in tag in
    subst (λ (ws : List ℕ). RuleHolds {S = NoSlot} z (opening {S = NoSlot} all [] (first_view z ws))) (sym kept_is)
    (subst (λ (ws : List ℕ). RuleHolds {S = NoSlot} z (opening {S = NoSlot} ws [] (first_view z plain))) (sym whole) (starts z plain [] long are_plain))

pub made_half : (z : Shape) (plain : List ℕ) (us : List Sitter) → us ≡ first_view z plain → IsHalf IsFresh us 0 z.workers
made_half z plain us is = subst (λ (l : List Sitter). IsHalf IsFresh l 0 z.workers) (sym is) record {
  spans = record {
    long = new_long plain 0 z.workers;
    each = λ r s e. ap (λ (k : Sitter). k.view.worker) (new_at plain 0 z.workers r s e);
  };
  each = λ r s e. subst (λ (k : Sitter). IsFresh k.view) (sym (new_at plain 0 z.workers r s e)) refl;
}

pub made_head : (z : Shape) (plain : List ℕ) (us : List Sitter) → us ≡ first_view z plain → new_view plain 0 ≡ head_of us
made_head z plain us is = sym (ap head_of is ∙ first_head z.workers z.some_worker)
  where
    first_head : (n : ℕ) → 0 < n → head_of (new_views plain 0 n) ≡ new_view plain 0
    first_head zero more = absurd (omega arith)
    first_head (suc n) more = refl

-- ---- the end

get_from : (l : List ℕ) (i a : ℕ) → get_elem? l i ≡ some a → get_or l i 0 ≡ a
get_from [] i a e = absurd (some-ne-none a (sym e))
get_from (x ∷ xs) zero a e = some-injective x a e
get_from (x ∷ xs) (suc i) a e = get_from xs i a e

-- where all workers are quiet, these are the cells
closes : (z y : Shape) (id : ℕ) (vs : List Sitter) (st : State NoSlot (List Sitter)) → y ≡ z → Spans vs 0 z.workers → RuleHolds {S = NoSlot} y st → get_elem? st.views id ≡ some vs
    → InView IsQuiet vs → (m : AreMade z vs) × (m.cells ≡ take (cell_count z) st.words) × (cell_count z ≤ length st.words)
closes z y id vs st same all holds at quiet =
    let sees = close_sees z id vs st all (subst (λ (x : Shape). RuleHolds {S = NoSlot} x st) same holds) at (λ r s e. (quiet r s e).still) in
    let keep = sees.keep in
    let ruled = sees.ruled in
    let each : (P : View → Type 0) → InView P vs → (v : ℕ) → v < z.workers → P (keep v) = λ P h v inside.
    let it = item_at vs v (let l = all.long in omega (arith, l, inside)) in
    subst P (sym (sees.of_view v it.0 it.1)) (h v it.0 it.1) in
    let rest : AllRest z keep = record { still = λ v inside. (each IsQuiet quiet v inside).still; rest = λ v inside. (each IsQuiet quiet v inside).rest } in
    let r = rests ruled.0 z st.words keep ruled.1 rest in
    let sized : length st.words ≡ word_count z = ruled.1.represents.sized in
    let front : (c : ℕ) → c < cell_count z → get_or st.words c 0 ≡ get_or (take (cell_count z) st.words) c 0 = λ c inside. sym (get_or-take (cell_count z) st.words c 0 inside) in (
      record {
        cells = take (cell_count z) st.words;
        long = length-take-le (cell_count z) st.words (omega (arith, sized));
        words = st.words;
        front = front;
        w = ruled.0;
        keep = keep;
        core = ruled.1;
        rest = rest;
        rested = record {
          tells = r.tells;
          cells = λ c inside. sym (front c inside) ∙ r.cells c inside;
          plain = λ c inside. ap (λ (n : ℕ). tag_of n) (sym (front c inside)) ∙ r.plain c inside;
          acts = r.acts;
        };
        of_view = sees.of_view;
        traces = sees.traces;
        round = sees.round;
        of_trace = sees.of_trace;
      },
      refl,
      omega (arith, sized),
    )

-- at the close of the table, with the seat of all workers
pub closes_with : (t : Table) (q : Seat) (words : List ℕ) (homes : List NoSlot) → HasAll t q → InView IsQuiet (views_of q) → Final (Seen (RuleHolds {S = NoSlot} t.inner.shared.key.shape) q.inner.id (views_of q)) words homes
    → (m : AreMade t.shape (views_of q)) × (m.cells ≡ take (cell_count t.shape) words) × (cell_count t.shape ≤ length words)
closes_with t q words homes all quiet final =
    let spans : Spans (views_of q) 0 t.shape.workers = subst (λ (x : ℕ × ℕ). Spans (views_of q) x.0 x.1) (λ i. (all.first i, all.count i)) q.spans in
    let r = closes t.shape t.inner.shared.key.shape q.inner.id (views_of q) final.0 t.same spans final.1.0 final.1.1 quiet in
    (r.0, subst (λ (ws : List ℕ). r.0.cells ≡ take (cell_count t.shape) ws) final.2 r.1, subst (λ (ws : List ℕ). cell_count t.shape ≤ length ws) final.2 r.2)

module _ (z : Shape) (vs : List Sitter) (words : List ℕ) (m : AreMade z vs) (front : m.cells ≡ take (cell_count z) words) where
  pub front_plain : (c : ℕ) → c < cell_count z → IsPlain (get_or words c 0)
  front_plain c inside = subst (λ (n : ℕ). IsPlain n) (ap (λ (l : List ℕ). get_or l c 0) front ∙ get_or-take (cell_count z) words c 0 inside) (m.rested.plain c inside)

  pub value_given : (n word : ℕ) (o : Option ℕ) → n < cell_count z → get_elem? words n ≡ some word
      → MatchOption o (is_plain word ≡ false) (λ value. IsValue value × (word ≡ plain_number value)) → IsSome o
  value_given n word o inside at says = value_there o word says (subst (λ (k : ℕ). IsPlain k) (get_from words n word at) (front_plain n inside))

  -- one value more is handed out
  pub one_more : (values : List ℕ) (n x : ℕ) (word : ℕ) (o : Option ℕ) → n < cell_count z → n < length values → get_elem? words n ≡ some word
      → MatchOption o (is_plain word ≡ false) (λ value. IsValue value × (word ≡ plain_number value)) → o ≡ Some x
      → ((c : ℕ) → c < n → get_or words c 0 ≡ plain_number (get_or values c 0)) → (c : ℕ) → c < n + 1 → get_or words c 0 ≡ plain_number (get_or (set values n x) c 0)
  one_more values n x word o inside room at says is before c less = ⊎_elim
      (λ (q : c ≡ n).
      let here = get_from words n word at in
      ap (λ (i : ℕ). get_or words i 0) q ∙ here ∙ (value_said o word x says is).1
      ∙ ap plain_number (sym (get_or-set_same values n x 0 room)) ∙ ap (λ (i : ℕ). plain_number (get_or (set values n x) i 0)) (sym q))
      (λ (ne : c ≢ n). before c (omega arith) ∙ ap plain_number (sym (get_or-set_other values n c x 0 ne))) (same_nat c n)

  pub leaves : (values : List ℕ) → cell_count z ≤ length words → length values ≡ cell_count z → ((c : ℕ) → c < cell_count z → get_or words c 0 ≡ plain_number (get_or values c 0)) → Leaves z vs values
  leaves values within size each = record {
    made = m;
    values_are = front ∙ ext_get_or 0 (take (cell_count z) words) (map plain_number values)
        (length-take-le (cell_count z) words within ∙ sym size ∙ sym (length-map values plain_number))
        (λ c inside.
        let less : c < cell_count z = let l = length-take-le (cell_count z) words within in omega (arith, inside, l) in
        get_or-take (cell_count z) words c 0 less ∙ each c less ∙ sym (get_or-map plain_number values c 0 0 (omega (arith, less, size))));
  }

  -- the cells have values, also where nobody asks for them
  pub some_values : cell_count z ≤ length words → (values : List ℕ) × Leaves z vs values
  some_values within =
      let fronts : List ℕ = take (cell_count z) words in
      let long : length fronts ≡ cell_count z = length-take-le (cell_count z) words within in (
        map (λ (n : ℕ). n / 4) fronts,
        leaves (map (λ (n : ℕ). n / 4) fronts) within (length-map fronts (λ (n : ℕ). n / 4) ∙ long) (λ c inside.
            let plain : tag_of (get_or words c 0) ≡ 0 = front_plain c inside in
            let at : get_or (map (λ (n : ℕ). n / 4) fronts) c 0 ≡ get_or fronts c 0 / 4 = get_or-map (λ (n : ℕ). n / 4) fronts c 0 0 (omega (arith, long, inside)) in
            let here : get_or fronts c 0 ≡ get_or words c 0 = get_or-take (cell_count z) words c 0 inside in
            omega (arith, plain, at, here)),
      )
