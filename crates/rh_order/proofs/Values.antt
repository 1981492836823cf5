-- What an act of the world makes of the values of the cells.
use Rattle.std.proofs.Common.{◌≡◌, ℕ, zero, suc, ◌+◌, ◌<◌, ◌≤◌, inl, inr, ⊎_elim, refl, sym, ap, ◌∙◌, arith, List, [], ◌∷◌, ◌++◌, length, get_or, set, map, take, cond, eqb, length-set, get_or-set_same, get_or-set_other, eq-eqb, ne_eqb}
use Rattle.std.specs.Prelude.{slice_index}
use Rattle.std.specs.List.{Contains, range_with_len}
use Rattle.std.proofs.lemmas.Bool.{cases_eq}
use Rattle.std.proofs.lemmas.List.{length-map, map-append, take-map, get_or-map}
use Rattle.std.proofs.lemmas.List.FromFn.{length-map-range_with_len, get_or-map-range_with_len, take-map-range_with_len, map-range_with_len_more, fill_by_all}
use Rattle.rh_world.specs.World.{Ref, World}
use Rattle.rh_world.specs.Logical.{changed_by}
use Rattle.rh_world.specs.Acts.{cells_after}
use Rattle.rh_words.specs.declared.shape.Shape.{Shape}
use Rattle.rh_words.specs.Parts.{cell_count}
use Rattle.rh_tagword.specs.Word.{IsValue}
use Rattle.rh_layout.specs.Key.{cell_of, key_in}
use Rattle.rh_layout.specs.Layout.{IsLayout}
use Rattle.rh_layout.specs.declared.limits.TheConstants.{MAX_KEY}
use Rattle.rh_layout.specs.declared.entry.Entry.{Entry}
use Rattle.rh_acts.specs.Act.{Act, apply_act, apply_acts}
use Rattle.rh_acts.specs.Workers.{Made, acts_of}
use Rattle.rh_acts.proofs.ListLemmas.{one_more_act}
use Rattle.rh_order.specs.History.{value_of, entry_in, world_act, made_by, history_up_to, cells_of, opening_cells}

-- ---- lists made of the first numbers

-- one number more
pub upto_more : {X : Type 0} (f : ℕ → X) (n : ℕ) → map f (range_with_len 0 (suc n)) ≡ map f (range_with_len 0 n) ++ f n ∷ []
upto_more f n = ap (λ m. map f (range_with_len 0 m)) (let e : suc n ≡ n + 1 = omega arith in e) ∙ map-range_with_len_more f 0 n n (omega arith)

pub contains_upto : {X : Type 0} (f : ℕ → X) (n : ℕ) (x : X) → Contains (map f (range_with_len 0 n)) x → (i : ℕ) × (i < n) × (x ≡ f i)
contains_upto f n x h =
    let l : h.0 < n = omega (arith, h.1, length-map-range_with_len f 0 n) in
    (h.0, l, sym h.2 ∙ get_or-map-range_with_len f 0 n h.0 h.0 x l (omega arith))

-- ---- cells

-- a cell of a layout holds a value
pub is_value : (bits : ℕ) (cells : List ℕ) (c : ℕ) → IsLayout bits cells → c < length cells → IsValue (slice_index cells c)
is_value bits cells c layout inside = ⊎_elim
    (λ (none : slice_index cells c ≡ 0). omega (arith, none))
    (λ some.
    let key : ℕ = key_in (slice_index cells c) in
    let is : slice_index cells c ≡ cell_of key = full (slice_index cells c) some in
    let small : key ≤ MAX_KEY = layout.keys key (layout.no_other c key (inside, is)) in
    omega (arith, is, small)) (cases_eq (slice_index cells c) 0)
  where
    full : (v : ℕ) → (v ≡ 0 → ⊥) → v ≡ cell_of (key_in v)
    full v some = omega (arith, some)

pub cells_length : (z : Shape) (f : ℕ → ℕ) → length (cells_of z f) ≡ cell_count z
cells_length z f = length-map-range_with_len (λ c. value_of (f c)) 0 (cell_count z)

pub get_cells : (z : Shape) (f : ℕ → ℕ) (c : ℕ) → c < cell_count z → get_or (cells_of z f) c 0 ≡ value_of (f c)
get_cells z f c l = get_or-map-range_with_len (λ c. value_of (f c)) 0 (cell_count z) c c 0 l (omega arith)

-- one word is changed
set_cells : (z : Shape) (f : ℕ → ℕ) (c u : ℕ) → set (cells_of z f) c (value_of u) ≡ cells_of z (λ x. cond (eqb x c) u (f x))
set_cells z f c u =
    fill_by_all (λ x. value_of (cond (eqb x c) u (f x))) (set (cells_of z f) c (value_of u)) (cell_count z) 0
    (length-set (cells_of z f) c (value_of u) ∙ cells_length z f)
    (λ k l. elim (cases_eq k c) [
      | inl is ↦
          ap (λ j. get_or (set (cells_of z f) c (value_of u)) j 0) is
          ∙ get_or-set_same (cells_of z f) c (value_of u) 0 (omega (arith, cells_length z f))
          ∙ ap (λ b. value_of (cond b u (f k))) (sym (eq-eqb k c is))
      | inr ne ↦
          get_or-set_other (cells_of z f) c k (value_of u) 0 ne
          ∙ get_cells z f k l
          ∙ ap (λ b. value_of (cond b u (f k))) (sym (ne_eqb k c ne))
    ])

apply_more : (act : Act) (e : Entry) (cells : List ℕ) → apply_act (act ++ e ∷ []) cells ≡ set (apply_act act cells) e.cell e.new
apply_more [] e cells = refl
apply_more (x ∷ xs) e cells = apply_more xs e (set cells x.cell x.new)

-- ---- acts

-- the first n entries of a descriptor change what the world says
act_changes : (z : Shape) (w : World) (d : Ref) (f : ℕ → ℕ) (n : ℕ) → apply_act (map (entry_in w d) (range_with_len 0 n)) (cells_of z f) ≡ cells_of z (changed_by w d n f)
act_changes z w d f zero = refl
act_changes z w d f (suc n) =
    ap (λ (act : Act). apply_act act (cells_of z f)) (upto_more (entry_in w d) n)
    ∙ apply_more (map (entry_in w d) (range_with_len 0 n)) (entry_in w d n) (cells_of z f)
    ∙ ap (λ (cells : List ℕ). set cells (w.target d n) (value_of (w.new d n))) (act_changes z w d f n)
    ∙ set_cells z (changed_by w d n f) (w.target d n) (w.new d n)

acts_more : (w : World) (n : ℕ) → acts_of (history_up_to w (suc n)) ≡ acts_of (history_up_to w n) ++ world_act w (w.act n) ∷ []
acts_more w n = ap acts_of (upto_more (λ i. made_by w (w.act i)) n) ∙ map-append (λ (m : Made). m.act) (history_up_to w n) (made_by w (w.act n) ∷ [])

-- the first n acts lead from the opening cells to what the cells stand for after them
pub acts_lead : (z : Shape) (w : World) (n : ℕ) → apply_acts (acts_of (history_up_to w n)) (opening_cells w z) ≡ cells_of z (cells_after w n)
acts_lead z w zero = refl
acts_lead z w (suc n) =
    ap (λ (acts : List Act). apply_acts acts (opening_cells w z)) (acts_more w n)
    ∙ (one_more_act (acts_of (history_up_to w n)) (world_act w (w.act n)) (opening_cells w z)).0
    ∙ ap (apply_act (world_act w (w.act n))) (acts_lead z w n)
    ∙ act_changes z w (w.act n) (cells_after w n) (w.size (w.act n))

pub acts_length : (w : World) (n : ℕ) → length (acts_of (history_up_to w n)) ≡ n
acts_length w n = length-map (history_up_to w n) (λ (m : Made). m.act) ∙ length-map-range_with_len (λ i. made_by w (w.act i)) 0 n

-- the acts before the i-th, and the i-th
pub acts_before : (w : World) (n i : ℕ) → i ≤ n → take i (acts_of (history_up_to w n)) ≡ acts_of (history_up_to w i)
acts_before w n i l = take-map (λ (m : Made). m.act) i (history_up_to w n) ∙ ap acts_of (take-map-range_with_len (λ i. made_by w (w.act i)) 0 n i l)

pub act_at : (w : World) (n i : ℕ) → i < n → get_or (acts_of (history_up_to w n)) i [] ≡ world_act w (w.act i)
act_at w n i l =
    get_or-map (λ (m : Made). m.act) (history_up_to w n) i (made_by w (w.act i)) [] (omega (arith, length-map-range_with_len (λ i. made_by w (w.act i)) 0 n))
    ∙ ap (λ (m : Made). m.act) (get_or-map-range_with_len (λ i. made_by w (w.act i)) 0 n i i (made_by w (w.act i)) l (omega arith))
