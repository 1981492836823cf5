-- The act that a scan asks for has cells of the table and values of cells; its entries are those of a descriptor once
-- their values are words.
use Rattle.std.proofs.Common.{◌≡◌, ℕ, zero, suc, ◌-◌, ◌^◌, ◌<◌, ◌≤◌, Bool, true, false, List, [], ◌∷◌, ◌++◌, length, length-append, get_or, map, take, drop, length-take-le, refl, sym, ap, ◌∙◌, subst, arith}
use Rattle.std.specs.List.{Contains, insert, remove}
use Rattle.std.proofs.lemmas.List.{get_or-map, length-map, take-map, take_at}
use Rattle.std.proofs.lemmas.List.Elements.{Contains-get_or}
use Rattle.rh_tagword.specs.Word.{IsValue, plain_number, tag_of}
use Rattle.rh_layout.specs.Key.{IsBits, IsKey, cell_of}
use Rattle.rh_layout.specs.Order.{home_of}
use Rattle.rh_layout.proofs.LayoutLemmas.{low_of}
use Rattle.rh_layout.proofs.RoundLemmas.{ahead_below}
use Rattle.rh_edit.specs.News.{inserted_at, shifted_back}
use Rattle.rh_ledger.specs.declared.tally.Kind.{Kind}
use Rattle.rh_ledger.specs.declared.tally.Kind.TheVariants.{Insert, Remove}
use Rattle.rh_layout.specs.declared.entry.Entry.{Entry}
use Rattle.rh_acts.specs.Act.{entry}
use Rattle.rh_acts.specs.KeyActs.{IsFrontAct, PutsIn, ShowsAbsent, TakesOut}
use Rattle.rh_acts.specs.Done.{Does}
use Rattle.rh_words.specs.Words.{IsPlain}
use Rattle.rh_order.specs.History.{act_of, value_of}
use Rattle.rh_worker.specs.declared.deciding.Decision.{Decision}
use Rattle.rh_worker.specs.declared.deciding.Decision.TheVariants.{Acts}
use Rattle.rh_worker.specs.Deciding.{AreFit, AreValued, Decides, IsPlan, worded}
use Rattle.rh_worker.proofs.Keeping.{plain_value}

abbrev pub AreValues : List ℕ → Type 0
AreValues xs = (p : ℕ) → IsValue (get_or xs p 0)

no_value : AreValues []
no_value p = omega arith

one_more : (x : ℕ) (xs : List ℕ) → IsValue x → AreValues xs → AreValues (x ∷ xs)
one_more x xs v h zero = v
one_more x xs v h (suc p) = h p

pub values_take : (n : ℕ) (xs : List ℕ) → AreValues xs → AreValues (take n xs)
values_take zero xs h = no_value
values_take (suc n) [] h = no_value
values_take (suc n) (x ∷ xs) h = one_more x (take n xs) (h 0) (values_take n xs (λ p. h (suc p)))

values_drop : (n : ℕ) (xs : List ℕ) → AreValues xs → AreValues (drop n xs)
values_drop zero xs h = h
values_drop (suc n) [] h = no_value
values_drop (suc n) (x ∷ xs) h = values_drop n xs (λ p. h (suc p))

values_append : (xs ys : List ℕ) → AreValues xs → AreValues ys → AreValues (xs ++ ys)
values_append [] ys h g = g
values_append (x ∷ xs) ys h g = one_more x (xs ++ ys) (h 0) (values_append xs ys (λ p. h (suc p)) g)

values_insert : (xs : List ℕ) (i x : ℕ) → AreValues xs → IsValue x → AreValues (insert xs i x)
values_insert xs i x h v = values_append (take i xs) (x ∷ drop i xs) (values_take i xs h) (one_more x (drop i xs) v (values_drop i xs h))

values_remove : (xs : List ℕ) (i : ℕ) → AreValues xs → AreValues (remove xs i)
values_remove xs i h = values_append (take i xs) (drop (suc i) xs) (values_take i xs h) (values_drop (suc i) xs h)

-- the entries are of cells of the table, and their values are values of cells
abbrev AreGood : (b : ℕ) → List Entry → Type 0
AreGood b act = (e : Entry) → Contains act e → (e.cell < 2 ^ b) × IsValue e.old × IsValue e.new

front_is_good : (b k : ℕ) (act : List Entry) (olds news : List ℕ) → IsBits b → IsFrontAct (2 ^ b) (home_of b k) act olds news → AreValues olds → AreValues news → AreGood b act
front_is_good b k act olds news fits front old new e has =
    let o = front.only e has in
    subst (λ (x : Entry). (x.cell < 2 ^ b) × IsValue x.old × IsValue x.new) (sym o.2) (ahead_below (2 ^ b) (home_of b k) o.0 (omega (arith, low_of b fits k)), old o.0, new o.0)

-- ---- the entries with words for their values

plain_tag : (x : ℕ) → tag_of (plain_number x) ≡ 0
plain_tag x = omega arith

abbrev pub nothing : Entry
nothing = record { cell = 0; old = 0; new = 0 }

worded_fit : (b : ℕ) (act : List Entry) → AreGood b act → AreFit b (map worded act)
worded_fit b act good e has =
    let inside : has.0 < length act = omega (arith, has.1, length-map act worded) in
    let is : e ≡ worded (get_or act has.0 nothing) = sym has.2 ∙ get_or-map worded act has.0 nothing e inside in
    let x : Entry = get_or act has.0 nothing in
    subst (λ (y : Entry). (y.cell < 2 ^ b) × IsPlain y.old × IsPlain y.new) (sym is) ((good x (Contains-get_or act has.0 nothing inside)).0, plain_tag x.old, plain_tag x.new)

worded_act : (act : List Entry) → act_of (map worded act) ≡ act
worded_act [] = refl
worded_act (x ∷ act) = λ i. record { cell = x.cell; old = plain_value x.old i; new = plain_value x.new i } ∷ worded_act act i

-- of so many entries the first n were made words
module _ (entries : List Entry) (n : ℕ) (within : n ≤ length entries) where
  abbrev said : List Entry
  said = map worded (take n entries) ++ drop n entries

  first_said : take n said ≡ map worded (take n entries)
  first_said = take_at (map worded (take n entries)) (drop n entries) n (length-map (take n entries) worded ∙ length-take-le n entries within)

  said_length : n ≤ length said
  said_length = omega (arith, length-append (map worded (take n entries)) (drop n entries), length-map (take n entries) worded, length-take-le n entries within)

  act_said : act_of (take n said) ≡ take n entries
  act_said = ap act_of first_said ∙ worded_act (take n entries)

  first_act : take n (act_of said) ≡ take n entries
  first_act = take-map (λ e. entry e.cell (value_of e.old) (value_of e.new)) n said ∙ act_said

  plan_said : (kind : Kind) (b k : ℕ) (changes : Bool) → 0 < n → AreGood b (take n entries) → Does kind b k changes (take n entries)
      → IsPlan kind b k said (record { entries = n; changes = changes })
  plan_said kind b k changes some good does = record {
    some = some;
    within = said_length;
    act = subst (Does kind b k changes) (sym act_said) does;
    fit = subst (AreFit b) (sym first_said) (worded_fit b (take n entries) good);
  }

good_valued : (b : ℕ) (act : List Entry) → AreGood b act → AreValued act
good_valued b act good e has = let g = good e has in (g.1, g.2)

-- ---- the act that a scan asks for

module _ (b k : ℕ) (fits : IsBits b) (seen : List ℕ) (values : AreValues seen) (entries : List Entry) (n : ℕ) (within : n ≤ length seen) (room : length seen ≤ length entries) where
  part_values : AreValues (take n seen)
  part_values = values_take n seen values

  part_length : length (take n seen) ≡ n
  part_length = length-take-le n seen within

  inside : n ≤ length entries
  inside = omega arith

  good_in : IsKey k → PutsIn b k (take n seen) (take n entries) → AreGood b (take n entries)
  good_in key h = front_is_good b k (take n entries) (take n seen) (inserted_at (cell_of k) (take n seen) h.offset) fits h.front part_values
      (values_insert (take (length (take n seen) - 1) (take n seen)) h.offset (cell_of k) (values_take (length (take n seen) - 1) (take n seen) part_values) (omega arith))

  plan_in : IsKey k → PutsIn b k (take n seen) (take n entries) → IsPlan Insert b k (said entries n inside) (record { entries = n; changes = true })
  plan_in key h = plan_said entries n inside Insert b k true (omega (arith, part_length, h.ends)) (good_in key h) (take n seen, h)

  good_out : TakesOut b k (take n seen) (take n entries) → AreGood b (take n entries)
  good_out h = front_is_good b k (take n entries) (take n seen) (shifted_back (take n seen) h.offset) fits h.front part_values
      (values_insert (remove (take n seen) h.offset) (length (take n seen) - 2) 0 (values_remove (take n seen) h.offset part_values) (omega arith))

  plan_out : TakesOut b k (take n seen) (take n entries) → IsPlan Remove b k (said entries n inside) (record { entries = n; changes = true })
  plan_out h = plan_said entries n inside Remove b k true (omega (arith, part_length, h.ends)) (good_out h) (take n seen, h)

  good_absent : ShowsAbsent b k (take n seen) (take n entries) → AreGood b (take n entries)
  good_absent h = front_is_good b k (take n entries) (take n seen) (take n seen) fits h.front part_values part_values

  plan_absent : ShowsAbsent b k (take n seen) (take n entries) → IsPlan Remove b k (said entries n inside) (record { entries = n; changes = false })
  plan_absent h = plan_said entries n inside Remove b k false (omega (arith, part_length, h.ends)) (good_absent h) (take n seen, h)

  -- what is decided where the first n of the entries x were made words
  module _ (x items : List Entry) (same : x ≡ entries) (made : items ≡ map worded (take n x) ++ drop n x) (d : Decision) where
    items_are : items ≡ said entries n inside
    items_are = made ∙ ap (λ (es : List Entry). map worded (take n es) ++ drop n es) same

    decides_as : (kind : Kind) (changes : Bool) → d ≡ Acts (record { entries = n; changes = changes })
        → Decides kind b k seen (said entries n inside) (Acts (record { entries = n; changes = changes })) → Decides kind b k seen items d
    decides_as kind changes is h = subst (λ (l : List Entry). Decides kind b k seen l d) (sym items_are)
        (subst (Decides kind b k seen (said entries n inside)) (sym is) h)

    pub decides_in : IsKey k → d ≡ Acts (record { entries = n; changes = true }) → PutsIn b k (take n seen) (take n entries) → Decides Insert b k seen items d
    decides_in key is h = decides_as Insert true is (plan_in key h, (within, subst (PutsIn b k (take n seen)) (sym (first_act entries n inside)) h))

    pub decides_out : d ≡ Acts (record { entries = n; changes = true }) → TakesOut b k (take n seen) (take n entries) → Decides Remove b k seen items d
    decides_out is h = decides_as Remove true is (plan_out h, (within, subst (TakesOut b k (take n seen)) (sym (first_act entries n inside)) h))

    pub decides_absent : d ≡ Acts (record { entries = n; changes = false }) → ShowsAbsent b k (take n seen) (take n entries) → Decides Remove b k seen items d
    decides_absent is h = decides_as Remove false is (plan_absent h, (within, subst (ShowsAbsent b k (take n seen)) (sym (first_act entries n inside)) h))

  -- and their values are values of cells
  module _ (x : List Entry) (same : x ≡ entries) where
    valued : AreGood b (take n entries) → AreValued (take n x)
    valued good = subst (λ (l : List Entry). AreValued (take n l)) (sym same) (good_valued b (take n entries) good)

    pub valued_in : IsKey k → PutsIn b k (take n seen) (take n entries) → AreValued (take n x)
    valued_in key h = valued (good_in key h)

    pub valued_out : TakesOut b k (take n seen) (take n entries) → AreValued (take n x)
    valued_out h = valued (good_out h)

    pub valued_absent : ShowsAbsent b k (take n seen) (take n entries) → AreValued (take n x)
    valued_absent h = valued (good_absent h)
