-- What an act leaves in each cell.
use Rattle.std.proofs.Common.{◌≡◌, ◌≢◌, ℕ, zero, suc, ◌<◌, ◌⊎◌, inl, inr, refl, sym, ap, ◌∙◌, arith, List, [], ◌∷◌, length, get_or, take, subst, set, length-set, get_or-set_same, get_or-set_other}
use Rattle.std.specs.List.{Contains}
use Rattle.rh_layout.specs.declared.entry.Entry.{Entry}
use Rattle.rh_acts.specs.Act.{Act, apply_act, AllMeet, IsRising}

-- ---- membership, one element at a time
pub contains_head : {X : Type 0} → (x : X) (xs : List X) → Contains (x ∷ xs) x
contains_head x xs = (0, omega arith, refl)

pub contains_tail : {X : Type 0} → (x y : X) (xs : List X) → Contains xs y → Contains (x ∷ xs) y
contains_tail x y xs h = (suc h.0, omega (arith, h.1), h.2)

pub contains_cases : {X : Type 0} → (x y : X) (xs : List X) → Contains (x ∷ xs) y → (x ≡ y) ⊎ Contains xs y
contains_cases x y xs h = go h.0 h.1 h.2
  where
    go : (k : ℕ) → k < length (x ∷ xs) → get_or (x ∷ xs) k y ≡ y → (x ≡ y) ⊎ Contains xs y
    go zero l e = inl e
    go (suc k) l e = inr (k, omega arith, e)

pub contains_none : {X : Type 0} → (y : X) → Contains [] y → ⊥
contains_none y h = omega (arith, h.1)

-- ---- an act
rising_tail : (e : Entry) (es : List Entry) → IsRising (e ∷ es) → IsRising es
rising_tail e es up = λ i j d l m. up (suc i) (suc j) d (omega arith) (omega arith)

rising_head : (e : Entry) (es : List Entry) → IsRising (e ∷ es) → (f : Entry) → Contains es f → e.cell < f.cell
rising_head e es up f h = let got : e.cell < (get_or es h.0 f).cell = up 0 (suc h.0) f (omega arith) (omega (arith, h.1)) in rw h.2 at got

pub apply_len : (act : List Entry) (cells : List ℕ) → length (apply_act act cells) ≡ length cells
apply_len [] cells = refl
apply_len (e ∷ es) cells = apply_len es (set cells e.cell e.new) ∙ length-set cells e.cell e.new

-- a cell that no entry names stays
pub apply_other : (act : List Entry) (cells : List ℕ) (c : ℕ) → ((e : Entry) → Contains act e → e.cell ≡ c → ⊥) → get_or (apply_act act cells) c 0 ≡ get_or cells c 0
apply_other [] cells c none = refl
apply_other (e ∷ es) cells c none =
    let ne : c ≢ e.cell = λ q. none e (contains_head e es) (sym q) in
    apply_other es (set cells e.cell e.new) c (λ f h. none f (contains_tail e f es h)) ∙ get_or-set_other cells e.cell c e.new 0 ne

-- an entry's cell has its new
pub apply_at : (act : List Entry) (cells : List ℕ) (e : Entry) → IsRising act → Contains act e → e.cell < length cells → get_or (apply_act act cells) e.cell 0 ≡ e.new
apply_at [] cells e up h l = absurd (contains_none e h)
apply_at (f ∷ es) cells e up h l =
    elim (contains_cases f e es h) [
      | inl is ↦
          let up_f = rising_head f es up in
          apply_other es (set cells f.cell f.new) e.cell (λ g in' same. omega (arith, up_f g in', ap (λ (x : Entry). x.cell) is))
          ∙ ap (λ (x : Entry). get_or (set cells x.cell x.new) e.cell 0) is
          ∙ get_or-set_same cells e.cell e.new 0 l
      | inr in' ↦ apply_at es (set cells f.cell f.new) e (rising_tail f es up) in' (omega (arith, length-set cells f.cell f.new))
    ]

-- ---- the first n acts

pub all_meet_take : (n : ℕ) (acts : List Act) (cells : List ℕ) → AllMeet acts cells → AllMeet (take n acts) cells
all_meet_take zero acts cells all = tt
all_meet_take (suc n) [] cells all = tt
all_meet_take (suc n) (x ∷ xs) cells all = (all.0, all_meet_take n xs (apply_act x cells) all.1)

pub contains_take : {X : Type 0} (n : ℕ) (xs : List X) (x : X) → Contains (take n xs) x → Contains xs x
contains_take zero xs x h = absurd (contains_none x h)
contains_take (suc n) [] x h = h
contains_take (suc n) (y ∷ ys) x h = elim (contains_cases y x (take n ys) h) [ inl e ↦ subst (λ z. Contains (y ∷ ys) z) e (contains_head y ys) | inr later ↦ contains_tail y x ys (contains_take n ys x later) ]
