-- What the rule says of what is kept.
use Rattle.std.proofs.Common.{◌≡◌, ℕ, ◌<◌, ◌⊎◌, Bool, true, false, true≢false, cond, ◌&&◌, ◌||◌, List, [], ◌∷◌, filter, length, sym, refl, ap, ◌∙◌, subst, inl, inr, ⊎_elim, Some, None}
use Rattle.rh_tagword.specs.Word.{tag_of}
use Rattle.rh_world.specs.World.{Cell, Control, HasFailed, In, Ref, World, is_ref}
use Rattle.rh_world.specs.World.Control.{succeeded}
use Rattle.rh_world.specs.Facts.{Fact}
use Rattle.rh_world.specs.Facts.Fact.{decided, failed_at}
use Rattle.rh_world.specs.Acts.{cells_after, is_success}
use Rattle.rh_world.specs.Laws.{Foretold}
use Rattle.rh_world.specs.Sides.{Side}
use Rattle.rh_world.proofs.ActsKept.{succeeded_opened}
use Rattle.rh_world.proofs.EndsKept.{claims_share_out, one_order, prefixes_say, rest_is_settled}
use Rattle.rh_world.proofs.OwnList.{success_yes}
use Rattle.rh_world.proofs.Tests.{both, is_ref_yes}
use Rattle.rh_world.proofs.Updated.{updated_ref_here}
use Rattle.rh_words.specs.declared.shape.Shape.{Shape}
use Rattle.rh_words.specs.View.{OwnDesc, View}
use Rattle.rh_words.specs.Words.{without_entry}
use Rattle.rh_rule.specs.Represents.{IsCell, IsOpenedSo, cell_number, numbers_of}
use Rattle.rh_rule.specs.Core.{Core}
use Rattle.rh_rule.specs.Rest.{HasMissed, TableRests, TableTells, WorldTells, is_noted_success, says_success}
use Rattle.rh_rule.proofs.Deciders.{read_as_success}
use Rattle.rh_rule.proofs.Erasing.{in_decided, in_whole}
use Rattle.rh_rule.proofs.WipesKept.{all_rest}

-- an own descriptor that failed at an entry
missed_so : (w : World) (side : ℕ → Side) (says : Foretold w side) (v : ℕ) (o : OwnDesc) (e : ℕ)
    → IsOpenedSo w (record { worker = v; number = o.number }) o → HasFailed w (record { worker = v; number = o.number }) e
    → HasMissed w side v o e (says.failed_acts (record { worker = v; number = o.number }))
missed_so w side says v o e so fails =
    let d : Ref = record { worker = v; number = o.number } in
    let t = says.fails d e fails in
    let entry : e < length o.entries = subst (λ (n : ℕ). e < n) so.size t.0 in
    record {
      entry = entry;
      prefix = t.1;
      differs = λ q. t.2 (ap (λ (c : ℕ). cells_after w (says.failed_acts d) c) (so.targets e entry) ∙ q ∙ sym (so.olds e entry));
      read_before = λ k i le. says.read_then_failed d e k fails i le;
      read_after = λ k i lt. says.failed_then_read d e k fails i lt;
    }

world_tells : (w : World) (z : Shape) (words : List ℕ) (keep : ℕ → View) (core : Core w z words keep) → WorldTells w z keep core.side
world_tells w z words keep core =
    let m = core.represents in
    let order = one_order w core.side core.rule in
    let failed : (v : ℕ) (d : Ref) (e : ℕ) → v < z.workers → In (failed_at d e) (keep v).side.facts → HasFailed w d e = λ v d e lt i.
    core.rule.rows.facts v (failed_at d e) (in_whole (failed_at d e) (core.side v) tt (subst (λ (s : Side). In (failed_at d e) s.facts) (m.kept v lt).side_is i)) refl in
    record {
      order = order;
      foretold = prefixes_say w core.side core.rule;
      shared = claims_share_out w core.side core.rule;
      kept = λ v lt. (m.kept v lt).side_is;
      opening = λ v c lt inside. sym ((m.kept v lt).opening c inside);
      opened = λ v o lt i. (m.kept v lt).opened o i;
      results = λ v d k lt i.
          let j = in_decided d k (core.side v) (subst (λ (s : Side). In (decided d k) s.facts) (m.kept v lt).side_is i) in
          ap without_entry (core.rule.rows.facts v (decided d j.0) j.2 refl).1 ∙ j.1;
      failed = failed;
      missed = λ v o e lt j i. missed_so w core.side (prefixes_say w core.side core.rule) v o e ((m.kept v lt).opened o j) (failed v (record { worker = v; number = o.number }) e lt i);
      own = λ v lt. let h = m.kept v lt in order.own v _ h.falling h.all;
      workers = λ i lt. (m.controls.descs (w.act i) (succeeded_opened (w.control (w.act i)) (order.succeeded i lt))).0;
    }

pub tells : TableTells
tells w z words keep core = world_tells w z words keep core

-- ---- the acts that were noted

or_true : (a b : Bool) → (a || b) ≡ true → (a ≡ true) ⊎ (b ≡ true)
or_true true b e = inl refl
or_true false b e = inr e

true_or : (a b : Bool) → (a ≡ true) ⊎ (b ≡ true) → (a || b) ≡ true
true_or true b e = refl
true_or false b e = ⊎_elim (λ q. absurd (true≢false (sym q))) (λ q. q) e

says_so : (n : Fact) (d : Ref) → says_success n d ≡ true → decided d succeeded ≡ n
says_so (decided f k) d e = let q = both (is_ref f d) (is_success k) e in λ i. decided (sym (is_ref_yes f d q.0) i) (sym (success_yes k q.1) i)
says_so _ d e = absurd (true≢false (sym e))

ref_self : (d : Ref) → is_ref d d ≡ true
ref_self d = ⊎_elim (λ p. p) (λ q. absurd (is_ref_no d d q refl)) (bool_cases (is_ref d d))
  where
    bool_cases : (b : Bool) → (b ≡ true) ⊎ (b ≡ false)
    bool_cases true = inl refl
    bool_cases false = inr refl

    is_ref_no : (x y : Ref) → is_ref x y ≡ false → x ≡ y → ⊥
    is_ref_no x y e p = true≢false (sym (updated_ref_here (λ q. false) y x true p) ∙ only (is_ref x y) ∙ e)
      where
        only : (b : Bool) → cond b true false ≡ b
        only true = refl
        only false = refl

pub noted_in : (ns : List Fact) (d : Ref) → is_noted_success ns d ≡ true → In (decided d succeeded) ns
noted_in [] d e = absurd (true≢false (sym e))
noted_in (n ∷ ns) d e = ⊎_elim (λ q. inl (says_so n d q)) (λ q. inr (noted_in ns d q)) (or_true (says_success n d) (is_noted_success ns d) e)

pub in_noted : (ns : List Fact) (d : Ref) → In (decided d succeeded) ns → is_noted_success ns d ≡ true
in_noted [] d i = absurd i
in_noted (n ∷ ns) d i = true_or (says_success n d) (is_noted_success ns d)
    (⊎_elim (λ e. inl (ap (λ (m : Fact). says_success m d) (sym e) ∙ ap (λ (b : Bool). b && true) (ref_self d))) (λ j. inr (in_noted ns d j)) i)

pub same_bool : (a b : Bool) → (a ≡ true → b ≡ true) → (b ≡ true → a ≡ true) → a ≡ b
same_bool true b f g = sym (f refl)
same_bool false true f g = g refl
same_bool false false f g = refl

-- a control that is noted is noted as a success exactly where it is one
pub success_noted : (ns : List Fact) (d : Ref) (c : Control) → ((r : Control) → In (decided d r) ns → c ≡ r)
    → (r : Control) × In (decided d r) ns → is_success c ≡ is_noted_success ns d
success_noted ns d c true_of noted = same_bool (is_success c) (is_noted_success ns d)
    (λ e. in_noted ns d (subst (λ (k : Control). In (decided d k) ns) (sym (true_of noted.0 noted.1) ∙ success_yes c e) noted.1))
    (λ e. ap is_success (true_of succeeded (noted_in ns d e)))

-- a filter by what is so of each
filtered : (f : ℕ → Bool) (g : OwnDesc → Bool) (os : List OwnDesc) → ((o : OwnDesc) → In o os → f o.number ≡ g o)
    → filter f (numbers_of os) ≡ numbers_of (filter g os)
filtered f g [] same = refl
filtered f g (o ∷ os) same =
    ap (λ (b : Bool). cond b (o.number ∷ filter f (numbers_of os)) (filter f (numbers_of os))) (same o (inl refl))
    ∙ over (g o) (filtered f g os (λ p i. same p (inr i)))
  where
    over : (b : Bool) → filter f (numbers_of os) ≡ numbers_of (filter g os)
        → cond b (o.number ∷ filter f (numbers_of os)) (filter f (numbers_of os)) ≡ numbers_of (cond b (o ∷ filter g os) (filter g os))
    over true e = ap (λ (l : List ℕ). o.number ∷ l) e
    over false e = e

pub rests : TableRests
rests w z words keep core rest =
    let m = core.represents in
    let settled = rest_is_settled w core.side core.rule (all_rest w z words keep core rest) in
    let t = world_tells w z words keep core in
    record {
      tells = t;
      cells = λ c lt. m.cells.cells c lt ∙ ap cell_number (settled.cells c);
      plain = λ c lt. ap (λ (u : ℕ). tag_of u) (m.cells.cells c lt ∙ ap cell_number (settled.cells c)) ∙ subst (λ (k : Cell). IsCell z k) (settled.cells c) (m.cells.standing c lt);
      acts = λ v lt.
          let h = m.kept v lt in
          t.own v lt ∙ filtered (λ n. is_success (w.control (record { worker = v; number = n }))) (λ o. is_noted_success (keep v).side.facts (record { worker = (keep v).worker; number = o.number })) (keep v).opened
          (λ o i.
          let d : Ref = record { worker = v; number = o.number } in
          sym (read_as_success (w.control d)) ∙ success_noted (keep v).side.facts d (without_entry (w.control d)) (λ k j. t.results v d k lt j)
          (⊎_elim (λ q. let bad : None ≡ Some o.number = sym (rest.rest v lt).closed ∙ q in cc) (λ q. q) (h.over o i))
          ∙ ap (is_noted_success (keep v).side.facts) (λ j. record { worker = sym h.worker j; number = o.number }));
    }

-- ---- what is noted as succeeded

-- no two results are noted of one descriptor
abbrev pub OneResult : List Fact → Type 0
OneResult ns = (d : Ref) (j k : Control) → In (decided d j) ns → In (decided d k) ns → j ≡ k

-- of what is noted as decided, no more is noted as succeeded later
pub noted_same : (ns more : List Fact) (d : Ref) (k : Control) → ((n : Fact) → In n ns → In n more) → OneResult more → In (decided d k) ns
    → is_noted_success more d ≡ is_noted_success ns d
noted_same ns more d k grow one i = same_bool (is_noted_success more d) (is_noted_success ns d)
    (λ e. in_noted ns d (subst (λ (r : Control). In (decided d r) ns) (one d k succeeded (grow (decided d k) i) (noted_in more d e)) i))
    (λ e. in_noted more d (grow (decided d succeeded) (noted_in ns d e)))

pub noted_no : (ns : List Fact) (d : Ref) (k : Control) → OneResult ns → In (decided d k) ns → is_success k ≡ false → is_noted_success ns d ≡ false
noted_no ns d k one i fails = same_bool (is_noted_success ns d) false
    (λ e. sym fails ∙ ap is_success (one d k succeeded i (noted_in ns d e)))
    (λ e. absurd (true≢false (sym e)))

-- two tests that agree at each element keep the same
pub same_filtered : {A : Type 0} (p q : A → Bool) (xs : List A) → ((x : A) → In x xs → p x ≡ q x) → filter p xs ≡ filter q xs
same_filtered p q [] same = refl
same_filtered p q (x ∷ xs) same =
    ap (λ b. cond b (x ∷ filter p xs) (filter p xs)) (same x (inl refl))
    ∙ ap (λ ys. cond (q x) (x ∷ ys) ys) (same_filtered p q xs (λ y i. same y (inr i)))
