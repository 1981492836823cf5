-- Each change that a step makes in the world is one that steps may make.
use Rattle.std.proofs.Common.{◌≡◌, ◌≢◌, ℕ, suc, ◌<◌, ◌≤◌, sym, refl, ap, ◌∙◌, subst, inl, inr, ⊎_elim, arith}
use Rattle.rh_world.specs.World.{Cell, Control, IsDecided, IsOpened, IsUsed, Ref, World, updated, updated_ref}
use Rattle.rh_world.specs.World.Cell.{desc, mark, plain}
use Rattle.rh_world.specs.World.Control.{succeeded, undecided}
use Rattle.rh_world.specs.Logical.{changed_by}
use Rattle.rh_world.specs.Later.{Later, Steady}
use Rattle.rh_world.specs.Sides.{Side}
use Rattle.rh_world.specs.Rows.{Rows}
use Rattle.rh_world.specs.Moves.{Entries, cell_world, claim_world, decide_world, open_world, place_world, succeed_world}
use Rattle.rh_world.proofs.Conditions.{OpensNext, PlacesNext}
use Rattle.rh_world.proofs.Updated.{decided_opened, undecided_open, updated_at, updated_else, updated_here, updated_ref_at, updated_ref_else}

-- a step that leaves the entries and the marks as they are
steady_state : (w : World) (cell : ℕ → Cell) (control : Ref → Control) (counter act_count : ℕ) (act : ℕ → Ref) (logical : ℕ → ℕ → ℕ)
    → ((j : ℕ) (x : Ref) → cell j ≡ mark x → w.cell j ≡ mark x)
    → ((j : ℕ) (d : Ref) → w.cell j ≡ desc d → control d ≡ undecided → cell j ≡ desc d)
    → ((d : Ref) → IsOpened (w.control d) → IsOpened (control d))
    → ((d : Ref) → IsDecided (w.control d) → control d ≡ w.control d)
    → ((d : Ref) → control d ≡ undecided → w.control d ≡ undecided)
    → w.counter ≤ counter → w.act_count ≤ act_count
    → ((i : ℕ) → i < w.act_count → act i ≡ w.act i)
    → ((n j : ℕ) → n ≤ w.act_count → logical n j ≡ w.logical n j)
    → ((i : ℕ) → w.act_count ≤ i → i < act_count → w.control (act i) ≡ undecided)
    → Steady w (record w { cell = cell; control = control; counter = counter; act_count = act_count; act = act; logical = logical })
steady_state w cell control counter act_count act logical stood stays opened decided und more_claims more_acts acts logicals fresh = record {
  opened = opened;
  size = λ d h. refl;
  target = λ d e h. refl;
  old = λ d e h. refl;
  new = λ d e h. refl;
  acts_before = λ d h. refl;
  decided = decided;
  marks = λ x h. h;
  mark_desc = λ x h. refl;
  mark_entry = λ x h. refl;
  stood = λ j x h e. stood j x e;
  stays = stays;
  workers = refl;
  keys = refl;
  counter = more_claims;
  act_count = more_acts;
  act = acts;
  logical = logicals;
  fresh = fresh;
  was_undecided = λ d h u. und d u;
}

-- a cell alone changes: from a mark, or from a decided descriptor, to no mark
pub steady_cell : (w : World) (c : ℕ) (k : Cell) → ((x : Ref) → k ≢ mark x)
    → ((d : Ref) → w.cell c ≡ desc d → IsDecided (w.control d)) → Steady w (cell_world w c k)
steady_cell w c k clean over =
    steady_state w (updated w.cell c k) w.control w.counter w.act_count w.act w.logical
    (λ j x e. ⊎_elim (λ p. absurd (clean x (sym p.1 ∙ e))) (λ p. sym p.1 ∙ e) (updated_at w.cell c j k))
    (λ j d e u. ⊎_elim (λ p. absurd (undecided_open _ u (over d (ap w.cell (sym p.0) ∙ e)))) (λ p. p.1 ∙ e) (updated_at w.cell c j k))
    (λ d h. h) (λ d h. refl) (λ d u. u) (omega arith) (omega arith) (λ i h. refl) (λ n j h. refl) (λ i a b. absurd (omega arith))

opened_not : (w : World) (side : ℕ → Side) (d f : Ref) → Rows w side → d.number ≡ w.next_number d.worker
    → IsOpened (w.control f) → f ≢ d
opened_not w side d f rows next h e =
    let l : f.number < w.next_number f.worker = rows.below f h in
    let m : d.number < w.next_number d.worker = subst (λ (x : Ref). x.number < w.next_number x.worker) e l in
    absurd (omega arith)

pub steady_open : (w : World) (side : ℕ → Side) (d : Ref) (p : Entries) → Rows w side → OpensNext w side d p
    → Steady w (open_world w d p)
steady_open w side d p rows can =
    let other : (f : Ref) → IsOpened (w.control f) → f ≢ d = λ f h. opened_not w side d f rows can.next h in
    record {
      opened = λ f h e. h (sym (updated_ref_else w.control d f undecided (other f h)) ∙ e);
      size = λ f h. updated_ref_else w.size d f p.size (other f h);
      target = λ f e h. ap (λ (g : ℕ → ℕ). g e) (updated_ref_else w.target d f p.target (other f h));
      old = λ f e h. ap (λ (g : ℕ → ℕ). g e) (updated_ref_else w.old d f p.old (other f h));
      new = λ f e h. ap (λ (g : ℕ → ℕ). g e) (updated_ref_else w.new d f p.new (other f h));
      acts_before = λ f h. updated_ref_else w.acts_before d f w.act_count (other f h);
      decided = λ f h. updated_ref_else w.control d f undecided (other f (decided_opened _ h));
      marks = λ x h. h;
      mark_desc = λ x h. refl;
      mark_entry = λ x h. refl;
      stood = λ j x h e. e;
      stays = λ j f e u. e;
      workers = refl;
      keys = refl;
      counter = omega arith;
      act_count = omega arith;
      act = λ i h. refl;
      logical = λ n j h. refl;
      fresh = λ i a b. absurd (omega arith);
      was_undecided = λ f h u. sym (updated_ref_else w.control d f undecided (other f h)) ∙ u;
    }

mark_inj : (x y : Ref) → mark x ≡ mark y → x ≡ y
mark_inj x y e = cc

pub steady_place : (w : World) (side : ℕ → Side) (x d : Ref) (e : ℕ) → Rows w side → PlacesNext w side x d e
    → Steady w (place_world w x d e)
steady_place w side x d e rows can =
    let other : (y : Ref) → IsUsed w y → y ≢ x = λ y h q.
    let n : x.number ≡ w.marks_used x.worker = can.next in
    let m : x.number < w.marks_used x.worker = subst (IsUsed w) q h in absurd (omega arith) in
    record {
      opened = λ f h. h;
      size = λ f h. refl;
      target = λ f e h. refl;
      old = λ f e h. refl;
      new = λ f e h. refl;
      acts_before = λ f h. refl;
      decided = λ f h. refl;
      marks = λ y h. ⊎_elim
          (λ (p : (y.worker ≡ x.worker) × (updated w.marks_used x.worker (suc x.number) y.worker ≡ suc x.number)).
          let a : y.number < w.marks_used x.worker = subst (λ (v : ℕ). y.number < w.marks_used v) p.0 h in
          let n : x.number ≡ w.marks_used x.worker = can.next in
          let q : updated w.marks_used x.worker (suc x.number) y.worker ≡ suc x.number = p.1 in omega arith)
          (λ p. subst (λ (v : ℕ). y.number < v) (sym p.1) h) (updated_at w.marks_used x.worker y.worker (suc x.number));
      mark_desc = λ y h. updated_ref_else w.mark_desc x y d (other y h);
      mark_entry = λ y h. updated_ref_else w.mark_entry x y e (other y h);
      stood = λ j y h q. ⊎_elim (λ p. absurd (other y h (mark_inj y x (sym q ∙ p.1)))) (λ p. sym p.1 ∙ q) (updated_at w.cell (w.target d e) j (mark x));
      stays = λ j f q u. ⊎_elim (λ (p : (j ≡ w.target d e) × (updated w.cell (w.target d e) (mark x) j ≡ mark x)). let r : plain (w.old d e) ≡ desc f = sym can.found ∙ (ap w.cell (sym p.0) ∙ q) in cc) (λ p. p.1 ∙ q) (updated_at w.cell (w.target d e) j (mark x));
      workers = refl;
      keys = refl;
      counter = omega arith;
      act_count = omega arith;
      act = λ i h. refl;
      logical = λ n j h. refl;
      fresh = λ i a b. absurd (omega arith);
      was_undecided = λ f h u. u;
    }

-- d is decided as r; where acts come behind those there, they are of d
steady_control : (w : World) (d : Ref) (r : Control) (act_count : ℕ) (act : ℕ → Ref) (logical : ℕ → ℕ → ℕ)
    → w.control d ≡ undecided → IsDecided r → w.act_count ≤ act_count
    → ((i : ℕ) → i < w.act_count → act i ≡ w.act i)
    → ((n j : ℕ) → n ≤ w.act_count → logical n j ≡ w.logical n j)
    → ((i : ℕ) → w.act_count ≤ i → i < act_count → act i ≡ d)
    → Steady w (record w { control = updated_ref w.control d r; act_count = act_count; act = act; logical = logical })
steady_control w d r act_count act logical und dec more acts logicals fresh =
    let other : (f : Ref) → IsDecided (w.control f) → f ≢ d = λ f h q. undecided_open (w.control f) (ap w.control q ∙ und) h in
    steady_state w w.cell (updated_ref w.control d r) w.counter act_count act logical (λ j x e. e) (λ j f e u. e)
    (λ f h. ⊎_elim (λ p q. decided_opened r dec (sym p.1 ∙ q)) (λ p q. h (sym p.1 ∙ q)) (updated_ref_at w.control d f r))
    (λ f h. updated_ref_else w.control d f r (other f h))
    (λ f u. ⊎_elim (λ p. ap w.control p.0 ∙ und) (λ p. sym p.1 ∙ u) (updated_ref_at w.control d f r))
    (omega arith) more acts logicals (λ i a b. ap w.control (fresh i a b) ∙ und)

-- d is decided as r, and not as a success
pub steady_decide : (w : World) (d : Ref) (r : Control) → w.control d ≡ undecided → IsDecided r → r ≢ succeeded
    → Steady w (decide_world w d r)
steady_decide w d r und dec fail = steady_control w d r w.act_count w.act w.logical und dec (omega arith) (λ i h. refl) (λ n j h. refl) (λ i a b. absurd (omega arith))

-- d succeeds
pub steady_succeed : (w : World) (d : Ref) → w.control d ≡ undecided → Steady w (succeed_world w d)
steady_succeed w d und =
    steady_control w d succeeded (succeed_world w d).act_count (succeed_world w d).act (succeed_world w d).logical und tt (omega arith)
    (λ i h. updated_else w.act w.act_count i d (λ q. absurd (omega arith)))
    (λ n j h. ap (λ (g : ℕ → ℕ). g j) (updated_else w.logical (suc w.act_count) n (changed_by w d (w.size d) (w.logical w.act_count)) (λ q. absurd (omega arith))))
    (λ i a b. updated_here w.act w.act_count i d (omega arith))

-- the counter alone changes, and grows
steady_counter : (w : World) (n : ℕ) → w.counter ≤ n → Steady w (record w { counter = n })
steady_counter w n more =
    steady_state w w.cell w.control n w.act_count w.act w.logical (λ j x e. e) (λ j d e u. e)
    (λ d h. h) (λ d h. refl) (λ d u. u) more (omega arith) (λ i h. refl) (λ n j h. refl) (λ i a b. absurd (omega arith))

pub steady_same : (w : World) → Steady w w
steady_same w = steady_counter w w.counter (omega arith)

pub steady_claim : (w : World) → Steady w (claim_world w)
steady_claim w = steady_counter w (claim_world w).counter (omega arith)

pub later_cell : (w : World) (c : ℕ) (k : Cell) → ((x : Ref) → k ≢ mark x)
    → ((d : Ref) → w.cell c ≡ desc d → IsDecided (w.control d)) → ((d : Ref) → k ≡ desc d → w.control d ≢ succeeded)
    → Later w (cell_world w c k)
later_cell w c k clean over fails = record {
  steady = steady_cell w c k clean over;
  came = λ j d o e. ⊎_elim (λ p. inr (fails d (sym p.1 ∙ e))) (λ p. inl (sym p.1 ∙ e)) (updated_at w.cell c j k);
  late = λ j x h e s. s;
}

pub later_open : (w : World) (side : ℕ → Side) (d : Ref) (p : Entries) → Rows w side → OpensNext w side d p
    → Later w (open_world w d p)
later_open w side d p rows can = record {
  steady = steady_open w side d p rows can;
  came = λ j f o q. inl q;
  late = λ j x h e s. sym (updated_ref_else w.control d (w.mark_desc x) undecided (opened_not w side d (w.mark_desc x) rows can.next (rows.used x h).0)) ∙ s;
}

pub later_place : (w : World) (side : ℕ → Side) (x d : Ref) (e : ℕ) → Rows w side → PlacesNext w side x d e
    → Later w (place_world w x d e)
later_place w side x d e rows can = record {
  steady = steady_place w side x d e rows can;
  came = λ j f o q. ⊎_elim (λ p. let r : mark x ≡ desc f = sym p.1 ∙ q in cc) (λ p. inl (sym p.1 ∙ q)) (updated_at w.cell (w.target d e) j (mark x));
  late = λ j y h q s. s;
}

pub later_decide : (w : World) (d : Ref) (r : Control) → w.control d ≡ undecided → IsDecided r → r ≢ succeeded
    → Later w (decide_world w d r)
later_decide w d r und dec fail = record {
  steady = steady_decide w d r und dec fail;
  came = λ j f o q. inl q;
  late = λ j y h q s. ⊎_elim (λ p. absurd (fail (sym p.1 ∙ s))) (λ p. sym p.1 ∙ s) (updated_ref_at w.control d (w.mark_desc y) r);
}

-- each of its cells holds d, so no mark of d stands in a cell
pub later_succeed : (w : World) (side : ℕ → Side) (d : Ref) → Rows w side → w.control d ≡ undecided
    → ((e : ℕ) → e < w.size d → w.cell (w.target d e) ≡ desc d) → Later w (succeed_world w d)
later_succeed w side d rows und all = record {
  steady = steady_succeed w d und;
  came = λ j f o q. inl q;
  late = λ j y h q s. ⊎_elim
      (λ (p : (w.mark_desc y ≡ d) × (updated_ref w.control d succeeded (w.mark_desc y) ≡ succeeded)).
      let m = rows.marks j y q in
      let inside : w.mark_entry y < w.size d = subst (λ (f : Ref). w.mark_entry y < w.size f) p.0 (rows.used y h).1 in
      let here : w.target d (w.mark_entry y) ≡ j = ap (λ (f : Ref). w.target f (w.mark_entry y)) (sym p.0) ∙ m.here in
      let r : mark y ≡ desc d = sym q ∙ (ap w.cell (sym here) ∙ all (w.mark_entry y) inside) in cc)
      (λ p. sym p.1 ∙ s) (updated_ref_at w.control d (w.mark_desc y) succeeded);
}

pub later_same : (w : World) → Later w w
later_same w = record { steady = steady_same w; came = λ j f o q. inl q; late = λ j x h e s. s }

pub later_claim : (w : World) → Later w (claim_world w)
later_claim w = record { steady = steady_claim w; came = λ j f o q. inl q; late = λ j x h e s. s }
