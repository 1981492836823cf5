-- A Claim keeps the claims, and so does each other step, which makes none.
use Rattle.std.proofs.Common.{◌≡◌, ◌≢◌, ℕ, zero, suc, eqb, ◌+◌, ◌<◌, ◌≤◌, ◌⊎◌, Bool, true, false, cond, ◌&&◌, ◌||◌, List, [], ◌∷◌, sym, refl, ap, ◌∙◌, subst, inl, inr, ⊎_elim, arith, Some, None, Option}
use Rattle.std.proofs.lemmas.Bool.{le-leb, lt-leb}
use native.Mathlib.Decide.{dec_lt}
use Rattle.rh_world.specs.World.{Cell, Control, In, IsFalling, Ref, World, is_ref, updated}
use Rattle.rh_world.specs.World.Cell.{desc, mark, plain}
use Rattle.rh_world.specs.World.Control.{failed, succeeded, undecided, unused, withdrawn}
use Rattle.rh_world.specs.Facts.{Fact}
use Rattle.rh_world.specs.Facts.Fact.{installed, met, mismatch}
use Rattle.rh_world.specs.Sides.{Side, claim_side, close_side, is_number, note_side, open_side, paid_side, release_side}
use Rattle.rh_world.specs.Claims.{Claims, ends_found, found_end}
use Rattle.rh_world.specs.Moves.{Entries, IsAllowed, MayClaim, Move, cell_noted, cell_world, claim_world, control_noted, covers, decided_world, is_desc, is_mark, is_plain, mark_noted, next_desc, next_mark, note_all, note_entries, place_noted, place_world, placed_noted, release_noted, released_cell, settle_noted, settled_cell, side_after, sides_after, world_after}
use Rattle.rh_world.specs.Moves.Move.{claims, decides, learns, opens, places, reads_cell, reads_control, reads_mark_control, releases, settles}
use Rattle.rh_world.proofs.RowsKept.{by_side, field_same}
use Rattle.rh_world.proofs.Updated.{updated_at, updated_here}

-- the counter is as it was
pub record Uncounted (w v : World) : Type 0 where
  pub counter : v.counter ≡ w.counter
  pub keys : v.keys ≡ w.keys
  pub workers : v.workers ≡ w.workers

uncounted : (w : World) → Uncounted w w
uncounted w = record { counter = refl; keys = refl; workers = refl }

ends_same : (keys : ℕ) (side side' : ℕ → Side) → ((u : ℕ) → (side' u).claims ≡ (side u).claims) → (n : ℕ)
    → ends_found keys side' n ≡ ends_found keys side n
ends_same keys side side' same zero = refl
ends_same keys side side' same (suc n) =
    ap (λ (l : List ℕ). cond (found_end keys l) (suc (ends_found keys side' n)) (ends_found keys side' n)) (same n)
    ∙ ap (λ (k : ℕ). cond (found_end keys (side n).claims) (suc k) k) (ends_same keys side side' same n)

pub claims_stay : (w v : World) (side side' : ℕ → Side) → Uncounted w v
    → ((u : ℕ) → (side' u).claims ≡ (side u).claims) → Claims w side → Claims v side'
claims_stay w v side side' u same c =
    let to : (x n : ℕ) → In n (side x).claims → In n (side' x).claims = λ x n h. subst (In n) (sym (same x)) h in
    let back : (x n : ℕ) → In n (side' x).claims → In n (side x).claims = λ x n h. subst (In n) (same x) h in
    record {
      all = λ n h. let t = c.all n (subst (λ (k : ℕ). n < k) u.counter h) in (t.0, subst (λ (k : ℕ). t.0 < k) (sym u.workers) t.1, to t.0 n t.2);
      below = λ x n h. subst (λ (k : ℕ). n < k) (sym u.counter) (c.below x n (back x n h));
      one_worker = λ x y n h i. c.one_worker x y n (back x n h) (back y n i);
      once = λ x. subst IsFalling (sym (same x)) (c.once x);
      ends = subst (λ (k : ℕ × (ℕ × ℕ)). k.0 ≤ k.1.0 + k.1.1)
          (λ i. (sym u.counter i, (sym u.keys i, (sym (ap (λ (k : ℕ). ends_found k side' v.workers) u.keys ∙ (ap (λ (k : ℕ). ends_found w.keys side' k) u.workers ∙ ends_same w.keys side side' same w.workers)) i)))) c.ends;
    }

-- what other steps note
entries_claims : (s : Side) (d : Ref) (p : Entries) (n : ℕ) → (note_entries s d p n).claims ≡ s.claims
entries_claims s d p zero = refl
entries_claims s d p (suc n) = entries_claims s d p n

cell_claims : (s : Side) (c : ℕ) (k : Cell) (q : Option ℕ) (acts next : ℕ) → (cell_noted s c k q acts next).claims ≡ s.claims
cell_claims s c (plain u) None acts next = refl
cell_claims s c (plain u) (Some p) acts next = refl
cell_claims s c (mark x) q acts next = refl
cell_claims s c (desc d) q acts next = refl

control_claims : (s : Side) (d : Ref) (k : Control) → (control_noted s d k).claims ≡ s.claims
control_claims s d unused = refl
control_claims s d _ = refl

mark_claims : (s : Side) (x : Ref) (c : ℕ) (k : Control) → (mark_noted s x c k).claims ≡ s.claims
mark_claims s x c unused = refl
mark_claims s x c _ = refl

either_claims : (s t r : Side) (b : Bool) → s.claims ≡ r.claims → t.claims ≡ r.claims → (cond b s t).claims ≡ r.claims
either_claims s t r true p q = p
either_claims s t r false p q = q

place_claims : (s : Side) (x d : Ref) (e c old : ℕ) (k : Cell) (acts : ℕ) → (place_noted s x d e c old k acts).claims ≡ s.claims
place_claims s x d e c old (plain u) acts = either_claims (placed_noted s x d e c) (note_side s (mismatch d e acts)) s (eqb u old) refl refl
place_claims s x d e c old (mark y) acts = refl
place_claims s x d e c old (desc f) acts = either_claims (note_side s (installed d e)) (note_side s (met f)) s (is_ref f d) refl refl

settle_claims : (s : Side) (d : Ref) (e c : ℕ) (b : Bool) → (settle_noted s d e c b).claims ≡ s.claims
settle_claims s d e c true = refl
settle_claims s d e c false = refl

release_claims : (s : Side) (e n : ℕ) → (release_noted s e n).claims ≡ s.claims
release_claims s e n = either_claims (close_side (release_side s e)) (release_side s e) s (covers n (e ∷ s.released)) refl refl

decided_uncounted : (w : World) (d : Ref) (k r : Control) → Uncounted w (decided_world w d k r)
decided_uncounted w d unused r = uncounted w
decided_uncounted w d undecided unused = uncounted w
decided_uncounted w d undecided undecided = uncounted w
decided_uncounted w d undecided succeeded = record { counter = refl; keys = refl; workers = refl }
decided_uncounted w d undecided withdrawn = record { counter = refl; keys = refl; workers = refl }
decided_uncounted w d undecided (failed e by) = record { counter = refl; keys = refl; workers = refl }
decided_uncounted w d succeeded r = uncounted w
decided_uncounted w d withdrawn r = uncounted w
decided_uncounted w d (failed e by) r = uncounted w

either_uncounted : (w v : World) (b : Bool) → Uncounted w v → Uncounted w (cond b v w)
either_uncounted w v true u = u
either_uncounted w v false u = uncounted w

-- a Claim
found_end_not : (keys : ℕ) (l : List ℕ) → ((n : ℕ) → In n l → n < keys) → found_end keys l ≡ false
found_end_not keys [] h = refl
found_end_not keys (n ∷ ns) h = ap (λ (b : Bool). b || found_end keys ns) (lt-leb keys n (h n (inl refl))) ∙ found_end_not keys ns (λ m i. h m (inr i))

-- the one worker that now found the end is counted once more
ends_more : (keys : ℕ) (side : ℕ → Side) (who : ℕ) (s : Side) → found_end keys (side who).claims ≡ false
    → found_end keys s.claims ≡ true → (n : ℕ)
    → ((who < n) × (ends_found keys (updated side who s) n ≡ suc (ends_found keys side n))) ⊎ ((n ≤ who) × (ends_found keys (updated side who s) n ≡ ends_found keys side n))
ends_more keys side who s before after zero = inr (omega arith, refl)
ends_more keys side who s before after (suc n) =
    let step : (b : Bool) (k : ℕ) → found_end keys (updated side who s n).claims ≡ b → ends_found keys (updated side who s) n ≡ k → ends_found keys (updated side who s) (suc n) ≡ cond b (suc k) k =
    λ b k p q. ap (λ (c : Bool). cond c (suc (ends_found keys (updated side who s) n)) (ends_found keys (updated side who s) n)) p ∙ ap (λ (j : ℕ). cond b (suc j) j) q in
    let was : (b : Bool) → found_end keys (side n).claims ≡ b → ends_found keys side (suc n) ≡ cond b (suc (ends_found keys side n)) (ends_found keys side n) =
    λ b p. ap (λ (c : Bool). cond c (suc (ends_found keys side n)) (ends_found keys side n)) p in
    ⊎_elim
    (λ (t : (n ≡ who) × (updated side who s n ≡ s)).
    let here : ends_found keys (updated side who s) n ≡ ends_found keys side n = ⊎_elim (λ (q : (who < n) × (ends_found keys (updated side who s) n ≡ suc (ends_found keys side n))). let l : who < n = q.0 in let e : n ≡ who = t.0 in absurd (omega arith)) (λ q. q.1) (ends_more keys side who s before after n) in
    let l : n ≡ who = t.0 in
    inl (omega arith, step true (ends_found keys side n) (ap (λ (z : Side). found_end keys z.claims) t.1 ∙ after) here ∙ ap suc (sym (was false (ap (λ (u : ℕ). found_end keys (side u).claims) t.0 ∙ before)))))
    (λ (t : (n ≢ who) × (updated side who s n ≡ side n)).
    let ne : n ≢ who = t.0 in
    let same = ap (λ (z : Side). found_end keys z.claims) t.1 in
    ⊎_elim
    (λ (q : (who < n) × (ends_found keys (updated side who s) n ≡ suc (ends_found keys side n))).
    let l : who < n = q.0 in
    inl (omega arith, step (found_end keys (side n).claims) (suc (ends_found keys side n)) same q.1 ∙ over (found_end keys (side n).claims) (ends_found keys side n)))
    (λ (q : (n ≤ who) × (ends_found keys (updated side who s) n ≡ ends_found keys side n)).
    let l : n ≤ who = q.0 in
    inr (omega arith, step (found_end keys (side n).claims) (ends_found keys side n) same q.1))
    (ends_more keys side who s before after n))
    (updated_at side who n s)
  where
    over : (b : Bool) (k : ℕ) → cond b (suc (suc k)) (suc k) ≡ suc (cond b (suc k) k)
    over true k = refl
    over false k = refl

claim_keeps : (w : World) (side : ℕ → Side) (who : ℕ) → MayClaim w (side who) who → Claims w side
    → Claims (claim_world w) (updated side who (claim_side (side who) w.counter))
claim_keeps w side who may c =
    let s : Side = claim_side (side who) w.counter in
    let side' : ℕ → Side = updated side who s in
    let back : (u n : ℕ) → In n (side' u).claims → ((u ≡ who) × (n ≡ w.counter)) ⊎ In n (side u).claims = λ u n.
    by_side side who s (λ (x : ℕ) (t : Side). In n t.claims → ((x ≡ who) × (n ≡ w.counter)) ⊎ In n (side x).claims) (λ h. ⊎_elim (λ e. inl (refl, e)) inr h) (λ x ne h. inr h) u in
    let to : (u n : ℕ) → In n (side u).claims → In n (side' u).claims = λ u n.
    by_side side who s (λ (x : ℕ) (t : Side). In n (side x).claims → In n t.claims) (λ h. inr h) (λ x ne h. h) u in
    record {
      all = λ n h. elim (dec_lt n w.counter) [
        | yes l ↦ (let t = c.all n l in (t.0, t.1, to t.0 n t.2))
        | no l ↦ (let e : n ≡ w.counter = omega arith in (who, may.worker, subst (λ (t : Side). In n t.claims) (sym (updated_here side who who s refl)) (inl e)))
      ];
      below = λ u n h. ⊎_elim (λ (p : (u ≡ who) × (n ≡ w.counter)). let e : n ≡ w.counter = p.1 in omega arith) (λ i. let l = c.below u n i in omega arith) (back u n h);
      one_worker = λ u v n h i. ⊎_elim
          (λ (p : (u ≡ who) × (n ≡ w.counter)). ⊎_elim (λ (q : (v ≡ who) × (n ≡ w.counter)). p.0 ∙ sym q.0) (λ j. let l = c.below v n j in let e : n ≡ w.counter = p.1 in absurd (omega arith)) (back v n i))
          (λ g. ⊎_elim (λ (q : (v ≡ who) × (n ≡ w.counter)). let l = c.below u n g in let e : n ≡ w.counter = q.1 in absurd (omega arith)) (λ j. c.one_worker u v n g j) (back v n i))
          (back u n h);
      once = by_side side who s (λ (u : ℕ) (t : Side). IsFalling t.claims) ((λ m h. c.below who m h), c.once who) (λ u ne. c.once u);
      ends = elim (dec_lt w.counter w.keys) [
        | yes l ↦ omega arith
        | no l ↦ (
            let after : found_end w.keys s.claims ≡ true = ap (λ (b : Bool). b || found_end w.keys (side who).claims) (le-leb w.keys w.counter (omega arith)) in
            let old : w.counter ≤ w.keys + ends_found w.keys side w.workers = c.ends in
            ⊎_elim
            (λ (q : (who < w.workers) × (ends_found w.keys side' w.workers ≡ suc (ends_found w.keys side w.workers))). let e : ends_found w.keys side' w.workers ≡ suc (ends_found w.keys side w.workers) = q.1 in omega arith)
            (λ (q : (w.workers ≤ who) × (ends_found w.keys side' w.workers ≡ ends_found w.keys side w.workers)). let a : w.workers ≤ who = q.0 in let b : who < w.workers = may.worker in absurd (omega arith))
            (ends_more w.keys side who s (found_end_not w.keys (side who).claims may.keys) after w.workers))
      ];
    }

notes_claims : (s : Side) (ns : List Fact) → (note_all s ns).claims ≡ s.claims
notes_claims s [] = refl
notes_claims s (n ∷ ns) = notes_claims s ns

others : (w : World) (side : ℕ → Side) (who : ℕ) (m : Move) → Uncounted w (world_after w who m)
    → (side_after w (side who) who m).claims ≡ (side who).claims → Claims w side
    → Claims (world_after w who m) (sides_after w side who m)
others w side who m u same c =
    claims_stay w (world_after w who m) side (sides_after w side who m) u (field_same side who (side_after w (side who) who m) (λ (t : Side). t.claims) same) c

pub claims_kept : (w : World) (side : ℕ → Side) (who : ℕ) (m : Move) → Claims w side → IsAllowed w side who m
    → Claims (world_after w who m) (sides_after w side who m)
claims_kept w side who claims c may = claim_keeps w side who may c
claims_kept w side who (learns ns) c may = others w side who (learns ns) (uncounted w) (notes_claims (side who) ns) c
claims_kept w side who (opens p) c may = others w side who (opens p) record { counter = refl; keys = refl; workers = refl } (entries_claims (open_side (side who) (w.next_number who)) (next_desc w who) p p.size) c
claims_kept w side who (reads_cell j) c may = others w side who (reads_cell j) (uncounted w) (cell_claims (side who) j (w.cell j) (side who).current w.act_count (w.next_number who)) c
claims_kept w side who (reads_control d) c may = others w side who (reads_control d) (uncounted w) (control_claims (side who) d (w.control d)) c
claims_kept w side who (reads_mark_control x j) c may =
    let d : Ref = w.mark_desc x in
    others w side who (reads_mark_control x j) (uncounted w) (mark_claims (control_noted (side who) d (w.control d)) x j (w.control d) ∙ control_claims (side who) d (w.control d)) c
claims_kept w side who (places d e) c may =
    others w side who (places d e) (either_uncounted w (place_world w (next_mark w who) d e) (is_plain (w.cell (w.target d e)) (w.old d e)) record { counter = refl; keys = refl; workers = refl })
    (place_claims (side who) (next_mark w who) d e (w.target d e) (w.old d e) (w.cell (w.target d e)) w.act_count) c
claims_kept w side who (settles x j to) c may =
    let b : Bool = to && is_mark (w.cell j) x in
    others w side who (settles x j to) (either_uncounted w (cell_world w j (settled_cell w x to)) (is_mark (w.cell j) x) record { counter = refl; keys = refl; workers = refl })
    (either_claims (settle_noted (side who) (w.mark_desc x) (w.mark_entry x) j b) (side who) (side who) (is_number (side who).unsettled who x) (settle_claims (side who) (w.mark_desc x) (w.mark_entry x) j b) refl) c
claims_kept w side who (decides d k) c may =
    others w side who (decides d k) (decided_uncounted w d (w.control d) k) (control_claims (side who) d ((world_after w who (decides d k)).control d)) c
claims_kept w side who (releases d e) c may =
    let t : Side = paid_side (side who) d (w.target d e) in
    others w side who (releases d e) (either_uncounted w (cell_world w (w.target d e) (released_cell w d e)) (is_desc (w.cell (w.target d e)) d) record { counter = refl; keys = refl; workers = refl })
    (either_claims (release_noted t e (w.size d)) t (side who) (is_number (side who).current who d) (release_claims t e (w.size d)) refl) c
