-- What was read for a key since it was begun.
use Rattle.std.proofs.Common.{zero, suc, ◌≡◌, ◌≢◌, ℕ, ◌<◌, ◌≤◌, List, [], ◌∷◌, ◌++◌, length, map, filter, get_or, take, get_or-take, length-take-le, append_assoc, inl, ⊎_elim, refl, sym, ap, ◌∙◌, subst, arith}
use Rattle.std.specs.Prelude.{Bool, Option, Some, None, IfSome, nat_lt}
use Rattle.std.specs.List.{Contains}
use Rattle.std.proofs.lemmas.List.Elements.{Contains-append_left, Contains-append_right}
use Rattle.rh_ledger.specs.declared.tally.Kind.{Kind}
use Rattle.rh_world.specs.Sides.{KeptRead}
use Rattle.rh_world.proofs.Updated.{same_nat}
use Rattle.rh_acts.specs.Done.{Kept, kept}
use Rattle.rh_acts.proofs.ActLemmas.{contains_head}
use Rattle.rh_order.specs.Advance.{GoesOn}
use Rattle.rh_layout.specs.Round.{cell_ahead}
use Rattle.rh_layout.specs.Order.{home_of}
use Rattle.rh_order.specs.History.{kept_of, value_of}
use Rattle.rh_words.specs.declared.shape.Shape.{Shape}
use Rattle.rh_words.specs.Parts.{cell_count}
use Rattle.rh_words.specs.View.{View}
use Rattle.rh_worker.specs.Reading.{HasScanned, IsAsReadAnew, TellsAnew, seen_back}
use Rattle.rh_worker.specs.Worker.{WereRead}

-- the same reads are kept
pub kept_alike : (z : Shape) (v next : View) → next.side.reads ≡ v.side.reads → kept_of z next ≡ kept_of z v
kept_alike z v next same = ap (λ (rs : List KeptRead). map (λ r. kept r.cell (value_of r.word)) (filter (λ r. nat_lt r.cell (cell_count z)) rs)) same

-- nothing more was read
pub none_read : (z : Shape) (before : List Kept) (v next : View) (k : ℕ) (seen : List ℕ) (n : ℕ) → kept_of z next ≡ kept_of z v
    → HasScanned z before v k seen n → HasScanned z before next k seen n
none_read z before v next k seen n same h = record { since = h.since; reads = same ∙ h.reads }

-- what was seen is left
pub left_off : (z : Shape) (before : List Kept) (v : View) (k : ℕ) (seen other : List ℕ) (n : ℕ) → HasScanned z before v k seen n → HasScanned z before v k other 0
left_off z before v k seen other n h = record { since = seen_back z k seen n ++ h.since; reads = h.reads ∙ sym (append_assoc (seen_back z k seen n) h.since before) }

-- the first n cells are seen alike
alike : (z : Shape) (k : ℕ) (seen other : List ℕ) (n : ℕ) → ((p : ℕ) → p < n → get_or other p 0 ≡ get_or seen p 0) → seen_back z k other n ≡ seen_back z k seen n
alike z k seen other zero same = refl
alike z k seen other (suc n) same =
    ap (λ (x : ℕ). kept (cell_ahead (cell_count z) (home_of z.bits k) n) x ∷ seen_back z k other n) (same n (omega arith))
    ∙ ap (λ (l : List Kept). kept (cell_ahead (cell_count z) (home_of z.bits k) n) (get_or seen n 0) ∷ l) (alike z k seen other n (λ p l. same p (omega arith)))

pub seen_alike : (z : Shape) (before : List Kept) (v : View) (k : ℕ) (seen other : List ℕ) (n : ℕ) → ((p : ℕ) → p < n → get_or other p 0 ≡ get_or seen p 0)
    → HasScanned z before v k seen n → HasScanned z before v k other n
seen_alike z before v k seen other n same h = record {
  since = h.since;
  reads = h.reads ∙ ap (λ (l : List Kept). l ++ (h.since ++ before)) (sym (alike z k seen other n same));
}

-- the next cell is read
pub one_read : (z : Shape) (before : List Kept) (v next : View) (k : ℕ) (seen now : List ℕ) (n c value : ℕ) → ((p : ℕ) → p < n → get_or now p 0 ≡ get_or seen p 0) → get_or now n 0 ≡ value
    → c ≡ cell_ahead (cell_count z) (home_of z.bits k) n → kept_of z next ≡ kept c value ∷ kept_of z v
    → HasScanned z before v k seen n → HasScanned z before next k now (suc n)
one_read z before v next k seen now n c value same last at read h =
    let old = seen_alike z before v k seen now n same h in
    record {
      since = old.since;
      reads = read ∙ ap (λ (ks : List Kept). kept c value ∷ ks) old.reads
          ∙ ap (λ (x : Kept). x ∷ (seen_back z k now n ++ (old.since ++ before))) (ap (λ (a : ℕ). kept a value) at ∙ ap (λ (x : ℕ). kept (cell_ahead (cell_count z) (home_of z.bits k) n) x) (sym last));
    }

-- what was seen, as a list of its own
pub front_read : (z : Shape) (before : List Kept) (v : View) (k : ℕ) (seen : List ℕ) (n : ℕ) → n ≤ length seen
    → HasScanned z before v k seen n → HasScanned z before v k (take n seen) (length (take n seen))
front_read z before v k seen n within h =
    subst (HasScanned z before v k (take n seen)) (sym (length-take-le n seen within))
    (seen_alike z before v k seen (take n seen) n (λ p less. get_or-take n seen p 0 less) h)

-- each of these reads is kept
in_back : (z : Shape) (k : ℕ) (seen : List ℕ) (n p : ℕ) → p < n → Contains (seen_back z k seen n) (kept (cell_ahead (cell_count z) (home_of z.bits k) p) (get_or seen p 0))
in_back z k seen zero p less = absurd (omega arith)
in_back z k seen (suc n) p less = ⊎_elim
    (λ (e : p ≡ n). subst (λ (q : ℕ). Contains (seen_back z k seen (suc n)) (kept (cell_ahead (cell_count z) (home_of z.bits k) q) (get_or seen q 0))) (sym e) (contains_head _ (seen_back z k seen n)))
    (λ (ne : p ≢ n). Contains-append_right (kept (cell_ahead (cell_count z) (home_of z.bits k) n) (get_or seen n 0) ∷ []) (seen_back z k seen n) _ (in_back z k seen n p (omega (arith, less, ne))))
    (same_nat p n)

pub each_read : (z : Shape) (before : List Kept) (v : View) (k : ℕ) (seen : List ℕ) → HasScanned z before v k seen (length seen) → WereRead z v k seen
each_read z before v k seen h p less =
    subst (λ (l : List Kept). Contains l (kept (cell_ahead (cell_count z) (home_of z.bits k) p) (get_or seen p 0))) (sym h.reads)
    (Contains-append_left (seen_back z k seen (length seen)) (h.since ++ before) _ (in_back z k seen (length seen) p less))

pub tells_anew : (z : Shape) (before : List Kept) (kind : Kind) (k : ℕ) (v next : View) (done : Option Bool) → GoesOn v next
    → IfSome done (IsAsReadAnew z before next kind k) → TellsAnew z before kind k v next done
tells_anew z before kind k v next None on h = tt
tells_anew z before kind k v next (Some answer) on h = inl (on, h)
