-- What the calls of a worker that rests make of the key that it is at.
use Rattle.std.proofs.Common.{◌≡◌, ◌≢◌, ℕ, suc, ◌+◌, ◌<◌, ◌≤◌, inl, inr, ⊎_elim, Option, Some, None, Bool, refl, sym, ◌∙◌, ap, subst, arith, List, [], ◌∷◌, ◌++◌, length, length-take-le, append_assoc, filter, map, reverse, set, take}
use Rattle.std.specs.Prelude.{◌&&◌, not, slice_index}
use Rattle.std.specs.List.{Contains}
use Rattle.std.proofs.lemmas.List.{get_or-set_other, get_or-set_same}
use Rattle.std.proofs.lemmas.List.Elements.{Contains-append_right}
use Rattle.rh_layout.specs.Round.{cell_ahead}
use Rattle.rh_layout.specs.Order.{home_of}
use mathlib.Core.List.{reverse-cons}
use Rattle.rh_layout.specs.declared.entry.Entry.{Entry}
use Rattle.rh_ledger.specs.declared.tally.Kind.{Kind}
use Rattle.rh_world.specs.World.{In, IsFalling}
use Rattle.rh_world.proofs.Updated.{same_nat, some_not_none}
use Rattle.rh_tagword.specs.Word.{IsValue}
use Rattle.rh_acts.specs.Act.{Act}
use Rattle.rh_acts.specs.Done.{Does, IsAsRead, Kept, kept}
use Rattle.rh_words.specs.declared.shape.Shape.{Shape}
use Rattle.rh_words.specs.Parts.{cell_count}
use Rattle.rh_words.specs.View.{OwnDesc, View, own_ref}
use Rattle.rh_rule.specs.Rest.{is_noted_success, made}
use Rattle.rh_rule.specs.Represents.{numbers_of}
use Rattle.rh_helping.specs.Opening.{next_own}
use Rattle.rh_helping.specs.declared.machine.Ended.{Ended}
use Rattle.rh_helping.specs.declared.machine.Ended.TheVariants as ended
use Rattle.rh_order.specs.History.{act_of, is_current, kept_of, own_acts_of, value_of}
use Rattle.rh_order.specs.OwnActs.{Orderly}
use Rattle.rh_order.specs.Known.{KnowsHeld}
use Rattle.rh_order.specs.Laws.{furthered}
use Rattle.rh_order.specs.Run.{Progress, ProgressInvariant}
use Rattle.rh_order.proofs.Stepping.{act_done, none_done, opened_more, opened_same, done_by_reads}
use Rattle.rh_shared.specs.Rests.{IsRested, StaysAtRest}
use Rattle.rh_swaps.specs.Swaps.{HasGivenUp, IsSeen, HasEndedSo, Swaps}
use Rattle.rh_swaps.specs.Swaps.{HasReadCell as WasRead}
use Rattle.rh_swaps.specs.Swaps.{HasNoRoom as HadNoRoom}
use Rattle.rh_shared.specs.Seats.{IsSame}
use Rattle.rh_swaps.specs.declared.swapping.Outcome.{Outcome}
use Rattle.rh_shared.specs.declared.seat.Seat.{Seat}
use Rattle.rh_shared.specs.declared.table.Table.{Table}
use Rattle.rh_worker.specs.Deciding.{Decides}
use Rattle.rh_worker.specs.declared.deciding.Decision.TheVariants.{Done}
use Rattle.rh_worker.specs.Reading.{HasScanned, IsAsReadAnew, seen_back}
use Rattle.rh_worker.specs.Worker.{HasNoRoom}
use Rattle.rh_worker.proofs.Keeping.{read_first}
use Rattle.rh_worker.proofs.Anew.{each_read, front_read, kept_alike, one_read}
use Rattle.rh_worker.proofs.Scans.{as_read_is}
use Rattle.rh_threads.specs.Keys.{Furthers, HasOnlyRead, IsDoneSo, IsUndone}

-- ---- what is so of a worker that rests

abbrev acts_of_made : List OwnDesc → List Act
acts_of_made ds = reverse (map (λ o. act_of o.entries) ds)

-- its own acts are those that are noted as succeeded
own_made : (v : View) → IsRested v → own_acts_of v ≡ acts_of_made (made v)
own_made v rest = ap (λ (c : Option ℕ). acts_of_made (filter (λ o. not (is_current c o.number) && is_noted_success v.side.facts (own_ref v o.number)) v.opened)) rest.clear.own.current

pub own_same : (v next : View) → IsRested v → IsRested next → made next ≡ made v → own_acts_of next ≡ own_acts_of v
own_same v next a b same = own_made next b ∙ ap acts_of_made same ∙ sym (own_made v a)

own_more : (v next : View) (d : OwnDesc) → IsRested v → IsRested next → made next ≡ d ∷ made v → own_acts_of next ≡ own_acts_of v ++ act_of d.entries ∷ []
own_more v next d a b more =
    own_made next b ∙ ap acts_of_made more ∙ reverse-cons (act_of d.entries) (map (λ (o : OwnDesc). act_of o.entries) (made v))
    ∙ ap (λ (l : List Act). l ++ act_of d.entries ∷ []) (sym (own_made v a))

knows_held : (v : View) → IsRested v → KnowsHeld v.side v.worker
knows_held v rest = record {
  unsettled = λ n e. absurd (some_not_none n (sym e ∙ rest.clear.owes.settled));
  debts = λ d c i. absurd (subst (In (record { desc = d; cell = c })) rest.clear.owes.paid i);
}

orderly_same : (v next : View) → Orderly v → IsRested next → next.opened ≡ v.opened → next.next_number ≡ v.next_number → Orderly next
orderly_same v next o rest opened number = record {
  falling = subst (λ (os : List OwnDesc). IsFalling (numbers_of os)) (sym opened) o.falling;
  below = λ n i. subst (λ (m : ℕ). n < m) (sym number) (o.below n (subst (λ (os : List OwnDesc). In n (numbers_of os)) opened i));
  newest = λ p e. absurd (some_not_none p (sym e ∙ rest.clear.own.current));
  over = λ d i. inr (rest.over d i);
}

orderly_more : (v next : View) (d : OwnDesc) → Orderly v → IsRested next → d.number ≡ v.next_number → next.opened ≡ d ∷ v.opened → next.next_number ≡ suc v.next_number → Orderly next
orderly_more v next d o rest is opened number = record {
  falling = subst (λ (os : List OwnDesc). IsFalling (numbers_of os)) (sym opened) ((λ m i. subst (λ (n : ℕ). m < n) (sym is) (o.below m i)), o.falling);
  below = λ n i. ⊎_elim
      (λ (e : n ≡ d.number). omega (arith, e, is, number))
      (λ (j : In n (numbers_of v.opened)). let less = o.below n j in omega (arith, less, number))
      (subst (λ (os : List OwnDesc). In n (numbers_of os)) opened i);
  newest = λ p e. absurd (some_not_none p (sym e ∙ rest.clear.own.current));
  over = λ e i. inr (rest.over e i);
}

-- ---- one call after the other

pub same_on : {s t u : Seat} → IsSame s t → IsSame t u → IsSame s u
same_on a b = record {
  sits = record { table = b.table ∙ a.table; id = b.id ∙ a.id; worker = b.worker ∙ a.worker; count = b.count ∙ a.count };
  placed = b.placed ∙ a.placed;
}

pub stays_on : {t : Table} {s u w : Seat} → IsSame s u → StaysAtRest t u w → StaysAtRest t s w
stays_on a b = record { same = same_on a b.same; rests = b.rests }

furthers_on : (z : Shape) (kind : Kind) (k : ℕ) (u v w : View) (answer : Option Bool) → Furthers z kind k u v None → Furthers z kind k v w answer → Furthers z kind k u w answer
furthers_on z kind k u v w answer a b p among is = b p among (a p among is)

module _ {z : Shape} {kind : Kind} {k : ℕ} {u v w : View} (a : IsUndone z kind k u v) where
  pub undone_on : IsUndone z kind k v w → IsUndone z kind k u w
  undone_on b = record {
    own = b.own ∙ a.own;
    since = b.since ++ a.since;
    reads = b.reads ∙ ap (λ (l : List Kept). b.since ++ l) a.reads ∙ sym (append_assoc b.since a.since (kept_of z u));
    claims = b.claims ∙ a.claims;
    opening = b.opening ∙ a.opening;
    furthers = furthers_on z kind k u v w None a.furthers b.furthers;
  }

  pub done_on : {answer : Bool} → IsDoneSo z kind k v w answer → IsDoneSo z kind k u w answer
  done_on {answer} b = record {
    claims = b.claims ∙ a.claims;
    opening = b.opening ∙ a.opening;
    furthers = furthers_on z kind k u v w (Some answer) a.furthers b.furthers;
    so = ⊎_elim
        (λ act. inl record { act = act.act; own = act.own ∙ ap (λ l. l ++ act.act ∷ []) a.own; does = act.does })
        (λ read. inr record {
          own = read.own ∙ a.own;
          tells = record {
            seen = read.tells.seen;
            read = record {
              since = read.tells.read.since ++ a.since;
              reads = read.tells.read.reads ∙ ap (λ (l : List Kept). seen_back z k read.tells.seen (length read.tells.seen) ++ l)
                  (ap (λ (l : List Kept). read.tells.read.since ++ l) a.reads ∙ sym (append_assoc read.tells.read.since a.since (kept_of z u)));
            };
            tells = read.tells.tells;
          };
        }) b.so;
  }

-- the answer, where the cells that were read decide
pub scan_tells : {z : Shape} {kind : Kind} {k : ℕ} {before : List Kept} {next : View} {now : List ℕ} {n : ℕ} (entries : List Entry) {answer : Bool} → n ≤ length now → length now ≤ cell_count z
    → HasScanned z before next k now n → Decides kind z.bits k (take n now) entries (Done answer) → IsAsReadAnew z before next kind k answer × IsAsRead kind z.bits (kept_of z next) k answer
scan_tells {z} {kind} {k} {before} {next} {now} {n} entries {answer} within room read decides =
    let front = front_read z before next k now n within read in
    let few : length (take n now) ≤ cell_count z = let l = length-take-le n now within in omega (arith, l, within, room) in (
      record { seen = take n now; read = front; tells = decides },
      as_read_is kind z next k (take n now) entries answer few (each_read z before next k (take n now) front) decides,
    )

-- one cell more was read
pub cell_read : {z : Shape} {k : ℕ} {before : List Kept} {v next : View} {seen : List ℕ} {n c word value : ℕ} → WasRead z c v next (Some word) → value ≡ value_of word → c < cell_count z
    → c ≡ cell_ahead (cell_count z) (home_of z.bits k) n → n < length seen → HasScanned z before v k seen n → HasScanned z before next k (set seen n value) (n + 1)
cell_read {z} {k} {before} {v} {next} {seen} {n} {c} {word} {value} is says inside at within read =
    let then = one_read z before v next k seen (set seen n value) n c value (λ p less. get_or-set_other seen n p value 0 (let e : p ≡ n → ⊥ = λ q. omega (arith, q, less) in e)) (get_or-set_same seen n value 0 within) at
    (read_first z v next c word v.next_number value is.seen_is.1 inside says) read in
    let last : suc n ≡ n + 1 = omega arith in
    subst (HasScanned z before next k (set seen n value)) last then

-- and it held a value
pub one_value : (seen : List ℕ) (n value : ℕ) → n < length seen → IsValue value → ((p : ℕ) → p < n → IsValue (slice_index seen p)) → (p : ℕ) → p < n + 1 → IsValue (slice_index (set seen n value) p)
one_value seen n value within is values p less = ⊎_elim
    (λ (e : p ≡ n). subst IsValue (sym (ap (λ (q : ℕ). slice_index (set seen n value) q) e ∙ get_or-set_same seen n value 0 within)) is)
    (λ (ne : p ≢ n). subst IsValue (sym (get_or-set_other seen n p value 0 ne)) (values p (omega (arith, less, ne))))
    (same_nat p n)

-- the key is done where what was read tells it
pub done_as_read : {z : Shape} {kind : Kind} {k : ℕ} {v next : View} {answer : Bool} → IsUndone z kind k v next → IsAsReadAnew z (kept_of z v) next kind k answer → IsAsRead kind z.bits (kept_of z next) k answer
    → IsDoneSo z kind k v next answer
done_as_read {z} {kind} {k} {v} {next} {answer} u anew tells = record {
  claims = u.claims;
  opening = u.opening;
  furthers = λ p among is.
      let so_far = u.furthers p among is in
      done_by_reads kind z (record p { view = next }) next so_far so_far.orderly so_far.knows (λ r h. h) k answer refl tells (opened_same kind z (record p { view = next }) next so_far so_far.orderly so_far.knows (λ r h. h) refl);
  so = inr record { own = u.own; tells = anew };
}

-- ---- a cell is read

module _ {z : Shape} {kind : Kind} {k : ℕ} {v next : View} (rest : IsRested v) (rests : IsRested next) where
  -- where no descriptor was opened
  undone : made next ≡ made v → (since : List Kept) → kept_of z next ≡ since ++ kept_of z v → next.side.claims ≡ v.side.claims → next.opening ≡ v.opening
      → next.opened ≡ v.opened → next.next_number ≡ v.next_number → IsUndone z kind k v next
  undone same since reads claims opening opened number = record {
    own = own_same v next rest rests same;
    since = since;
    reads = reads;
    claims = claims;
    opening = opening;
    furthers = λ p among is.
        let orderly = orderly_same v next is.orderly rests opened number in
        let held = knows_held next rests in
        let stay = λ (r : Kept) (h : Contains (kept_of z v) r). subst (λ (l : List Kept). Contains l r) (sym reads) (Contains-append_right since (kept_of z v) r h) in
        none_done kind z (record p { view = v }) next is orderly held stay (own_same v next rest rests same)
        (opened_same kind z (record p { view = v }) next is orderly held stay opened);
  }

  undone_read : {c : ℕ} {seen : Option ℕ} → c < cell_count z → made next ≡ made v → WasRead z c v next seen → IsUndone z kind k v next
  undone_read {c} {seen} inside same h = of seen h.seen_is
    where
      of : (s : Option ℕ) → IsSeen z c v next s → IsUndone z kind k v next
      of None q = undone same [] (kept_alike z v next q.0) h.claims h.opening h.opened h.next_number
      of (Some word) q = undone same (kept c (value_of word) ∷ []) (read_first z v next c word v.next_number (value_of word) q.1 inside refl) h.claims h.opening h.opened h.next_number

  pub only_read : {u : View} {c : ℕ} {seen : Option ℕ} → HasOnlyRead z kind k u v → c < cell_count z → made next ≡ made v → WasRead z c v next seen → HasOnlyRead z kind k u next
  only_read was inside same h = record { undone = undone_on was.undone (undone_read inside same h); unopened = h.next_number ∙ was.unopened }

  -- ---- several cells are swapped, in an act that does the key

  module _ (es : List Entry) (changes : Bool) (does : Does kind z.bits k changes (act_of es)) {o : Outcome} (s : Swaps z es v next o) where
    module _ {e : Ended} (is : HasEndedSo es v next e) (p : Progress) (among : Contains p.keys k) (so_far : ProgressInvariant z kind (record p { view = v })) where
      orderly : Orderly next
      orderly = orderly_more v next (next_own v es) so_far.orderly rests refl is.opened is.next_number

      stay : (r : Kept) → Contains (kept_of z v) r → Contains (kept_of z next) r
      stay r h = subst (λ (l : List Kept). Contains l r) (sym (kept_alike z v next s.reads)) h

      held : KnowsHeld next.side next.worker
      held = knows_held next rests

      failed_on : made next ≡ made v → ProgressInvariant z kind (record p { view = next })
      failed_on same = none_done kind z (record p { view = v }) next so_far orderly held stay (own_same v next rest rests same)
          (opened_more kind z (record p { view = v }) next so_far orderly held stay k among (next_own v es) changes is.opened does)

      done_so : made next ≡ next_own v es ∷ made v → ProgressInvariant z kind (furthered p next k (Some changes))
      done_so more = act_done kind z (record p { view = v }) next so_far orderly held stay k changes (act_of es) (own_more v next (next_own v es) rest rests more) does
          (opened_more kind z (record p { view = v }) next so_far orderly held stay k among (next_own v es) changes is.opened does)

    pub swap_failed : {e : Ended} → HasEndedSo es v next e → made next ≡ made v → IsUndone z kind k v next
    swap_failed is same = record {
      own = own_same v next rest rests same;
      since = [];
      reads = kept_alike z v next s.reads;
      claims = s.claims;
      opening = s.opening;
      furthers = λ p among so_far. failed_on is p among so_far same;
    }

    pub swap_done : {e : Ended} → HasEndedSo es v next e → made next ≡ next_own v es ∷ made v → IsDoneSo z kind k v next changes
    swap_done is more = record {
      claims = s.claims;
      opening = s.opening;
      furthers = λ p among so_far. done_so is p among so_far more;
      so = inl record { act = act_of es; own = own_more v next (next_own v es) rest rests more; does = does };
    }

    pub swap_given_up : HadNoRoom z v next → HasGivenUp es v next → made next ≡ made v → IsUndone z kind k v next × HasNoRoom z next
    swap_given_up room up same = ⊎_elim
        (λ (none : (next.opened ≡ v.opened) × (next.next_number ≡ v.next_number)). (undone same [] (kept_alike z v next s.reads) s.claims s.opening none.0 none.1, still room (omega (arith, none.1))))
        (λ (is : HasEndedSo es v next ended.Withdrawn). (swap_failed is same, still room (let n = is.next_number in omega (arith, n)))) up
      where
        still : HadNoRoom z v next → v.next_number ≤ next.next_number → HasNoRoom z next
        still had less = ⊎_elim (λ (d : z.rooms.descriptors ≤ v.next_number). inr (omega (arith, d, less))) (λ m. inl m) had
