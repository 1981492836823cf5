-- What the workers have made, where they have done it and are at rest, and what is answered of it.
use Rattle.std.proofs.Common.{◌≡◌, ◌∙◌, ℕ, ◌+◌, ◌^◌, ◌<◌, List, ap, subst, sym, Bool, false, length, replicate, arith, ◌++◌, take, drop}
use Rattle.std.specs.FinSet as set
use Rattle.rh_layout.specs.Layout.{IsLayout, Layout, keys_of}
use Rattle.rh_ledger.specs.Phase.{most_added, looked_up}
use Rattle.rh_acts.specs.Workers.{LeavesRoom}
use Rattle.rh_words.specs.declared.shape.Shape.{Shape}
use Rattle.rh_shared.specs.Crews.{views_of}
use Rattle.rh_shared.specs.Ends.{Leaves}
use Rattle.rh_shared.specs.declared.table.Table.{Table}
use Rattle.rh_threads.specs.Made.{HasWorkedOut, IsWorkedOut, first_set}
use Rattle.rh_threads.specs.Rounds.{Setting, at_table, AddsMarks, is_marked}
use Rattle.rh_threads.specs.declared.crew.Crew.{Crew}
use Rattle.rh_threads.proofs.Beginning.{few_changed, leaves_room, small}
use Rattle.rh_threads.proofs.Ending.{has_made}
use Rattle.rh_threads.proofs.Gathering.{all_spans}
use Rattle.std.specs.Prelude.{◌||◌, slice_index_or}
use Rattle.std.specs.FinSet.{contains}
use Rattle.std.proofs.lemmas.List.{ext_get_or, get_or-map, get_or-replicate, length-map, length-replicate, append-nil, drop_all, take_all}
use Rattle.rh_ledger.specs.declared.tally.Kind.TheVariants.{Ask}
use Rattle.rh_threads.specs.declared.hand.Hand.{Hand}

pub worked_made : (ph : Setting) (t : Table) (c : Crew) (values : List ℕ) → IsWorkedOut ph t c → Leaves t.shape (views_of c.seat) values → IsLayout ph.shape.bits ph.opening
    → set.len (keys_of ph.opening) + most_added ph.kind ph.keys < 2 ^ ph.shape.bits → HasWorkedOut ph values c.hands
worked_made ph t c values w leaves layout room =
    let b = ph.shape.bits in
    let S = keys_of ph.opening in
    let bits : t.shape.bits ≡ b = ap (λ (y : Shape). y.bits) w.shape_is in
    subst (λ (y : Shape). HasWorkedOut (record ph { shape = y }) values c.hands) w.shape_is
    (has_made (at_table t ph.keys ph) (views_of c.seat) c.hands values (all_spans t c.seat w.all) (w.crew.long ∙ w.all.count) w.comes leaves w.crew.list w.finished w.crew.hands
    (subst (λ (n : ℕ). Layout ph.opening n S) (sym bits) layout)
    (subst (λ (n : ℕ). LeavesRoom ph.kind n S ph.keys) (sym bits) (leaves_room ph.kind b S ph.keys room))
    (few_changed ph.kind b S ph.keys (small b layout.bits) room))

-- what was asked for is answered
pub are_answered : (ph : Setting) (values : List ℕ) (hs : List Hand) (old new : List Bool) → ph.kind ≡ Ask → HasWorkedOut ph values hs → ph.positions ≡ length ph.keys → old ≡ replicate (length ph.keys) false
    → AddsMarks (is_marked hs) old new → new ≡ looked_up (first_set ph) ph.keys
are_answered ph values hs old new asks made all old_is marks = ext_get_or false new (looked_up (first_set ph) ph.keys) (new_long ∙ sym (length-map ph.keys (contains (first_set ph)))) (λ p inside.
    let within : p < length ph.keys = omega (arith, inside, new_long) in
    let of_old : slice_index_or old p false ≡ false = ap (λ (l : List Bool). slice_index_or l p false) old_is ∙ get_or-replicate (length ph.keys) p false false within in
    marks.marked p (let l = marks.long in omega (arith, inside, l)) ∙ ap (λ (b : Bool). b || is_marked hs p) of_old ∙ made.found asks p within (omega (arith, within, all))
    ∙ sym (get_or-map (contains (first_set ph)) ph.keys p 0 false within))
  where
    new_long : length new ≡ length ph.keys
    new_long = marks.long ∙ ap length old_is ∙ length-replicate (length ph.keys) false

-- a list that was written whole, by a slice of it
pub whole : {A : Type 0} (n : ℕ) (new old : List A) → length new ≡ n → length old ≡ n → take n (new ++ drop (length new) old) ≡ new
whole n new old long was =
    ap (λ l. take n (new ++ l)) (drop_all (length new) old (omega (arith, long, was))) ∙ ap (take n) (append-nil new) ∙ take_all n new (omega (arith, long))
