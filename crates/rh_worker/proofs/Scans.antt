-- What a scan has seen, and what it tells.
use Rattle.std.proofs.Common.{◌≡◌, ◌≢◌, None, ℕ, ◌+◌, ◌<◌, ◌≤◌, Bool, List, length, get_or, get_or-take, take, length-take-le, sym, ap, ◌∙◌, subst, ⊎_elim, arith}
use Rattle.std.specs.List.{Contains}
use Rattle.rh_layout.specs.Round.{cell_ahead}
use Rattle.rh_layout.specs.Order.{home_of}
use Rattle.rh_ledger.specs.declared.tally.Kind.{Kind}
use Rattle.rh_ledger.specs.declared.tally.Kind.TheVariants.{Insert, Remove, Ask}
use Rattle.rh_world.proofs.Updated.{same_nat}
use Rattle.rh_layout.specs.declared.entry.Entry.{Entry}
use Rattle.rh_acts.specs.Done.{IsAsRead, Kept, kept}
use Rattle.rh_order.specs.History.{kept_of}
use Rattle.rh_words.specs.declared.shape.Shape.{Shape}
use Rattle.rh_words.specs.Parts.{cell_count}
use Rattle.rh_words.specs.View.{View}
use Rattle.rh_helping.specs.Next.{Looked, Looking}
use Rattle.rh_helping.specs.Next.Looked.{On, Sees, Spent}
use Rattle.rh_helping.specs.Next.{Looking as looking}
use Rattle.rh_helping.specs.Looking.{IsLooking, LooksOn}
use Rattle.rh_order.specs.Advance.{GoesOn}
use Rattle.rh_worker.specs.declared.scan_buffer.ScanBuffer.{ScanBuffer}
use Rattle.rh_worker.specs.declared.deciding.Decision.TheVariants.{Done}
use Rattle.rh_worker.specs.Deciding.{Decides}
use Rattle.rh_worker.specs.Worker.{HasSeenCells, WereRead}

pub as_read_is : (kind : Kind) (z : Shape) (v : View) (k : ℕ) (seen : List ℕ) (entries : List Entry) (answer : Bool) → length seen ≤ cell_count z → WereRead z v k seen
    → Decides kind z.bits k seen entries (Done answer) → IsAsRead kind z.bits (kept_of z v) k answer
as_read_is Insert z v k seen entries answer room read d =
    let c = cell_ahead (cell_count z) (home_of z.bits k) d.1.0 in
    (d.0, (c, subst (λ (x : ℕ). Contains (kept_of z v) (kept c x)) d.1.1.2 (read d.1.0 d.1.1.0)))
as_read_is Remove z v k seen entries answer room read d = absurd d
as_read_is Ask z v k seen entries answer room read d = record { seen = seen; room = room; read = read; tells = d }

pub seen_again : (z : Shape) (v : View) (k : ℕ) (s t : ScanBuffer) (n : ℕ) → n < cell_count z → n ≤ length s.seen.items → t.seen.items ≡ s.seen.items → WereRead z v k (take n s.seen.items)
    → HasSeenCells z v k t n
seen_again z v k s t n inside within same h = record { within = inside; seen = omega (arith, ap length same, within); were_read = subst (λ (l : List ℕ). WereRead z v k (take n l)) (sym same) h }

pub none_seen : (z : Shape) (v : View) (k : ℕ) (s : ScanBuffer) → 0 < cell_count z → HasSeenCells z v k s 0
none_seen z v k s more = record { within = more; seen = omega arith; were_read = λ p l. absurd (omega arith) }

-- one more cell is read
pub more_seen : (z : Shape) (v next : View) (k n c value : ℕ) (items now : List ℕ) → ((r : Kept) → Contains (kept_of z v) r → Contains (kept_of z next) r)
    → WereRead z v k (take n items) → n ≤ length items → n < length now → ((p : ℕ) → p < n → get_or now p 0 ≡ get_or items p 0) → get_or now n 0 ≡ value
    → c ≡ cell_ahead (cell_count z) (home_of z.bits k) n → Contains (kept_of z next) (kept c value) → WereRead z next k (take (n + 1) now)
more_seen z v next k n c value items now stay before reached inside same last at read p l =
    let is : ℕ → ℕ = cell_ahead (cell_count z) (home_of z.bits k) in
    let size = length-take-le (n + 1) now (omega (arith, inside)) in
    let here : get_or (take (n + 1) now) p 0 ≡ get_or now p 0 = get_or-take (n + 1) now p 0 (omega (arith, size, l)) in
    ⊎_elim (λ (q : p ≡ n).
    let e : get_or (take (n + 1) now) p 0 ≡ value = here ∙ ap (λ (m : ℕ). get_or now m 0) q ∙ last in
    let c_is : c ≡ is p = at ∙ ap is (sym q) in
    subst (λ (x : ℕ). Contains (kept_of z next) (kept (is p) x)) (sym e) (subst (λ (x : ℕ). Contains (kept_of z next) (kept x value)) c_is read))
    (λ (ne : p ≢ n).
    let less : p < n = omega (arith, size, l) in
    let e : get_or (take (n + 1) now) p 0 ≡ get_or (take n items) p 0 = here ∙ same p less ∙ sym (get_or-take n items p 0 less) in
    subst (λ (x : ℕ). Contains (kept_of z next) (kept (is p) x)) (sym e) (stay _ (before p (omega (arith, length-take-le n items reached, less)))))
    (same_nat p n)

-- ---- looking at a cell

looking_closed : (z : Shape) (v : View) (l : Looking) → IsLooking z v l → v.side.current ≡ None
looking_closed z v looking.Read h = h.own.current
looking_closed z v (looking.Settle s) h = h.0.own.current
looking_closed z v (looking.Help w) h = h.0.current

looked_closed : (z : Shape) (v : View) (r : Looked) → LooksOn z v r → v.side.current ≡ None
looked_closed z v (On l) h = looking_closed z v l h
looked_closed z v (Sees word) h = h.0.own.current
looked_closed z v Spent h = h.0.own.current

-- no own descriptor is opened or closed by it
pub looks_on : (z : Shape) (v next : View) (l : Looking) (r : Looked) → IsLooking z v l → LooksOn z next r → next.opened ≡ v.opened → GoesOn v next
looks_on z v next l r h on opened = record { opened = opened; current = looked_closed z next r on ∙ sym (looking_closed z v l h) }
