use Rattle.std.proofs.Common.{◌≡◌, ℕ, List, [], Result, Ok, Err, sym, ap, ◌∙◌}
use Rattle.std.specs.Prelude.{IfOk}
use Rattle.rh_words.specs.declared.shape.Shape.{Shape}
use Rattle.rh_words.specs.View.{View}
use Rattle.rh_rule.specs.Seats.{first_view, new_views}
use Rattle.rh_shared.specs.Crews.{HasAll, head_of, views_of}
use Rattle.rh_shared.specs.Seats.{view_of}
use Rattle.rh_shared.specs.declared.seat.Seat.{Seat}
use Rattle.rh_shared.specs.declared.table.Table.{Table}
use Rattle.rh_kcas_tests.proofs.tables.one_worker.Goals as goal

-- the only worker of a table that was made claimed nothing
no_claims : (z : Shape) (cells : List ℕ) (r : Table × Seat) → r.0.shape ≡ z → z.workers ≡ 1 → HasAll r.0 r.1 → views_of r.1 ≡ first_view z cells → (view_of r.1).side.claims ≡ []
no_claims z cells r shape one all views =
    let count : r.1.count ≡ 1 = all.count ∙ ap (λ (t : Shape). t.workers) shape ∙ one in
    let head : view_of r.1 ≡ head_of (views_of r.1) = ap (λ x. head_of x.0) (sym (r.1.alone count)) in
    ap (λ (v : View). v.side.claims) (head ∙ ap head_of (views ∙ ap (λ (n : ℕ). new_views cells 0 n) one))

if_made : {E : Type 0} (z : Shape) (cells : List ℕ) (r : Result (Table × Seat) E) → z.workers ≡ 1 → IfOk r (λ x. x.0.shape ≡ z) → IfOk r (λ x. HasAll x.0 x.1)
    → IfOk r (λ x. views_of x.1 ≡ first_view z cells) → IfOk r (λ x. (view_of x.1).side.claims ≡ [])
if_made z cells (Ok x) one shape all views = no_claims z cells x shape one all views
if_made z cells (Err e) one shape all views = tt

pub returns-clause-claims : goal.returns-clause-claims
returns-clause-claims g c = if_made c.shape.result _ c.make.result c.shape.ensures.workers c.make.ensures.shape c.make.ensures.all c.make.ensures.views
