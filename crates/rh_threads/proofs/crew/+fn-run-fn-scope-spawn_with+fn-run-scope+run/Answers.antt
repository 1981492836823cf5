use Rattle.std.proofs.Common.{◌∙◌, ℕ, Bool, subst, sym}
use Rattle.rh_threads.specs.Crew.{AllMayStart, HaveWorked}
use Rattle.rh_threads.specs.declared.crew.Crew.{Crew}
use Rattle.rh_threads.specs.declared.crew.HalfOf.{HalfOf}
use Rattle.rh_threads.proofs.Crews.{all_worked, may_start_all}
use Rattle.rh_threads.proofs.crew.+fn-run-fn-scope-spawn_with+fn-run-scope+run.Goals as goal

pub returns-clause-worked : goal.returns-clause-worked
returns-clause-worked g t c =
    let both = c.in_ok-left.ensures.1.0 in
    let e = c.glue.ensures in
    all_worked c.args.table.now c.args.keys.now c.args.crew c.cut-left.result.0 c.cut-left.result.1 c.requires.can c.cut-left.ensures.halves c.in_ok-left.left c.in_ok-left.right c.glue.result
    both.0 both.1 e.here e.seats e.hands

pub returns-clause-starts : goal.returns-clause-starts
returns-clause-starts g t c =
    let may = c.in_ok-left.ensures.1.1 in
    let cut = c.cut-left.ensures.halves.seats in
    let left = c.cut-left.result.0.seat in
    let right = c.cut-left.result.1.seat in
    let allows : ℕ → Bool = g.S.Starts.allows c.args.starts.now in
    may_start_all allows c.args.crew.seat.side.worker left.count right.side.worker right.count c.args.crew.seat.count cut.middle cut.end
    (subst (λ (n : ℕ). AllMayStart allows n left.count) cut.first may.0) (sym c.allowed.ensures ∙ c.if-not-allowed.false) may.1

pub scope-returns-in_ok-theirs-in-Ok : goal.scope-returns-in_ok-theirs-in-Ok
scope-returns-in_ok-theirs-in-Ok g t c =
    let mine = c.in_ok-mine-in-Ok.ensures in
    let theirs = c.in_ok-theirs-in-Ok.ensures in
    let then = c.in_ok-theirs-in-Ok.field-0 in
    let allows : ℕ → Bool = g.S.Starts.allows c.captures.starts.now in
    let promised = λ (p : HalfOf g.row.S.Denot). HaveWorked p.table.now p.keys.now p.crew.value then × AllMayStart (g.S.Starts.allows p.starts.now) p.crew.value.seat.side.worker p.crew.value.seat.count in
    let half = λ (right : Crew). HaveWorked c.captures.table.now c.captures.keys.now right then × AllMayStart allows right.seat.side.worker right.seat.count in
    let kept : half c.captures.right = subst half c.of.ensures (subst promised c.in-Ok.ensures.ok theirs) in
    ((mine.worked, kept.0), (mine.starts, kept.1), tt)
