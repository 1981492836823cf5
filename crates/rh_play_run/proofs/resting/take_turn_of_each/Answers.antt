use Rattle.std.proofs.Common.{◌≡◌, ℕ, suc, ◌+◌, ◌||◌, ◌∙◌, false, List, [], ◌++◌, append-nil, append_assoc, arith, subst, sym}
use Rattle.rh_play_run.specs.Pieces.{LogEntry}
use Rattle.rh_play_run.specs.Schedule.{TurnOfEach, makes_step}
use Rattle.rh_play_run.proofs.Following.{no_worker_left, nothing_told, one_worker_more, then_tells}
use Rattle.rh_play_run.proofs.resting.take_turn_of_each.Goals as goal
use Rattle.rh_play_run.proofs.resting.take_turn_of_each.Goals.{then-some, else-some}

pub loop-worker-init : goal.loop-worker-init
loop-worker-init c = record {
  done = [];
  tells = nothing_told _;
  turns = λ more is some rest next turns.
      let all : more ≡ c.args.count = omega arith in
      subst (λ (n : ℕ). TurnOfEach n 0 c.args.player.now false some rest next) all turns;
}

pub loop-worker-preserved : goal.loop-worker-preserved
loop-worker-preserved c =
    let before = c.loop-worker.invariant in
    let turn = c.in_ok-take_turn.ensures in
    record {
      done = before.done ++ turn.0;
      tells = then_tells _ _ _ before.done turn.0 before.tells turn.2;
      turns = λ more is some rest next turns.
          let here : c.loop-worker.worker + suc more ≡ c.args.count = omega arith in
          let after : c.if-some.some ≡ c.loop-worker.some || makes_step c.in_ok-take_turn.field-0 =
          elim c.if-some.branch [
            | then-some w ↦ rw w.if-some.true (w.some-is ∙ w.if-some.true)
            | else-some w ↦ rw w.if-some.false (w.some-is ∙ c.makes_step-made.ensures)
          ] in
          subst (λ (pieces : List LogEntry). TurnOfEach c.args.count 0 c.args.player.now false some pieces next) (sym (append_assoc before.done turn.0 rest))
          (before.turns (suc more) here some (turn.0 ++ rest) next (one_worker_more _ _ _ _ _ _ _ _ _ turn.0 rest turn.1 after turns));
    }

pub returns : goal.returns
returns c =
    let here : c.loop-worker.worker + 0 ≡ c.args.count = omega arith in
    let before = c.loop-worker.invariant in
    let turns = before.turns 0 here _ [] _ (no_worker_left _ _ _) in
    (before.done, subst (λ (pieces : List LogEntry). TurnOfEach c.args.count 0 c.args.player.now false c.loop-worker.some pieces c.loop-worker.player) (append-nil before.done) turns, before.tells)
