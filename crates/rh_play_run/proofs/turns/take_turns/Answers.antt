use Rattle.std.proofs.Common.{◌≡◌, ℕ, suc, ◌+◌, List, [], ◌++◌, append-nil, append_assoc, arith, subst, sym}
use Rattle.rh_play_text.specs.declared.endings.Last.TheVariants.{Limit}
use Rattle.rh_play_run.specs.Pieces.{LogEntry}
use Rattle.rh_play_run.specs.Schedule.{TurnsOf}
use Rattle.rh_play_run.proofs.Following.{no_turns, nothing_told, one_turn_more, then_tells}
use Rattle.rh_play_run.proofs.turns.take_turns.Goals as goal

pub turns-init : goal.turns-init
turns-init c = record {
  done = [];
  tells = nothing_told _;
  turns = λ more is told rest next turns.
      let all : more ≡ c.args.turns = omega arith in
      subst (λ (n : ℕ). TurnsOf c.args.worker n c.args.player.now Limit told rest next) all turns;
}

pub turns-preserved : goal.turns-preserved
turns-preserved c =
    let before = c.turns.invariant in
    let turn = c.in_ok-take_turn.ensures in
    record {
      done = before.done ++ turn.0;
      tells = then_tells _ _ _ before.done turn.0 before.tells turn.2;
      turns = λ more is told rest next turns.
          let here : c.turns.counter + suc more ≡ c.args.turns = omega arith in
          subst (λ (pieces : List LogEntry). TurnsOf c.args.worker c.args.turns c.args.player.now Limit told pieces next) (sym (append_assoc before.done turn.0 rest))
          (before.turns (suc more) here told (turn.0 ++ rest) next (one_turn_more _ _ _ _ _ _ _ _ _ turn.0 rest turn.1 c.last_of-last.ensures turns));
    }

pub returns : goal.returns
returns c =
    let here : c.turns.counter + 0 ≡ c.args.turns = omega arith in
    let before = c.turns.invariant in
    let turns = before.turns 0 here _ [] _ (no_turns _ _ _) in
    (before.done, subst (λ (pieces : List LogEntry). TurnsOf c.args.worker c.args.turns c.args.player.now Limit c.turns.last pieces c.turns.player) (append-nil before.done) turns, before.tells)
