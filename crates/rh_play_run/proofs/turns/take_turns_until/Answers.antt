use Rattle.std.proofs.Common.{◌≡◌, ℕ, suc, ◌+◌, ◌-◌, List, [], ◌++◌, append-nil, append_assoc, arith, subst, sym}
use Rattle.rh_play_run.specs.Pieces.{LogEntry}
use Rattle.rh_play_run.specs.Schedule.{TurnsUntil}
use Rattle.rh_play_run.proofs.Following.{nothing_told, then_tells, until_limit, until_more, until_reached}
use Rattle.rh_play_run.proofs.turns.take_turns_until.Goals as goal

pub turns-init : goal.turns-init
turns-init c = record {
  done = [];
  tells = nothing_told _;
  turns = λ more is told rest next turns.
      let all : more ≡ c.args.limit = omega arith in
      subst (λ (n : ℕ). TurnsUntil n c.args.worker c.args.kind c.args.player.now told rest next) all turns;
}

pub turns-preserved : goal.turns-preserved
turns-preserved c =
    let before = c.turns.invariant in
    let turn = c.in_ok-turn.ensures in
    record {
      done = before.done ++ turn.0;
      tells = then_tells _ _ _ before.done turn.0 before.tells turn.2;
      turns = λ more is told rest next turns.
          let here : c.turns.counter + suc more ≡ c.args.limit = omega arith in
          subst (λ (pieces : List LogEntry). TurnsUntil c.args.limit c.args.worker c.args.kind c.args.player.now told pieces next) (sym (append_assoc before.done turn.0 rest))
          (before.turns (suc more) here told (turn.0 ++ rest) next (until_more _ _ _ _ _ _ _ _ turn.0 rest turn.1 (c.reaches.ensures.other c.if-reaches.false) turns));
    }

pub returns-then-reaches : goal.returns-then-reaches
returns-then-reaches c =
    let more = c.args.limit - suc c.turns.counter in
    let here : c.turns.counter + suc more ≡ c.args.limit = omega arith in
    let before = c.turns.invariant in
    let turn = c.in_ok-turn.ensures in (
      before.done ++ turn.0,
      before.turns (suc more) here _ turn.0 _ (until_reached more _ _ _ _ _ _ turn.0 turn.1 (c.reaches.ensures.last c.if-reaches.true) c.last_of.ensures),
      then_tells _ _ _ before.done turn.0 before.tells turn.2,
    )

pub returns : goal.returns
returns c =
    let here : c.turns.counter + 0 ≡ c.args.limit = omega arith in
    let before = c.turns.invariant in
    let turns = before.turns 0 here _ [] _ (until_limit _ _ _) in
    (before.done, subst (λ (pieces : List LogEntry). TurnsUntil c.args.limit c.args.worker c.args.kind c.args.player.now _ pieces c.turns.player) (append-nil before.done) turns, before.tells)
