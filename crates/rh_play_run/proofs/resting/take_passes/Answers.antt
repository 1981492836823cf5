use Rattle.std.proofs.Common.{◌≡◌, ℕ, suc, ◌+◌, ◌-◌, ◌∙◌, List, [], ◌++◌, append_assoc, arith, subst, sym}
use Rattle.rh_play_run.specs.Pieces.{LogEntry}
use Rattle.rh_play_run.specs.Schedule.{PassesToRest}
use Rattle.rh_play_run.proofs.Following.{last_pass, nothing_told, one_pass_more, quiet_pass, then_tells}
use Rattle.rh_play_run.proofs.Keeping.{each_keeps}
use Rattle.rh_play_run.proofs.resting.take_passes.Goals as goal

pub passes-init : goal.passes-init
passes-init c = record {
  workers = c.requires;
  done = [];
  tells = nothing_told _;
  rests = λ left is rest next rests.
      let all : left ≡ c.args.passes = omega arith in
      subst (λ (n : ℕ). PassesToRest n c.args.more c.args.player.now rest next) all rests;
}

pub passes-preserved : goal.passes-preserved
passes-preserved c =
    let before = c.passes.invariant in
    let turns = c.in_ok-some.ensures in
    let pass = rw c.if-not-some.false at turns.1 in
    let kept = each_keeps _ _ _ _ _ _ _ turns.1 in
    record {
      workers = kept.workers ∙ before.workers;
      done = before.done ++ turns.0;
      tells = then_tells _ _ _ before.done turns.0 before.tells turns.2;
      rests = λ left is rest next rests.
          let here : c.passes.counter + suc left ≡ c.args.passes = omega arith in
          subst (λ (pieces : List LogEntry). PassesToRest c.args.passes c.args.more c.args.player.now pieces next) (sym (append_assoc before.done turns.0 rest))
          (before.rests (suc left) here (turns.0 ++ rest) next (one_pass_more _ _ _ _ _ _ turns.0 rest before.workers pass rests));
    }

pub returns-then-not-some : goal.returns-then-not-some
returns-then-not-some c =
    let left = c.args.passes - suc c.passes.counter in
    let here : c.passes.counter + suc left ≡ c.args.passes = omega arith in
    let before = c.passes.invariant in
    let turns = c.in_ok-some.ensures in
    let pass = rw c.if-not-some.true at turns.1 in (
      before.done ++ turns.0,
      before.rests (suc left) here turns.0 _ (quiet_pass left _ _ _ _ turns.0 before.workers pass),
      then_tells _ _ _ before.done turns.0 before.tells turns.2,
    )

pub returns : goal.returns
returns c =
    let here : c.passes.counter + 0 ≡ c.args.passes = omega arith in
    let before = c.passes.invariant in
    let turns = c.in_ok-take_turn_of_each.ensures in (
      before.done ++ turns.0,
      before.rests 0 here turns.0 _ (last_pass _ _ _ _ turns.0 turns.1),
      then_tells _ _ _ before.done turns.0 before.tells turns.2,
    )
