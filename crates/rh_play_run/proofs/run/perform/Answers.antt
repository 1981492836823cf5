use Rattle.std.proofs.Common.{◌≡◌, ◌^◌, ◌<◌, ◌++◌, ◌∙◌, List, sym, ap, subst, ℕ}
use Rattle.rh_play_run.specs.declared.log.Telling.{Telling}
use Rattle.rh_play_run.specs.declared.limits.TheConstants.{MAX_TOLD}
use Rattle.rh_play_run.specs.Pieces.{MayBeTold, steps_after, told}
use Rattle.rh_play_run.proofs.Begun.{matches}
use Rattle.rh_play_run.proofs.Played.{is_layout, last_game, played}
use Rattle.rh_play_run.proofs.run.perform.Goals as goal

pub follow-requires : goal.follow-requires
follow-requires c =
    let play = c.args.play.now in
    let begins = c.in_ok-player.ensures.begins in
    let start = matches play play.work begins.cells _ begins.starts in (
      start.workers ∙ sym c.workers_of.ensures,
      ap (λ (b : ℕ). 2 ^ b) start.bits ∙ sym c.cells_in.ensures,
      subst (λ (n : ℕ). 0 < n) (sym c.workers_of.ensures) start.some,
    )

pub made_cells-requires : goal.made_cells-requires
made_cells-requires c =
    let follows = rw c.deref.ensures.value at c.in_ok-follow.ensures.1 in
    let last = last_game c.args.play.now _ _ _ c.in_ok-player.ensures.begins follows in
    ap (λ (b : ℕ). 2 ^ b) last.bits ∙ sym c.cells_in.ensures

pub returns-clause-plays : goal.returns-clause-plays
returns-clause-plays c =
    let follows = rw c.deref.ensures.value at c.in_ok-follow.ensures.1 in
    let pieces = c.in_ok-follow.ensures.0 in
    let tells = c.in_ok-follow.ensures.2 in
    let log = c.new-log.result in
    let counted = tells.steps ∙ ap (λ (n : ℕ). steps_after n pieces) c.new-log.ensures.steps in
    let body_is : MayBeTold c.args.telling c.follow.new.log.steps → c.follow.new.log.text.items ≡ told c.args.telling 0 pieces =
    λ within.
    tells.text (subst (λ (t : Telling). MayBeTold t c.follow.new.log.steps) (sym c.new-log.ensures.telling) within)
    ∙ ap (λ (l : List ℕ). l ++ told log.telling log.steps pieces) c.new-log.ensures.text
    ∙ ap (λ (t : Telling). told t log.steps pieces) c.new-log.ensures.telling
    ∙ ap (λ (n : ℕ). told c.args.telling n pieces) c.new-log.ensures.steps in
    record {
      short = λ within.
          played c.args.telling c.args.play.now _ _ pieces _ _ _ c.in_ok-player.ensures.begins follows (subst (MayBeTold c.args.telling) counted within) (body_is within)
          c.in_ok-cells.ensures.so_far c.in_ok-cells.ensures.finished c.in_ok-closing.ensures.closes c.in_ok-closing.ensures.finished;
      long = λ many. record { run = record { first = _; last = _; begins = c.in_ok-player.ensures.begins; pieces = pieces; follows = follows }; long = subst (λ (n : ℕ). MAX_TOLD < n) counted many };
    }

pub returns-clause-layout : goal.returns-clause-layout
returns-clause-layout c =
    let follows = rw c.deref.ensures.value at c.in_ok-follow.ensures.1 in
    let last = last_game c.args.play.now _ _ _ c.in_ok-player.ensures.begins follows in
    is_layout c.args.play.now _ _ last c.in_ok-cells.ensures.so_far
