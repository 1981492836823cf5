use Rattle.std.proofs.Common.{◌≡◌, ℕ, ◌-◌, ◌<◌, refl, sym, ap, ◌∙◌, subst, arith, List, length, take, get_or}
use Rattle.std.proofs.lemmas.List.{get_or_default, get_or-set_other, length-set}
use Rattle.rh_rule.specs.Wipes.{row_total}
use Rattle.rh_words.specs.Parts.{cell_count}
use Rattle.rh_words.specs.View.{round_view}
use Rattle.rh_worker.specs.Worker.{IsWorker}
use Rattle.rh_turns.specs.declared.hand.Hand.{Hand}
use Rattle.rh_turns.specs.Hands.{view_of}
use Rattle.rh_turns.specs.Laws.{HandBegins}
use Rattle.rh_interleaving.proofs.Rounds.{begins_more, between, front_same, wipes}
use Rattle.rh_interleaving.proofs.turns.begin_round.Goals as goal

pub loop-number-preserved : goal.loop-number-preserved
loop-number-preserved c =
    let z = c.args.shape.now in
    let n = c.loop-number.number in
    let inside : n < length c.args.hands.now = c.loop-number-test.true in
    let h = get_or c.loop-number.hands n c.index-hands-number.result in
    let before : (other : Hand) → h ≡ get_or c.args.hands.now n other =
    λ other. c.loop-number.invariant.rest n c.index-hands-number.result (omega arith) ∙ get_or_default c.args.hands.now n c.index-hands-number.result other inside in
    record {
      size = length-set c.loop-number.hands n _ ∙ c.loop-number.invariant.size;
      begun = begins_more z (take (cell_count z) c.args.words.now) c.args.hands.now c.loop-number.hands n _ c.loop-number.invariant.size inside c.loop-number.invariant.begun
          (λ other. subst (λ (x : Hand). HandBegins z (take (cell_count z) c.args.words.now) x (record h { worker = c.begin_round.new.self })) (before other) (record {
            worker = c.begin_round.ensures.worker z (subst (λ (x : Hand). IsWorker z x.worker) (sym (before h)) (c.requires.workers n h inside));
            kind_same = c.begin_round.ensures.keeps.kind;
            key_same = c.begin_round.ensures.keeps.key;
            idle = c.begin_round.ensures.idle;
            again = c.begin_round.ensures.again;
            view = c.begin_round.ensures.view ∙ ap (λ (cells : List ℕ). round_view cells (view_of h)) (front_same c.args.words.now _ c.cells-cells.result (cell_count z) (omega (arith, c.requires.sized, c.cells-cells.ensures)) c.cells-cells.ensures);
            share = refl;
            done = refl;
            changed = refl;
          }));
      rest = λ v other later. get_or-set_other c.loop-number.hands n v _ other (λ e. omega (arith, e, later)) ∙ c.loop-number.invariant.rest v other (omega (arith, later));
    }

pub returns-clause-wiped : goal.returns-clause-wiped
returns-clause-wiped c =
    let z = c.args.shape.now in
    let words = c.args.words.now in
    let cells = c.cells-cells.result in
    let rows : length words - 1 - cells ≡ row_total z = omega (arith, c.requires.sized, c.cells-cells.ensures) in
    let middle = between words cells (length words - 1 - cells) (omega (arith, c.requires.sized, c.cells-cells.ensures)) in
    wipes z words c.fill.new.self cells (length words - 1 - cells) c.requires.sized c.cells-cells.ensures rows (c.fill.ensures.len ∙ middle)
    (λ k less. c.fill.ensures.clones k 0 (subst (λ (n : ℕ). k < n) (sym middle) less) refl)
