-- Each allowed step of a worker keeps the rule.
use Rattle.std.proofs.Common.{◌∙◌, ℕ, ◌<◌, List, get_or, refl, set, sym, subst}
use Rattle.std.proofs.lemmas.List.{set-get_or}
use Rattle.rh_world.specs.World.{World, updated}
use Rattle.rh_words.specs.declared.shape.Shape.{Shape}
use Rattle.rh_words.specs.View.{View}
use Rattle.rh_words.specs.Steps.{IsStep, Step, noted, index, index_read, read_view, word_after}
use Rattle.rh_rule.specs.Core.{Core, EachStepOnWordsKeeps, world_then}
use Rattle.rh_rule.proofs.CellsKept.{keeps_release, keeps_settle}
use Rattle.rh_rule.proofs.DecidesKept.{keeps_decide}
use Rattle.rh_rule.proofs.OpensKept.{keeps_open}
use Rattle.rh_rule.proofs.PlacesKept.{keeps_place}
use Rattle.rh_rule.proofs.ReadsKept.{keeps_read}
use Rattle.rh_rule.proofs.WritesKept.{keeps_claim, keeps_write}

step_keeps : (w : World) (z : Shape) (words : List ℕ) (keep : ℕ → View) (who : ℕ) (s : Step) → (core : Core w z words keep)
    → who < z.workers → IsStep z (keep who) s
    → Core (world_then z w who (keep who) s) z (set words (index z (keep who) s) (word_after (keep who) s (get_or words (index z (keep who) s) 0)))
    (updated keep who (noted z (keep who) s (get_or words (index z (keep who) s) 0)))
step_keeps w z words keep who (Step.writes p u) core mine may = keeps_write z words keep w core.side core.rule core.represents who mine p u may
step_keeps w z words keep who (Step.opens size) core mine may = keeps_open z words keep w core.side core.rule core.represents who mine size may
step_keeps w z words keep who (Step.reads r) core mine may =
    subst (λ (ws : List ℕ). Core w z ws (updated keep who (read_view (keep who) r (get_or words (index_read z r) 0)))) (sym (set-get_or words (index_read z r) 0))
    (keeps_read z words keep w core.side core.rule core.represents who mine r may.0 may.1 (get_or words (index_read z r) 0) refl)
step_keeps w z words keep who (Step.places d e c old) core mine may = keeps_place z words keep w core.side core.rule core.represents who mine d e c old may
step_keeps w z words keep who (Step.settles x c d e old) core mine may = keeps_settle z words keep w core.side core.rule core.represents who mine x c d e old may
step_keeps w z words keep who (Step.decides d k) core mine may = keeps_decide z words keep w core.side core.rule core.represents who mine d k may
step_keeps w z words keep who (Step.releases d e c k value) core mine may = keeps_release z words keep w core.side core.rule core.represents who mine d e c k value may
step_keeps w z words keep who Step.claims core mine may = keeps_claim z words keep w core.side core.rule core.represents who mine may

pub each_step_keeps : EachStepOnWordsKeeps
each_step_keeps w z words then keep who s word next core mine may to =
    let p : ℕ = index z (keep who) s in
    subst (λ (x : List ℕ × View). Core (world_then z w who (keep who) s) z x.0 (updated keep who x.1))
    (λ i. (sym (to.words_are ∙ (λ j. set words p (word_after (keep who) s (to.found_is j)))) i, sym (to.view_is ∙ (λ j. noted z (keep who) s (to.found_is j))) i))
    (step_keeps w z words keep who s core mine may.step)
