use Rattle.std.proofs.Common.{◌≡◌, ◌∙◌, List, length, sym, ap, subst}
use Rattle.std.specs.Prelude.{All}
use Rattle.std.proofs.lemmas.List.{with_items_is}
use Rattle.rh_worker.specs.Worker.{IsWorker}
use Rattle.rh_turns.specs.declared.hand.Hand.{Hand}
use Rattle.rh_turns.specs.Game.{AllStopped, Game}
use Rattle.rh_interleaving.specs.Turned.{IsStopped}
use Rattle.rh_interleaving.proofs.Rounds.{begins_round, plays_next}
use Rattle.rh_interleaving.proofs.player.Player.next_round.Goals as goal

pub begin_round-requires-clause-workers : goal.begin_round-requires-clause-workers
begin_round-requires-clause-workers c =
    subst (λ (hs : List Hand). All (λ h. IsWorker c.self.inside.shape h.worker) hs) (sym c.as_mut_slice-2.ensures.value) (λ v d inside. (c.self.invariant.hands v d inside).worker)

pub begin_round-requires-clause-stopped : goal.begin_round-requires-clause-stopped
begin_round-requires-clause-stopped c =
    subst (λ (hs : List Hand). All IsStopped hs) (ap (λ (g : Game). g.hands) (sym c.self.view_is) ∙ sym c.as_mut_slice-2.ensures.value) (c.all_stopped.ensures.0 c.if-not-all_stopped.false)

pub invariant_of-self : goal.invariant_of-self
invariant_of-self c =
    let stopped : AllStopped c.args.self.now = c.all_stopped.ensures.0 c.if-not-all_stopped.false in
    let words_size : length c.begin_round.new.words ≡ c.self.inside.table.words.len = c.begin_round.auto.words ∙ c.as_mut_slice.ensures.len in
    let hands_size : length c.begin_round.new.hands ≡ c.self.inside.hands.len = c.begin_round.auto.hands ∙ c.as_mut_slice-2.ensures.len in
    plays_next _ c.as_mut_slice.result.now c.as_mut_slice-2.result.now c.begin_round.new.words c.begin_round.new.hands
    c.as_mut_slice.ensures.value c.as_mut_slice-2.ensures.value c.begin_round.ensures.wiped c.begin_round.ensures.workers c.begin_round.ensures.begins
    c.self.invariant (subst AllStopped (sym c.self.view_is) stopped) _ _ (with_items_is c.self.inside.table.words c.begin_round.new.words words_size) (with_items_is c.self.inside.hands c.begin_round.new.hands hands_size)

pub returns-clause-begins : goal.returns-clause-begins
returns-clause-begins c =
    let words_size : length c.begin_round.new.words ≡ c.self.inside.table.words.len = c.begin_round.auto.words ∙ c.as_mut_slice.ensures.len in
    let hands_size : length c.begin_round.new.hands ≡ c.self.inside.hands.len = c.begin_round.auto.hands ∙ c.as_mut_slice-2.ensures.len in
    λ t. begins_round _ c.as_mut_slice.result.now c.as_mut_slice-2.result.now c.begin_round.new.words c.begin_round.new.hands
    c.as_mut_slice.ensures.value c.as_mut_slice-2.ensures.value c.begin_round.ensures.wiped c.begin_round.ensures.workers c.begin_round.ensures.begins
    c.args.self.now c.self.view_is _ _ (with_items_is c.self.inside.table.words c.begin_round.new.words words_size) (with_items_is c.self.inside.hands c.begin_round.new.hands hands_size)
