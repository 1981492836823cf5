use Rattle.std.proofs.Common.{◌≡◌, ◌∙◌, ◌<◌, length, refl, arith}
use Rattle.std.proofs.lemmas.List.{with_items_is}
use Rattle.rh_turns.specs.Hands.{moment}
use Rattle.rh_interleaving.proofs.Turning.{few_done, is_hand, plays_on, relies_on, turned_to}
use Rattle.rh_interleaving.proofs.player.Player.trace.Goals as goal

pub take_turn-turn-requires-clause-relies : goal.take_turn-turn-requires-clause-relies
take_turn-turn-requires-clause-relies c =
    let inside : c.args.worker < length c.self.inside.hands.items = omega (arith, c.if-worker-len.false, c.len.ensures, c.self.inside.hands.ok) in
    relies_on _ c.self.invariant c.args.worker inside c.index_mut.result.now c.index_mut.ensures.value c.self.inside.table.words.items refl

pub take_turn-turn-requires-clause-hand : goal.take_turn-turn-requires-clause-hand
take_turn-turn-requires-clause-hand c =
    let inside : c.args.worker < length c.self.inside.hands.items = omega (arith, c.if-worker-len.false, c.len.ensures, c.self.inside.hands.ok) in
    is_hand _ c.self.invariant c.args.worker inside c.index_mut.result.now c.index_mut.ensures.value c.deref.result.now c.deref.ensures.value

pub take_turn-turn-requires-clause-done : goal.take_turn-turn-requires-clause-done
take_turn-turn-requires-clause-done c =
    let inside : c.args.worker < length c.self.inside.hands.items = omega (arith, c.if-worker-len.false, c.len.ensures, c.self.inside.hands.ok) in
    few_done _ c.self.invariant c.args.worker inside c.index_mut.result.now c.index_mut.ensures.value c.deref.result.now c.deref.ensures.value

pub invariant_of-self : goal.invariant_of-self
invariant_of-self c =
    let inside : c.args.worker < length c.self.inside.hands.items = omega (arith, c.if-worker-len.false, c.len.ensures, c.self.inside.hands.ok) in
    let answers_size : length c.take_turn-turn.new.answers ≡ c.self.inside.answers.len = c.take_turn-turn.auto.answers ∙ c.as_mut_slice.ensures.len in
    plays_on _ c.self.invariant c.args.worker inside c.index_mut.result.now c.index_mut.ensures.value
    c.deref.result.now c.self.inside.table.words.items c.as_mut_slice.result.now c.deref.ensures.value refl c.as_mut_slice.ensures.value
    c.take_turn-turn.new.table.last c.take_turn-turn.result (moment c.take_turn-turn.new.table.words.items c.take_turn-turn.new.answers c.take_turn-turn.new.hand) c.take_turn-turn.ensures.turns c.take_turn-turn.ensures.hand _ _
    refl (with_items_is c.self.inside.answers c.take_turn-turn.new.answers answers_size)

pub returns : goal.returns
returns c =
    let inside : c.args.worker < length c.self.inside.hands.items = omega (arith, c.if-worker-len.false, c.len.ensures, c.self.inside.hands.ok) in
    let answers_size : length c.take_turn-turn.new.answers ≡ c.self.inside.answers.len = c.take_turn-turn.auto.answers ∙ c.as_mut_slice.ensures.len in
    rw c.touched_in.ensures
    (turned_to _ c.self.invariant c.args.worker inside c.index_mut.result.now c.index_mut.ensures.value
    c.deref.result.now c.self.inside.table.words.items c.as_mut_slice.result.now c.deref.ensures.value refl c.as_mut_slice.ensures.value
    c.take_turn-turn.new.table.last c.take_turn-turn.result (moment c.take_turn-turn.new.table.words.items c.take_turn-turn.new.answers c.take_turn-turn.new.hand) c.take_turn-turn.ensures.turns
    c.args.self.now c.self.view_is _ _ refl (with_items_is c.self.inside.answers c.take_turn-turn.new.answers answers_size))
